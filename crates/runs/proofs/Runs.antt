-- From what the runs of a call owe to the demand of these runs. Assumes nothing.
use mathlib.Core.Path.{◌≡◌, refl, sym, ap, subst, ◌∙◌}
use mathlib.Core.List.{List, [], ◌∷◌}
use Prim.Native.Nat.{ℕ, zero, suc}
use native.Mathlib.Omega.{arith}
use lib.ListN.{length, get_or}
use lib.Ieee.{Float}
use Rattle.types.specs.declared.AutoscaleStrategy.{AutoscaleStrategy}
use Rattle.types.specs.declared.Lent.{Lent}
use Rattle.types.specs.declared.refusal.Refusal.{Refusal}
use Rattle.types.specs.declared.refusal.Refusal.TheVariants.{Sides, Lengths, Marks, Decibels, Tiles, Gamma}
use Rattle.types.specs.Replies.{refusal_number}
use Rattle.types.specs.declared.CoPol.{CoPol}
use Rattle.types.specs.declared.PictureChoices.{PictureChoices}
use Rattle.types.specs.declared.SyntheticRgbMode.{SyntheticRgbMode}
use Rattle.types.specs.declared.window.WindowAnswer.{WindowAnswer}
use Rattle.types.specs.declared.window.WindowAnswer.TheVariants.{Window, Blank, Refused}
use Rattle.std.specs.Prelude.{Result, Ok, Err}
use Rattle.spec.specs.Altered.{Altered}
use Rattle.spec.specs.Answer.{Answer, refused, done, or_refused, answer, number, after, read}
use Rattle.spec.specs.Colour.{bytes_of}
use Rattle.spec.specs.Grey.{autoscale_db_image_to_u8, autoscale_db_image_to_u16}
use Rattle.spec.specs.Copol.{synthetic_rgb_picture_copol}
use Rattle.spec.specs.Picture.{Picture, composed}
use Rattle.spec.specs.Places.{moved}
use Rattle.spec.specs.Curve.{compute_histogram}
use Rattle.spec.specs.Window.{read_window}
use Rattle.lists.proofs.Replies.{done-same}
use Rattle.demands.specs.GreyOrder.{OutsideClahe, Ranked}
use Rattle.demands.specs.Reordering.{Reorders, AreF64, moved_triples, MovedBy, same_refusal, both_done}
use Rattle.runs.specs.Reordered.{MovedBand}
use Rattle.demands.specs.Copol.{told, other_band, swapped_picture}
use Rattle.demands.proofs.Alteration.{alteration}
use Rattle.demands.proofs.Copol.{copol as copol-laws}
use Rattle.demands.proofs.GreyOrder.{grey-order}
use Rattle.demands.proofs.Moved.{order-size}
use Rattle.demands.proofs.Reordering.{reordering}

-- ---- a reply is known by how it is read

row : ℕ → Refusal
row n = get_or (Sides ∷ Sides ∷ Lengths ∷ Marks ∷ Decibels ∷ Tiles ∷ Gamma ∷ []) n Sides

row-number : (refusal : Refusal) → row (refusal_number refusal) ≡ refusal
unfolding row refusal_number
row-number Sides = refl
row-number Lengths = refl
row-number Marks = refl
row-number Decibels = refl
row-number Tiles = refl
row-number Gamma = refl

refusal-same : (r s : Refusal) → refusal_number r ≡ refusal_number s → r ≡ s
refusal-same r s e = sym (row-number r) ∙ ap row e ∙ row-number s

pub read-same : {A : Type 0} (a b : Result A Refusal) → read a ≡ read b → a ≡ b
unfolding read number
read-same (Ok a) (Ok b) e = cc
read-same (Ok a) (Err s) e = cc
read-same (Err r) (Ok b) e = cc
read-same (Err r) (Err s) e = ap Err (refusal-same r s (ap number e))

pub read-window-same : (a b : WindowAnswer) → read_window a ≡ read_window b → a ≡ b
unfolding read_window
read-window-same (Window l h r g) (Window l' h' r' g') e = cc
read-window-same (Window l h r g) Blank e = cc
read-window-same (Window l h r g) (Refused k) e = cc
read-window-same Blank (Window l' h' r' g') e = cc
read-window-same Blank Blank e = cc
read-window-same Blank (Refused k) e = cc
read-window-same (Refused k) (Window l' h' r' g') e = cc
read-window-same (Refused k) Blank e = cc
read-window-same (Refused k) (Refused l) e = cc

-- ---- two runs of the call for the bins, likewise

pub same-counts : (rows cols : ℕ) (m : List ℕ) (d d' : List Float) → Altered m d d' → (old old' new new' : List ℕ) (r r' : ℕ) → old ≡ old' →
    (r ≡ number (compute_histogram rows cols m d (length old))) × (new ≡ after (λ l. l) (compute_histogram rows cols m d (length old)) old) →
    (r' ≡ number (compute_histogram rows cols m d' (length old'))) × (new' ≡ after (λ l. l) (compute_histogram rows cols m d' (length old')) old') → (r ≡ r') × (new ≡ new')
same-counts rows cols m d d' a old old' new new' r r' o e e' =
    let s : compute_histogram rows cols m d (length old) ≡ compute_histogram rows cols m d' (length old') = cc (alteration.histogram rows cols m d d' (length old) a) in
    (cc, cc)

-- ---- two runs of a grey call, `call`, with equal answers: equal replies and equal lists. The second run's work list is as long as the first's.

pub same_greys : (call : List Float → ℕ → ℕ → Answer (List ℕ)) (d d' : List Float) → ((out work : ℕ) → call d out work ≡ call d' out work) →
    (out out' new new' : List ℕ) (work work' r r' : ℕ) → out ≡ out' → work' ≡ work →
    r ≡ number (call d (length out) work) → new ≡ after (λ l. l) (call d (length out) work) out →
    r' ≡ number (call d' (length out') work') → new' ≡ after (λ l. l) (call d' (length out') work') out' → (r ≡ r') × (new ≡ new')
same_greys call d d' same out out' new new' work work' r r' o w e f e' f' =
    let s : call d (length out) work ≡ call d' (length out') work' = cc (same (length out) work) in
    (cc, cc)

-- ---- a call is done where its number is 0

pub record Finished {A : Type 0} (a : Answer A) : Type 0 where
  pub result : A
  pub is : a ≡ done result

pub finished : {A : Type 0} (k : ℕ) (x : A) → number (answer k x) ≡ 0 → Finished (answer k x)
unfolding answer or_refused number
finished zero x e = record { result = x; is = refl }
finished (suc k) x e = absurd (omega (arith, e))

-- what a lent list then holds
after-done : {A : Type 0} (f : A → List ℕ) (a : Answer A) (p : A) (old new : List ℕ) → a ≡ done p → new ≡ after f a old → f p ≡ new
unfolding after
after-done {A} f a p old new e n = sym (n ∙ ap (λ (b : Answer A). after f b old) e)

-- ---- one run of a grey call: ranked greys

ranked_greys : (a : Answer (List ℕ)) (m : List ℕ) (d : List Float) → (number a ≡ 0 → Finished a) → ((greys : List ℕ) → a ≡ done greys → Ranked m d greys) →
    (out new : List ℕ) (r : ℕ) → r ≡ number a → new ≡ after (λ l. l) a out → r ≡ 0 → Ranked m d new
ranked_greys a m d f h out new r e n z = let p = f (sym e ∙ z) in subst (Ranked m d) (after-done (λ l. l) a p.result out new p.is n) (h p.result p.is)

module _ (strategy : AutoscaleStrategy) (n : OutsideClahe strategy) (rows cols : ℕ) (m : List ℕ) (d : List Float) (lent work : ℕ) (out new : List ℕ) (r : ℕ) where
  pub ranked_u8 : let a = autoscale_db_image_to_u8 strategy rows cols m d lent work in r ≡ number a → new ≡ after (λ l. l) a out → r ≡ 0 → Ranked m d new
  unfolding autoscale_db_image_to_u8
  ranked_u8 = ranked_greys _ m d (finished _ _) (grey-order.at_8_bits strategy n rows cols m d lent work) out new r

  pub ranked_u16 : let a = autoscale_db_image_to_u16 strategy rows cols m d lent work in r ≡ number a → new ≡ after (λ l. l) a out → r ≡ 0 → Ranked m d new
  unfolding autoscale_db_image_to_u16
  ranked_u16 = ranked_greys _ m d (finished _ _) (grey-order.at_16_bits strategy n rows cols m d lent work) out new r

-- ---- runs of the picture call

-- what a run with this answer owes: its number, and the three lent lists afterwards
abbrev Owed : Answer Picture → List ℕ → List ℕ → List ℕ → ℕ → List ℕ → List ℕ → List ℕ → Type 0
Owed a g1 g2 c r n1 n2 nc = (r ≡ number a) × (n1 ≡ after (λ p. p.grey1) a g1) × (n2 ≡ after (λ p. p.grey2) a g2) × (nc ≡ after (λ p. bytes_of p.colours) a c)

abbrev lent_of : ℕ → ℕ → ℕ → ℕ → Lent
lent_of g1 g2 c w = record { grey1 = g1; grey2 = g2; rgb = c; work = w }

picture_finished : (choices : PictureChoices) (rows cols : ℕ) (m1 : List ℕ) (d1 : List Float) (m2 : List ℕ) (d2 : List Float) (lent : Lent) →
    number (synthetic_rgb_picture_copol choices rows cols m1 d1 m2 d2 lent) ≡ 0 → Finished (synthetic_rgb_picture_copol choices rows cols m1 d1 m2 d2 lent)
unfolding synthetic_rgb_picture_copol
picture_finished choices rows cols m1 d1 m2 d2 lent e = finished _ _ e

pub ranked_picture : (choices : PictureChoices) → OutsideClahe choices.strategy → (rows cols : ℕ) (m1 : List ℕ) (d1 : List Float) (m2 : List ℕ) (d2 : List Float)
    (lent : Lent) (g1 g2 c : List ℕ) (r : ℕ) (n1 n2 nc : List ℕ) → Owed (synthetic_rgb_picture_copol choices rows cols m1 d1 m2 d2 lent) g1 g2 c r n1 n2 nc → r ≡ 0 →
    Ranked m1 d1 n1 × Ranked m2 d2 n2
ranked_picture choices n rows cols m1 d1 m2 d2 lent g1 g2 c r n1 n2 nc o z =
    let p = picture_finished choices rows cols m1 d1 m2 d2 lent (sym o.0 ∙ z) in
    let h = grey-order.picture choices n rows cols m1 d1 m2 d2 lent p.result p.is in
    (subst (Ranked m1 d1) (after-done (λ p. p.grey1) _ _ g1 n1 p.is o.1) h.0, subst (Ranked m2 d2) (after-done (λ p. p.grey2) _ _ g2 n2 p.is o.2) h.1)

-- equal answers are equal replies and equal lists
same_owed : (a a' : Answer Picture) → a ≡ a' → (g1 g1' g2 g2' c c' : List ℕ) → g1 ≡ g1' → g2 ≡ g2' → c ≡ c' → (r r' : ℕ) (n1 n1' n2 n2' nc nc' : List ℕ) →
    Owed a g1 g2 c r n1 n2 nc → Owed a' g1' g2' c' r' n1' n2' nc' → (r ≡ r') × (n1 ≡ n1') × (n2 ≡ n2') × (nc ≡ nc')
same_owed a a' e g1 g1' g2 g2' c c' e1 e2 ec r r' n1 n1' n2 n2' nc nc' o o' =
    let p = o.0 in
    let q = o'.0 in
    let p1 = o.1 in
    let q1 = o'.1 in
    let p2 = o.2 in
    let q2 = o'.2 in
    let p3 = o.3 in
    let q3 = o'.3 in
    (cc, cc, cc, cc)

pub altered_pictures : (choices : PictureChoices) (rows cols : ℕ) (m1 : List ℕ) (d1 d1' : List Float) (m2 : List ℕ) (d2 d2' : List Float) →
    Altered m1 d1 d1' → Altered m2 d2 d2' → (g1 g1' g2 g2' c c' : List ℕ) (w w' : ℕ) → g1 ≡ g1' → g2 ≡ g2' → c ≡ c' → w' ≡ w → (r r' : ℕ) (n1 n1' n2 n2' nc nc' : List ℕ) →
    Owed (synthetic_rgb_picture_copol choices rows cols m1 d1 m2 d2 (lent_of (length g1) (length g2) (length c) w)) g1 g2 c r n1 n2 nc →
    Owed (synthetic_rgb_picture_copol choices rows cols m1 d1' m2 d2' (lent_of (length g1') (length g2') (length c') w')) g1' g2' c' r' n1' n2' nc' →
    (r ≡ r') × (n1 ≡ n1') × (n2 ≡ n2') × (nc ≡ nc')
altered_pictures choices rows cols m1 d1 d1' m2 d2 d2' a b g1 g1' g2 g2' c c' w w' e1 e2 ec ew =
    same_owed _ _
    (alteration.picture choices rows cols m1 d1 d1' m2 d2 d2' (lent_of (length g1) (length g2) (length c) w) a b
    ∙ (λ i. synthetic_rgb_picture_copol choices rows cols m1 d1' m2 d2' (lent_of (length (e1 i)) (length (e2 i)) (length (ec i)) (sym ew i))))
    g1 g1' g2 g2' c c' e1 e2 ec

-- moved answers are equal replies, and moved lists where the number is 0
moved_owed : (ps : List ℕ) (a a' : Answer Picture) → MovedBy ps a a' → (number a ≡ 0 → Finished a) → (g1 g2 c g1' g2' c' : List ℕ) (r r' : ℕ) (n1 n2 nc n1' n2' nc' : List ℕ) →
    Owed a g1 g2 c r n1 n2 nc → Owed a' g1' g2' c' r' n1' n2' nc' →
    (r ≡ r') × (r ≡ 0 → (n1' ≡ moved 0 ps n1) × (n2' ≡ moved 0 ps n2) × (nc' ≡ moved_triples ps nc))
unfolding number after
moved_owed ps a a' (same_refusal k) f g1 g2 c g1' g2' c' r r' n1 n2 nc n1' n2' nc' o o' =
    (o.0 ∙ sym o'.0, λ z. let p = (f (sym o.0 ∙ z)).is in let never : ◌≡◌ {A = ℕ} 0 1 = cc in absurd (omega arith))
moved_owed ps a a' (both_done e1 e2 e3) f g1 g2 c g1' g2' c' r r' n1 n2 nc n1' n2' nc' o o' = (
  o.0 ∙ sym o'.0,
  λ z. (o'.1 ∙ e1 ∙ ap (moved 0 ps) (sym o.1), o'.2 ∙ e2 ∙ ap (moved 0 ps) (sym o.2), o'.3 ∙ e3 ∙ ap (moved_triples ps) (sym o.3)),
)

pub reordered_pictures : (choices : PictureChoices) → Reorders choices.strategy → (rows cols : ℕ) (m1 : List ℕ) (d1 : List Float) (m2 : List ℕ) (d2 : List Float)
    (m1' : List ℕ) (d1' : List Float) (m2' : List ℕ) (d2' : List Float) → AreF64 d1 → AreF64 d2 → (ps : List ℕ) → MovedBand ps m1 d1 m1' d1' → MovedBand ps m2 d2 m2' d2' →
    (k1 k2 kc k1' k2' kc' w w' : ℕ) → k1 ≡ k1' → k2 ≡ k2' → kc ≡ kc' → w' ≡ w → (g1 g2 c g1' g2' c' : List ℕ) (r r' : ℕ) (n1 n2 nc n1' n2' nc' : List ℕ) →
    Owed (synthetic_rgb_picture_copol choices rows cols m1 d1 m2 d2 (lent_of k1 k2 kc w)) g1 g2 c r n1 n2 nc →
    Owed (synthetic_rgb_picture_copol choices rows cols m1' d1' m2' d2' (lent_of k1' k2' kc' w')) g1' g2' c' r' n1' n2' nc' →
    (r ≡ r') × (r ≡ 0 → (n1' ≡ moved 0 ps n1) × (n2' ≡ moved 0 ps n2) × (nc' ≡ moved_triples ps nc))
reordered_pictures choices n rows cols m1 d1 m2 d2 m1' d1' m2' d2' f1 f2 ps b1 b2 k1 k2 kc k1' k2' kc' w w' l1 l2 lc lw =
    let lent = lent_of k1 k2 kc w in
    let size = sym (order-size ps (length m2) b2.order) ∙ order-size ps (length m1) b1.order in
    moved_owed ps _ _
    (subst (MovedBy ps (synthetic_rgb_picture_copol choices rows cols m1 d1 m2 d2 lent))
    (λ i. synthetic_rgb_picture_copol choices rows cols (sym b1.marks-moved i) (sym b1.db_moved i) (sym b2.marks-moved i) (sym b2.db_moved i) (lent_of (l1 i) (l2 i) (lc i) (sym lw i)))
    (reordering.picture choices n rows cols m1 d1 m2 d2 lent (length m1) refl b1.sized size (b2.sized ∙ size) f1 f2 ps b1.order))
    (picture_finished choices rows cols m1 d1 m2 d2 lent)

-- swapped answers are equal replies, and swapped greys where the number is 0
swapped_owed : (strategy : AutoscaleStrategy) (a a' : Answer Picture) → a' ≡ swapped_picture strategy a → (number a ≡ 0 → Finished a) → (g1 g2 c g1' g2' c' : List ℕ) (r r' : ℕ)
    (n1 n2 nc n1' n2' nc' : List ℕ) → Owed a g1 g2 c r n1 n2 nc → Owed a' g1' g2' c' r' n1' n2' nc' → (r ≡ r') × (r ≡ 0 → (n1' ≡ n2) × (n2' ≡ n1))
unfolding number after swapped_picture composed
swapped_owed strategy (refused k) a' e f g1 g2 c g1' g2' c' r r' n1 n2 nc n1' n2' nc' o o' =
    (o.0 ∙ sym (o'.0 ∙ ap number e), λ z. let p = (f (sym o.0 ∙ z)).is in let never : ◌≡◌ {A = ℕ} 0 1 = cc in absurd (omega arith))
swapped_owed strategy (done p) a' e f g1 g2 c g1' g2' c' r r' n1 n2 nc n1' n2' nc' o o' = (
  o.0 ∙ sym (o'.0 ∙ ap number e),
  λ z. (o'.1 ∙ ap (λ (b : Answer Picture). after (λ q. q.grey1) b g1') e ∙ sym o.2, o'.2 ∙ ap (λ (b : Answer Picture). after (λ q. q.grey2) b g2') e ∙ sym o.1),
)

pub swapped_pictures : (strategy : AutoscaleStrategy) (mode : SyntheticRgbMode) (copol other : CoPol) → other ≡ other_band copol → (rows cols : ℕ) (m1 : List ℕ) (d1 : List Float) (m2 : List ℕ) (d2 : List Float)
    (k1 k2 kc k1' k2' kc' w w' : ℕ) → k1 ≡ k2' → k2 ≡ k1' → kc ≡ kc' → w' ≡ w → (g1 g2 c g1' g2' c' : List ℕ) (r r' : ℕ) (n1 n2 nc n1' n2' nc' : List ℕ) →
    Owed (synthetic_rgb_picture_copol (told strategy mode copol) rows cols m1 d1 m2 d2 (lent_of k1 k2 kc w)) g1 g2 c r n1 n2 nc →
    Owed (synthetic_rgb_picture_copol (told strategy mode other) rows cols m2 d2 m1 d1 (lent_of k1' k2' kc' w')) g1' g2' c' r' n1' n2' nc' →
    (r ≡ r') × (r ≡ 0 → (n1' ≡ n2) × (n2' ≡ n1))
swapped_pictures strategy mode copol other e rows cols m1 d1 m2 d2 k1 k2 kc k1' k2' kc' w w' l1 l2 lc lw =
    swapped_owed strategy _ _
    ((λ i. synthetic_rgb_picture_copol (told strategy mode (e i)) rows cols m2 d2 m1 d1 (lent_of (sym l2 i) (sym l1 i) (sym lc i) (lw i)))
    ∙ copol-laws.swapped strategy mode copol rows cols m1 d1 m2 d2 (lent_of k1 k2 kc w))
    (picture_finished (told strategy mode copol) rows cols m1 d1 m2 d2 (lent_of k1 k2 kc w))
