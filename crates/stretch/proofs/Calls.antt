-- What the stretch by itself answers on either side of its tests. Assumes nothing.
use mathlib.Core.Path.{◌≡◌, refl, sym, ap, ◌∙◌}
use mathlib.Core.Bool.{Bool, true, false, ◌||◌, not}
use mathlib.Core.List.{List, [], ◌∷◌, map}
use Prim.Native.Nat.{ℕ, ◌≤◌, ◌<◌}
use borrow.Author.Tests.{lt-ltb, le-ltb, eq-eqb, ne_eqb}
use lib.Dec.{ltb, eqb}
use lib.ListN.{length}
use Rattle.spec.specs.Answer.{Answer, refused, done, first_of, or_refused, answer, number, after}
use Rattle.spec.specs.Lists.{lowest, highest}
use Rattle.spec.specs.Refusals.{too_long, unlike}
use Rattle.spec.specs.Stretch.{stretch_byte, stretch, scale_u16_to_u8}

-- by the two tests
tests : (xs : List ℕ) (out : ℕ) (a b : Bool) → ltb 16777216 (length xs) ≡ a → eqb out (length xs) ≡ b → scale_u16_to_u8 xs out ≡ answer (first_of 2 ((a || not b) ∷ [])) (stretch xs)
unfolding scale_u16_to_u8 too_long unlike
tests xs out a b p q = ap (λ (t : Bool). answer (first_of 2 ((t || not (eqb out (length xs))) ∷ [])) (stretch xs)) p ∙ ap (λ (t : Bool). answer (first_of 2 ((a || not t) ∷ [])) (stretch xs)) q

either : (t : Bool) (xs : List ℕ) → answer (first_of 2 ((t || true) ∷ [])) (stretch xs) ≡ refused 2
unfolding answer or_refused first_of
either true xs = refl
either false xs = refl

-- what is owed with the reply r and the list `new` afterwards
abbrev pub Owed : List ℕ → List ℕ → ℕ → List ℕ → Type 0
Owed xs old r new = (r ≡ number (scale_u16_to_u8 xs (length old))) × (new ≡ after (λ l. l) (scale_u16_to_u8 xs (length old)) old)

by_refusal : (xs old : List ℕ) → scale_u16_to_u8 xs (length old) ≡ refused 2 → Owed xs old 2 old
unfolding number after
by_refusal xs old e = (sym (ap number e), sym (ap (λ (q : Answer (List ℕ)). after (λ l. l) q old) e))

pub long_refused : (xs old : List ℕ) → 16777216 < length xs → Owed xs old 2 old
unfolding answer or_refused first_of
long_refused xs old h = by_refusal xs old (tests xs (length old) true (eqb (length old) (length xs)) (lt-ltb _ _ h) refl)

pub unlike-refused : (xs old : List ℕ) → (length old ≡ length xs → ⊥) → Owed xs old 2 old
unlike-refused xs old h = by_refusal xs old (tests xs (length old) (ltb 16777216 (length xs)) false refl (ne_eqb _ _ h) ∙ either (ltb 16777216 (length xs)) xs)

-- between the ends that were found
pub stretch_by : (lo hi : ℕ) (xs r : List ℕ) → lo ≡ lowest 65535 xs → hi ≡ highest 0 xs → r ≡ map (stretch_byte lo hi) xs → r ≡ stretch xs
unfolding stretch
stretch_by lo hi xs r p q e = e ∙ ap (λ (l : ℕ). map (stretch_byte l hi) xs) p ∙ ap (λ (h : ℕ). map (stretch_byte (lowest 65535 xs) h) xs) q

pub stretched : (lo hi : ℕ) (xs old new : List ℕ) → length xs ≤ 16777216 → length old ≡ length xs → (lo ≡ lowest 65535 xs) × (hi ≡ highest 0 xs) → new ≡ map (stretch_byte lo hi) xs → Owed xs old 0 new
unfolding answer or_refused first_of number after
stretched lo hi xs old new h e p v =
    let d : scale_u16_to_u8 xs (length old) ≡ done (stretch xs) = tests xs (length old) false true (le-ltb _ _ h) (eq-eqb _ _ e) in
    (sym (ap number d), stretch_by lo hi xs new p.0 p.1 v ∙ sym (ap (λ (q : Answer (List ℕ)). after (λ l. l) q old) d))
