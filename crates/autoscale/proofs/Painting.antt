-- The painting of a band, a pixel and a block at a time. Assumes nothing.
use mathlib.Core.Path.{◌≡◌, refl, sym, ap, ◌∙◌, subst}
use mathlib.Core.Bool.{Bool, true, false, not, cond, true≢false}
use mathlib.Core.List.{List, [], ◌∷◌, ◌++◌, map, map-append, zip_with}
use Prim.Native.Nat.{ℕ, zero, suc, ◌+◌, ◌-◌, ◌≤◌, ◌<◌, min}
use native.Mathlib.Nat.{add-zero, suc_inj, le_of_suc-le-suc, not-suc-le-zero}
use native.Mathlib.Omega.{arith}
use borrow.Author.Tests.{ne_eqb}
use borrow.Rule.Slice.PartMut.{put_mid}
use lib.Dec.{eqb, leb, le→leb}
use lib.Ieee.Bits.{is_true}
use lib.ListN.{length, take, drop, set, get_or, replicate, length-drop, length-map, drop_of_length-le}
use lib.Seq.{get_or-drop, length-take-le, take-add, take_all}
use Rattle.std.specs.Prelude.{Some, None, position}
use Rattle.std.specs.List.{position_or_len}
use Rattle.std.proofs.lemmas.Grind.{common_steps}
use Rattle.std.proofs.lemmas.List.{take-append-drop, append-nil}
use Rattle.std.proofs.lemmas.List.Quantifiers.{position-Some}
use Rattle.std.proofs.lemmas.List.Sums.{fails_before_first}
use Rattle.std.proofs.lemmas.Slice.{take-put_mid, drop-put_mid}
use lib.Ieee.{Float, nan}
use Rattle.spec.specs.Lists.{lowest}
use Rattle.spec.specs.Pixels.{Pixel, off, pixel, pixels}
use Rattle.spec.specs.Gamma.{U8, over, under, gamma_value, curve, curved, grey_value}
use Rattle.spec.specs.Value.{full8, normalized, value_of, paint}
use Rattle.autoscale.specs.Painted.{AllValid}
use Rattle.lists.proofs.Rows.{step}
use Rattle.lists.proofs.Zip.{zip-take, zip-drop}
use Rattle.raster.proofs.Bands.{drop-pixels, pixels_same, pixels-length}

-- ---- one pixel, by the value of its dB, as an element that holds numbers by `of`
module _ {B : Type 0} (of : ℕ → B) (value : Float → ℕ) where
  paint_pixel : (m : ℕ) (v : Float) → cond (eqb m 0) (of 0) (of (value v)) ≡ of (paint value (pixel m v))
  unfolding paint pixel
  paint_pixel zero v = refl
  paint_pixel (suc m) v = rw (ne_eqb (suc m) 0 (λ e. omega (arith, e)))

  -- a valid pixel
  pub paint-valid : (m : ℕ) (v : Float) → 0 < m → of (value v) ≡ of (paint value (pixel m v))
  unfolding paint pixel
  paint-valid zero v h = absurd (omega arith)
  paint-valid (suc m) v h = refl

  -- a pixel that is painted from the place read where it is valid, and else black
  pub paint-read : (m i last place : ℕ) (y x : B) (v : Float) (db : List Float) → place ≡ cond (eqb m 0) last i → v ≡ get_or db place nan
      → y ≡ of (value v) → x ≡ cond (eqb m 0) (of 0) y → x ≡ of (paint value (pixel m (get_or db i nan)))
  paint-read zero i last place y x v db p e w t = t ∙ paint_pixel 0 (get_or db i nan)
  paint-read (suc m) i last place y x v db p e w t =
      let n = ne_eqb (suc m) 0 (λ e. omega (arith, e)) in
      let here : place ≡ i = p ∙ ap (λ (b : Bool). cond b last i) n in
      t ∙ ap (λ (b : Bool). cond b (of 0) y) n ∙ w ∙ ap (λ (u : Float). of (value u)) (e ∙ ap (λ (k : ℕ). get_or db k nan) here) ∙ paint-valid (suc m) (get_or db i nan) (omega arith)

  -- no pixel is valid
  pub paint-none : (marks : List ℕ) (db : List Float) (n : ℕ) → length marks ≡ length db → length db ≡ n → ((k : ℕ) → k < length marks → get_or marks k 0 ≡ 0)
      → replicate n (of 0) ≡ map (λ px. of (paint value px)) (pixels marks db)
  unfolding pixels zip_with paint pixel
  paint-none [] [] n e f h = ap (λ (k : ℕ). replicate k (of 0)) (sym f)
  paint-none [] (v ∷ db) n e f h = absurd (omega (arith, e))
  paint-none (m ∷ marks) [] n e f h = absurd (omega (arith, e))
  paint-none (zero ∷ marks) (v ∷ db) n e f h =
      ap (λ (k : ℕ). replicate k (of 0)) (sym f) ∙ ap (λ (l : List B). of 0 ∷ l) (paint-none marks db (length db) (suc_inj e) refl (λ k l. h (suc k) (omega (arith, l))))
  paint-none (suc m ∷ marks) (v ∷ db) n e f h = absurd (omega (arith, h 0 (omega arith)))

-- the place read is valid if the last one was
pub read-valid : (m i last place : ℕ) (marks : List ℕ) → place ≡ cond (eqb m 0) last i → m ≡ get_or marks i 0 → i < length marks → (last < length marks) × (0 < get_or marks last 0)
    → (place < length marks) × (0 < get_or marks place 0)
read-valid zero i last place marks p e h l = subst (λ (k : ℕ). (k < length marks) × (0 < get_or marks k 0)) (sym p) l
read-valid (suc m) i last place marks p e h l =
    let n = ne_eqb (suc m) 0 (λ e. omega (arith, e)) in
    subst (λ (k : ℕ). (k < length marks) × (0 < get_or marks k 0)) (sym (p ∙ ap (λ (b : Bool). cond b last i) n)) (h, omega (arith, e))

-- every pixel is valid: all dB, in two steps
pub paint_all : (g : Float → Float) (f : Float → ℕ) (m : List ℕ) (d : List Float) → length m ≡ length d → AllValid m → map f (map g d) ≡ map (paint (λ v. f (g v))) (pixels m d)
unfolding pixels zip_with paint pixel
paint_all g f [] [] e h = refl
paint_all g f [] (v ∷ d) e h = absurd (omega (arith, e))
paint_all g f (k ∷ m) [] e h = absurd (omega (arith, e))
paint_all g f (zero ∷ m) (v ∷ d) e h = absurd (omega (arith, h 0 (omega arith)))
paint_all g f (suc k ∷ m) (v ∷ d) e h = ap (λ (l : List ℕ). f (g v) ∷ l) (paint_all g f m d (suc_inj e) (λ j l. h (suc j) (omega (arith, l))))

-- ---- a window's gamma
module _ (low high range : Float) (px : List Pixel) where
  -- by the thresholds of 0.8, 0.9 and 1.1
  pub curve-painted : (g : ℕ) → g < 3 → map (paint (λ v. gamma_value (over g) (under g) (normalized low high range v))) px ≡ map (paint (curved g low high range)) px
  unfolding curved
  curve-painted zero h = refl
  curve-painted (suc zero) h = refl
  curve-painted (suc (suc zero)) h = refl
  curve-painted (suc (suc (suc g))) h = absurd (omega arith)

  -- by the straight line
  pub straight_painted : (g : ℕ) → 3 ≤ g → map (paint (value_of full8 low high range)) px ≡ map (paint (curved g low high range)) px
  unfolding curved
  straight_painted g h =
      sym (ap (λ (b : Bool). map (paint (λ v. cond b (value_of full8 low high range v) (gamma_value (over g) (under g) (normalized low high range v)))) px) (is_true (leb 3 g) (le→leb 3 g h)))

  pub gamma_painted : (g : ℕ) (gamma : Float) → g ≡ curve gamma → map (paint (curved g low high range)) px ≡ map (paint (grey_value U8 gamma low high range)) px
  unfolding grey_value
  gamma_painted g gamma e = ap (λ (n : ℕ). map (paint (curved n low high range)) px) e

-- ---- the pixel at a place
pub pixels-at : (m : List ℕ) (d : List Float) (i : ℕ) → i < length m → i < length d → pixel (get_or m i 0) (get_or d i nan) ≡ get_or (pixels m d) i off
pixels-at m d i h k =
    sym (ap (λ (l : List Pixel). get_or l 0 off) (drop-pixels m d i h k)) ∙ get_or-drop i (pixels m d) 0 off ∙ ap (λ (j : ℕ). get_or (pixels m d) j off) (add-zero i)

-- ---- pixel by pixel: a store at i, where the values before i are those of the pixels before i
module _ {B : Type 0} (g : Pixel → B) (m : List ℕ) (d : List Float) (out : List B) (ld : length d ≡ length out) (lm : length m ≡ length out) (i : ℕ) where
  pub painted_next : (x : B) → i < length out → x ≡ g (pixel (get_or m i 0) (get_or d i nan)) → take i out ≡ map g (take i (pixels m d)) → take (i + 1) (set out i x) ≡ map g (take (i + 1) (pixels m d))
  painted_next x h e t =
      step g off (pixels m d) out i x h (sym (pixels-length m d (omega arith) ∙ ld)) (e ∙ ap g (pixels-at m d i (omega arith) (omega arith))) t

  pub painted-all : length out ≤ i → take i out ≡ map g (take i (pixels m d)) → out ≡ map g (pixels m d)
  painted-all h t = sym (take_all i out h) ∙ t ∙ ap (map g) (take_all i (pixels m d) (omega (arith, pixels-length m d (omega arith))))

-- ---- marks
lowest_start : (m : ℕ) (xs : List ℕ) → lowest m xs ≤ m
unfolding lowest
lowest_start m [] = omega arith
lowest_start m (x ∷ xs) = omega (arith, lowest_start (min m x) xs)

pub lowest-under : (m : ℕ) (xs : List ℕ) (k : ℕ) → k < length xs → lowest m xs ≤ get_or xs k 0
unfolding lowest
lowest-under m [] k h = absurd (not-suc-le-zero h)
lowest-under m (x ∷ xs) zero h = omega (arith, lowest_start (min m x) xs)
lowest-under m (x ∷ xs) (suc k) h = lowest-under (min m x) xs k (le_of_suc-le-suc h)

-- the first valid pixel, by its place
abbrev pub valid : ℕ → Bool
valid mark = not (eqb mark 0)

valid-above : (m : ℕ) → valid m ≡ true → 0 < m
valid-above zero e = absurd (true≢false (sym e))
valid-above (suc m) e = omega arith

invalid-zero : (m : ℕ) → valid m ≡ false → m ≡ 0
invalid-zero zero e = refl
invalid-zero (suc m) e = absurd (true≢false (sym (ap not (ne_eqb (suc m) 0 (λ z. omega (arith, z)))) ∙ e))

pub first-valid : (marks : List ℕ) (i : ℕ) → position valid marks ≡ Some i → (i < length marks) × (0 < get_or marks i 0)
first-valid marks i e = let s = position-Some valid marks i 0 e in (s.0, valid-above (get_or marks i 0) s.1)

pub none-valid : (marks : List ℕ) → position valid marks ≡ None → (k : ℕ) → k < length marks → get_or marks k 0 ≡ 0
none-valid marks e k h =
    let all : length marks ≤ position_or_len valid marks = grind (arith, common_steps) in
    invalid-zero (get_or marks k 0) (fails_before_first valid marks k 0 (omega (arith, all, h)))

-- ---- block by block
pixels_part : {m' : List ℕ} {d' : List Float} (at n : ℕ) (m : List ℕ) (d : List Float) → d' ≡ take n (drop at d) → m' ≡ take n (drop at m) → pixels m' d' ≡ take n (drop at (pixels m d))
unfolding pixels
pixels_part at n m d a b = pixels_same a b ∙ zip-take pixel n (drop at m) (drop at d) ∙ ap (take n) (zip-drop pixel at m d)

pub part_length : {A : Type 0} (at end : ℕ) (xs : List A) → at ≤ end → end ≤ length xs → length (take (end - at) (drop at xs)) ≡ end - at
part_length at end xs h k = length-take-le (end - at) (drop at xs) (omega (arith, length-drop at xs))

-- the block from `at` to `end` is painted, and what was painted before it stays
pub block_painted : {B : Type 0} {m' : List ℕ} {d' : List Float} (g : Pixel → B) (m : List ℕ) (d : List Float) (at end next : ℕ) (out ys : List B) → at ≤ end → end ≤ length out → end ≡ next → length d ≡ length out → length m ≡ length out
    → (d' ≡ take (end - at) (drop at d)) × (m' ≡ take (end - at) (drop at m)) → ys ≡ map g (pixels m' d') → take at out ≡ map g (take at (pixels m d)) → take next (put_mid at (end - at) out ys) ≡ map g (take next (pixels m d))
block_painted {B = B} g m d at end next out ys h k is ld lm part e t =
    let px = pixels m d in
    let n = end - at in
    let block : ys ≡ map g (take n (drop at px)) = e ∙ ap (map g) (pixels_part at n m d part.0 part.1) in
    let size : length ys ≡ n = ap length block ∙ length-map (take n (drop at px)) g ∙ part_length at end px h (omega (arith, pixels-length m d (omega arith))) in
    let from : at + n ≡ next = omega (arith, is) in
    take-put_mid at n out ys next (omega (arith, is, size)) (omega arith) ∙ ap (λ (p : List B). p ++ ys) t ∙ ap (λ (q : List B). map g (take at px) ++ q) block
    ∙ sym (ap (λ (k : ℕ). map g (take k px)) (sym from) ∙ ap (map g) (take-add at n px) ∙ map-append g (take at px) (take n (drop at px)))

-- the block from `at` to the end is painted, and with it all
pub block_last : {B : Type 0} {m' : List ℕ} {d' : List Float} (g : Pixel → B) (m : List ℕ) (d : List Float) (at end : ℕ) (out ys : List B) → at ≤ end → end ≡ length out → length d ≡ length out → length m ≡ length out
    → (d' ≡ take (end - at) (drop at d)) × (m' ≡ take (end - at) (drop at m)) → ys ≡ map g (pixels m' d') → take at out ≡ map g (take at (pixels m d)) → put_mid at (end - at) out ys ≡ map g (pixels m d)
block_last {B = B} {m' = m'} {d' = d'} g m d at end out ys h is ld lm part e t =
    let px = pixels m d in
    let p = put_mid at (end - at) out ys in
    let long : length px ≡ end = omega (arith, pixels-length m d (omega arith), is) in
    let size : length ys ≡ end - at = ap length e ∙ length-map (pixels m' d') g ∙ ap length (pixels_part at (end - at) m d part.0 part.1) ∙ part_length at end px h (omega (arith, long)) in
    sym (take-append-drop end p) ∙ ap (λ (zs : List B). take end p ++ zs) (drop-put_mid at (end - at) out ys end (omega arith) (omega arith) size ∙ drop_of_length-le out (omega arith)) ∙ append-nil (take end p)
    ∙ block_painted g m d at end end out ys h (omega arith) refl ld lm part e t ∙ ap (map g) (take_all end px (omega (arith, long)))
