-- The place that a pass keeps is the first of the greatest. Assumes nothing.
use mathlib.Core.Path.{◌≡◌, refl, sym, ap, ◌∙◌, subst}
use mathlib.Core.Logic.{⊎_elim}
use mathlib.Core.Bool.{Bool, true, false, cond, ◌||◌, true≢false}
use mathlib.Core.List.{List, [], ◌∷◌, zip_with}
use Prim.Native.Nat.{ℕ, zero, suc, ◌+◌, ◌*◌, ◌≤◌, ◌<◌, ◌/◌, ◌%◌}
use native.Mathlib.Nat.{zero-div, zero-mod, mul-zero, mod-lt, div-add-mod', div-lt_iff_lt-mul, not-suc-le-zero, le_of_suc-le-suc}
use native.Mathlib.Omega.{arith}
use borrow.Author.Tests.{eq-eqb, ne_eqb, ltb-false}
use lib.Dec.{T, eqb, ltb}
use lib.ListN.{length, get_or}
use lib.Ieee.{Float, nan, le, lt}
use Rattle.types.specs.declared.HistogramStats.{HistogramStats}
use Rattle.types.specs.declared.Moments.{Moments}
use Rattle.types.specs.declared.Place.{Place}
use Rattle.spec.specs.Answer.{done}
use Rattle.spec.specs.Moments.{no_moments, with_value, moments_from}
use Rattle.spec.specs.Pixels.{Pixel, off, on, pixel, pixels, valid_of}
use Rattle.spec.specs.Lists.{any}
use Rattle.spec.specs.Refusals.{marks_refused, decibels_refused}
use Rattle.spec.specs.Statistics.{gathered, summary, placed_statistics, compute_histogram_stats}
use Rattle.spec.specs.Strongest.{is_new_max, strongest_from, strongest, place_in, nowhere}
use Rattle.raster.proofs.Bands.{or_false, lengths_accepted, pixels-length}
use Rattle.numeric.proofs.Facts.{holds, fails}
use Rattle.numeric.proofs.Order.{Number, le_refl, le_left, le_right, le_trans, le_of_lt, le_of_not_lt, lt_or_ge, lt_not_ge}
use Rattle.demands.specs.Echo.{at, Echo}
use Rattle.lists.proofs.Replies.{done-answer, none_holds}
use Rattle.demands.proofs.Counted.{count-valid}
use Rattle.demands.proofs.FirstMet.{Each}
use Rattle.demands.proofs.Reordering.{valid_numbers}

-- ---- strict and not strict

lt-le : (x y z : Float) → T (lt x y) → T (le y z) → T (lt x z)
lt-le x y z h k = ⊎_elim (λ a. a) (λ a. absurd (lt_not_ge x y h (le_trans y z x k a))) (lt_or_ge x z (le_left x y (le_of_lt x y h)) (le_right y z k))

le-lt : (x y z : Float) → T (le x y) → T (lt y z) → T (lt x z)
le-lt x y z h k = ⊎_elim (λ a. a) (λ a. absurd (lt_not_ge y z k (le_trans z x y a h))) (lt_or_ge x z (le_left x y h) (le_right y z (le_of_lt y z k)))

-- ---- a value more

module _ (s : Moments) (v : Float) where
  greater : is_new_max s v ≡ true → (with_value s v).max_db ≡ v
  unfolding with_value is_new_max
  greater e = ap (λ (b : Bool). cond b v s.max_db) e

  smaller : is_new_max s v ≡ false → (with_value s v).max_db ≡ s.max_db
  unfolding with_value is_new_max
  smaller e = ap (λ (b : Bool). cond b v s.max_db) e

  counted : (with_value s v).count ≡ 0 → ⊥
  unfolding with_value
  counted z = omega (arith, z)

  -- the first value is greater than all before it
  first : s.count ≡ 0 → is_new_max s v ≡ true
  unfolding is_new_max
  first z = ap (λ (b : Bool). b || lt s.max_db v) (eq-eqb s.count 0 z)

  above : is_new_max s v ≡ true → (s.count ≡ 0 → ⊥) → T (lt s.max_db v)
  unfolding is_new_max
  above e c = holds (sym (ap (λ (b : Bool). b || lt s.max_db v) (ne_eqb s.count 0 c)) ∙ e)

  below : is_new_max s v ≡ false → Number s.max_db → Number v → T (le v s.max_db)
  unfolding is_new_max
  below e n d = le_of_not_lt s.max_db v n d (fails (or_false (eqb s.count 0) (lt s.max_db v) e).1)

-- ---- along the pixels

-- what the walk over pixels finds, S the moments at its end: it keeps the place, or finds a new one
data Found (i : ℕ) (s : Moments) (at : ℕ) (px : List Pixel) : Type 0 where
  kept : strongest_from i s at px ≡ at → (moments_from s (valid_of px)).max_db ≡ s.max_db → (s.count ≡ 0 → length (valid_of px) ≡ 0) → Found i s at px
  new : (p : ℕ) → strongest_from i s at px ≡ i + p → p < length px → get_or px p off ≡ on (moments_from s (valid_of px)).max_db →
      ((q : ℕ) → q < p → (v : Float) → get_or px q off ≡ on v → T (lt v (moments_from s (valid_of px)).max_db)) →
      ((s.count ≡ 0 → ⊥) → T (lt s.max_db (moments_from s (valid_of px)).max_db)) → Found i s at px

on_is : (v w : Float) → on v ≡ on w → v ≡ w
on_is v w e = cc

off-on : (v : Float) → off ≡ on v → ⊥
off-on v e = absurd (let z : ◌≡◌ {A = ℕ} 0 1 = cc in omega arith)

found : (px : List Pixel) (i : ℕ) (s : Moments) (at : ℕ) → Each Number (valid_of px) → Found i s at px
unfolding strongest_from moments_from valid_of
found [] i s at h = kept refl refl (λ e. refl)
found (off ∷ px) i s at h = later (found px (suc i) s at h)
  where
    later : Found (suc i) s at px → Found i s at (off ∷ px)
    later (kept e m n) = kept e m n
    later (new p e l g b u) = new (suc p) (e ∙ omega arith) (omega arith) g before u
      where
        before : (q : ℕ) → q < suc p → (v : Float) → get_or (off ∷ px) q off ≡ on v → T (lt v (moments_from s (valid_of px)).max_db)
        before zero l v e = absurd (off-on v e)
        before (suc q) l v e = b q (le_of_suc-le-suc l) v e
found (on v ∷ px) i s at h = here (is_new_max s v) refl (found px (suc i) (with_value s v) (cond (is_new_max s v) i at) h.1)
  where
    S : Float
    S = (moments_from (with_value s v) (valid_of px)).max_db

    front : (p : ℕ) → T (lt v S) → ((q : ℕ) → q < p → (w : Float) → get_or px q off ≡ on w → T (lt w S)) → (q : ℕ) → q < suc p → (w : Float) → get_or (on v ∷ px) q off ≡ on w → T (lt w S)
    front p k b zero l w e = subst (λ (x : Float). T (lt x S)) (on_is v w e) k
    front p k b (suc q) l w e = b q (le_of_suc-le-suc l) w e

    here : (t : Bool) → is_new_max s v ≡ t → Found (suc i) (with_value s v) (cond (is_new_max s v) i at) px → Found i s at (on v ∷ px)
    here true e (kept k m n) =
        let w : v ≡ S = sym (m ∙ greater s v e) in
        new 0 (k ∙ ap (λ (b : Bool). cond b i at) e ∙ omega arith) (omega arith) (ap on w) (λ q l. absurd (not-suc-le-zero l)) (λ c. subst (λ (x : Float). T (lt s.max_db x)) w (above s v e c))
    here true e (new p k l g b u) =
        let lower : T (lt v S) = subst (λ (x : Float). T (lt x S)) (greater s v e) (u (λ z. counted s v z)) in
        new (suc p) (k ∙ omega arith) (omega arith) g (front p lower b) (λ c. lt-le s.max_db v S (above s v e c) (le_of_lt v S lower))
    here false e (kept k m n) = kept (k ∙ ap (λ (b : Bool). cond b i at) e) (m ∙ smaller s v e) (λ z. absurd (true≢false (sym (first s v z) ∙ e)))
    here false e (new p k l g b u) =
        let higher : T (lt s.max_db S) = subst (λ (x : Float). T (lt x S)) (smaller s v e) (u (λ z. counted s v z)) in
        new (suc p) (k ∙ omega arith) (omega arith) g (front p (le-lt v s.max_db S (below s v e (le_left s.max_db S (le_of_lt s.max_db S higher)) h.0) higher) b) (λ c. higher)

-- the maximum does not fall along the pixels
rises : (px : List Pixel) (s : Moments) → Each Number (valid_of px) → (s.count ≡ 0 → ⊥) → Number s.max_db → T (le s.max_db (moments_from s (valid_of px)).max_db)
rises px s h c n = go (found px 0 s 0 h)
  where
    go : Found 0 s 0 px → T (le s.max_db (moments_from s (valid_of px)).max_db)
    go (kept _ e _) = subst (λ (x : Float). T (le s.max_db x)) (sym e) (le_refl s.max_db n)
    go (new _ _ _ _ _ u) = le_of_lt s.max_db _ (u c)

-- a value is at most the maximum with it, which is a number
met : (s : Moments) (v : Float) → Number v → ((s.count ≡ 0 → ⊥) → Number s.max_db) → T (le v (with_value s v).max_db)
met s v d n = go (is_new_max s v) refl
  where
    go : (t : Bool) → is_new_max s v ≡ t → T (le v (with_value s v).max_db)
    go true e = subst (λ (x : Float). T (le v x)) (sym (greater s v e)) (le_refl v d)
    go false e = subst (λ (x : Float). T (le v x)) (sym (smaller s v e)) (below s v e (n (λ z. true≢false (sym (first s v z) ∙ e))) d)

-- and so is every value of the pixels at most the maximum at their end
greatest_of_pixels :
    (px : List Pixel) (s : Moments) → Each Number (valid_of px) → ((s.count ≡ 0 → ⊥) → Number s.max_db) →
    (q : ℕ) (v : Float) → get_or px q off ≡ on v → T (le v (moments_from s (valid_of px)).max_db)
unfolding moments_from valid_of
greatest_of_pixels [] s h n q v e = absurd (off-on v e)
greatest_of_pixels (off ∷ px) s h n zero v e = absurd (off-on v e)
greatest_of_pixels (off ∷ px) s h n (suc q) v e = greatest_of_pixels px s h n q v e
greatest_of_pixels (on w ∷ px) s h n zero v e =
    let m = met s w h.0 n in
    let k = rises px (with_value s w) h.1 (counted s w) (le_right w (with_value s w).max_db m) in
    subst (λ (x : Float). T (le x (moments_from (with_value s w) (valid_of px)).max_db)) (on_is w v e) (le_trans w (with_value s w).max_db _ m k)
greatest_of_pixels (on w ∷ px) s h n (suc q) v e =
    greatest_of_pixels px (with_value s w) h.1 (λ c. le_right w (with_value s w).max_db (met s w h.0 n)) q v e

-- ---- of a band

pixel-at : (m : List ℕ) (d : List Float) (p : ℕ) → p < length (pixels m d) → get_or (pixels m d) p off ≡ pixel (get_or m p 0) (get_or d p nan)
unfolding pixels zip_with
pixel-at [] d p l = absurd (not-suc-le-zero l)
pixel-at (k ∷ m) [] p l = absurd (not-suc-le-zero l)
pixel-at (k ∷ m) (v ∷ d) zero l = refl
pixel-at (k ∷ m) (v ∷ d) (suc p) l = pixel-at m d p (le_of_suc-le-suc l)

-- a pixel that is on has a mark that is not 0 and its dB
pixel_is : (k : ℕ) (v w : Float) → pixel k v ≡ on w → (k ≡ 0 → ⊥) × (v ≡ w)
unfolding pixel
pixel_is zero v w e = absurd (off-on w e)
pixel_is (suc k) v w e = (λ z. omega (arith, z), on_is v w e)

pixel-one : (k : ℕ) (v : Float) → k ≡ 1 → pixel k v ≡ on v
unfolding pixel
pixel-one k v e = rw e

-- no mark is above 1
mark_small : (m : List ℕ) (p : ℕ) → marks_refused m ≡ false → get_or m p 0 ≤ 1
unfolding marks_refused any
mark_small [] p e = omega arith
mark_small (k ∷ m) zero e = ltb-false 1 k (or_false (ltb 1 k) (any (ltb 1) m) e).0
mark_small (k ∷ m) (suc p) e = mark_small m p (or_false (ltb 1 k) (any (ltb 1) m) e).1

-- a pixel that is on is counted
on-counts : (px : List Pixel) (p : ℕ) (v : Float) → get_or px p off ≡ on v → 0 < length (valid_of px)
unfolding valid_of
on-counts [] p v e = absurd (off-on v e)
on-counts (off ∷ px) zero v e = absurd (off-on v e)
on-counts (off ∷ px) (suc p) v e = on-counts px p v e
on-counts (on w ∷ px) p v e = omega arith

start_is : (cols : ℕ) → ((place_in cols 0).row ≡ 0) × ((place_in cols 0).col ≡ 0)
unfolding place_in
start_is cols = go (eqb cols 0)
  where
    go : (t : Bool) → ((cond t nowhere (record { row = 0 / cols; col = 0 % cols })).row ≡ 0) × ((cond t nowhere (record { row = 0 / cols; col = 0 % cols })).col ≡ 0)
    go true = (refl, refl)
    go false = (zero-div cols, zero-mod cols)

one : (k : ℕ) → (k ≡ 0 → ⊥) → k ≤ 1 → k ≡ 1
one zero n l = absurd (n refl)
one (suc zero) n l = refl
one (suc (suc k)) n l = absurd (omega (arith, l))

-- the index of a place in a raster with columns
module _ (rows cols p : ℕ) (h : p < rows * cols) where
  columns : 0 < cols
  columns = go cols h
    where
      go : (n : ℕ) → p < rows * n → 0 < n
      go zero l = absurd (omega (arith, l, mul-zero rows))
      go (suc n) l = omega arith

  placed : ((place_in cols p).row ≡ p / cols) × ((place_in cols p).col ≡ p % cols)
  unfolding place_in
  placed = rw (ne_eqb cols 0 (λ z. omega (arith, z, columns))) (refl, refl)

  index_is : (place_in cols p).row * cols + (place_in cols p).col ≡ p
  index_is = ap (λ (n : ℕ). n * cols + (place_in cols p).col) placed.0 ∙ ap (λ (n : ℕ). p / cols * cols + n) placed.1 ∙ div-add-mod' p cols

  row_below : (place_in cols p).row < rows
  row_below = let k = (div-lt_iff_lt-mul {k = cols} {x = p} {y = rows} columns).1 h in omega (arith, k, placed.0)

  col_below : (place_in cols p).col < cols
  col_below = let k = mod-lt p columns in omega (arith, k, placed.1)

-- ---- the theorem

module _ (rows cols : ℕ) (m : List ℕ) (d : List Float) (s : HistogramStats) (e : compute_histogram_stats rows cols m d ≡ done s) where
  record Accepted : Type 0 where
    length_db : length d ≡ rows * cols
    length-marks : length m ≡ rows * cols
    marks_good : marks_refused m ≡ false
    numbers : Each Number (valid_of (pixels m d))
    is : s ≡ placed_statistics cols (pixels m d)

  accepted : Accepted
  unfolding compute_histogram_stats decibels_refused
  accepted =
      let h = done-answer _ _ _ e in
      let a = none_holds 0 _ h.0 in
      let n = lengths_accepted rows cols m d a.1.0 in
      record { length_db = n.0; length-marks = n.1; marks_good = a.1.1.0; numbers = valid_numbers (pixels m d) a.1.1.1.0; is = sym h.1 }

  abbrev place : Place
  place = place_in cols (strongest (pixels m d))

  fields : (s.valid_count ≡ length (valid_of (pixels m d))) × (s.max_db ≡ (moments_from no_moments (valid_of (pixels m d))).max_db) × (s.max_row ≡ place.row) × (s.max_col ≡ place.col)
  unfolding placed_statistics summary gathered
  fields =
      let i = accepted.is in
      (ap (λ (t : HistogramStats). t.valid_count) i ∙ count-valid (pixels m d) place, ap (λ (t : HistogramStats). t.max_db) i, ap (λ (t : HistogramStats). t.max_row) i, ap (λ (t : HistogramStats). t.max_col) i)

  walk : Found 0 no_moments 0 (pixels m d)
  walk = found (pixels m d) 0 no_moments 0 accepted.numbers

  pixels_are : length (pixels m d) ≡ rows * cols
  pixels_are = pixels-length m d (accepted.length-marks ∙ sym accepted.length_db) ∙ accepted.length_db

  greatest_is : (j : ℕ) → j < rows * cols → get_or m j 0 ≡ 1 → T (le (get_or d j nan) s.max_db)
  unfolding no_moments
  greatest_is j l o =
      let p = pixel-at m d j (omega (arith, l, pixels_are)) ∙ pixel-one (get_or m j 0) (get_or d j nan) o in
      subst (λ (y : Float). T (le (get_or d j nan) y)) (sym fields.1) (greatest_of_pixels (pixels m d) no_moments accepted.numbers (λ c. absurd (c refl)) j (get_or d j nan) p)

  -- without a valid pixel
  none_is : s.valid_count ≡ 0 → (s.max_row ≡ 0) × (s.max_col ≡ 0)
  unfolding strongest
  none_is z = go walk
    where
      go : Found 0 no_moments 0 (pixels m d) → (s.max_row ≡ 0) × (s.max_col ≡ 0)
      go (kept k _ _) = (fields.2 ∙ ap (λ (n : ℕ). (place_in cols n).row) k ∙ (start_is cols).0, fields.3 ∙ ap (λ (n : ℕ). (place_in cols n).col) k ∙ (start_is cols).1)
      go (new p k l g b u) = absurd (omega (arith, z, fields.0, on-counts (pixels m d) p _ g))

  -- the place of the maximum, where there is one
  record Stands : Type 0 where
    p : ℕ
    is : strongest (pixels m d) ≡ p
    inside : p < rows * cols
    mark : get_or m p 0 ≡ 1
    db : get_or d p nan ≡ s.max_db
    before : (j : ℕ) → j < p → get_or m j 0 ≡ 1 → T (lt (get_or d j nan) s.max_db)

  stands : 0 < s.valid_count → Stands
  unfolding strongest no_moments
  stands h = go walk
    where
      go : Found 0 no_moments 0 (pixels m d) → Stands
      go (kept _ _ n) = absurd (omega (arith, h, fields.0, n refl))
      go (new p k l g b u) =
          let x = pixel_is (get_or m p 0) (get_or d p nan) _ (sym (pixel-at m d p l) ∙ g) in
          record {
            p = p;
            is = k ∙ omega arith;
            inside = omega (arith, l, pixels_are);
            mark = one (get_or m p 0) x.0 (mark_small m p accepted.marks_good);
            db = x.1 ∙ sym fields.1;
            before = λ j i o. subst (λ (y : Float). T (lt (get_or d j nan) y)) (sym fields.1) (b j i (get_or d j nan) (pixel-at m d j (omega (arith, i, l)) ∙ pixel-one (get_or m j 0) (get_or d j nan) o));
          }

  module _ (h : 0 < s.valid_count) where
    abbrev q : ℕ
    q = (stands h).p

    row_is : s.max_row ≡ (place_in cols q).row
    row_is = fields.2 ∙ ap (λ (n : ℕ). (place_in cols n).row) (stands h).is

    col_is : s.max_col ≡ (place_in cols q).col
    col_is = fields.3 ∙ ap (λ (n : ℕ). (place_in cols n).col) (stands h).is

    at_is : at cols s ≡ q
    at_is =
        ap (λ (n : ℕ). n * cols + s.max_col) row_is ∙ ap (λ (n : ℕ). (place_in cols q).row * cols + n) col_is ∙ index_is rows cols q (stands h).inside

    inside_is : (s.max_row < rows) × (s.max_col < cols)
    inside_is =
        let r = row_below rows cols q (stands h).inside in
        let c = col_below rows cols q (stands h).inside in
        (omega (arith, r, row_is), omega (arith, c, col_is))

    valid_is : get_or m (at cols s) 0 ≡ 1
    valid_is = ap (λ (n : ℕ). get_or m n 0) at_is ∙ (stands h).mark

    maximum_is : get_or d (at cols s) nan ≡ s.max_db
    maximum_is = ap (λ (n : ℕ). get_or d n nan) at_is ∙ (stands h).db

    first_is : (j : ℕ) → j < at cols s → get_or m j 0 ≡ 1 → T (lt (get_or d j nan) s.max_db)
    first_is j l o = (stands h).before j (omega (arith, l, at_is)) o

pub echo : Echo
echo =
    record {
      none = none_is;
      inside = inside_is;
      valid = valid_is;
      maximum = maximum_is;
      greatest = greatest_is;
      first = first_is;
    }
