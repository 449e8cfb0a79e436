-- Bounds on every field of the record for dB from -1000 to 1000, and that no percentile lies below the least. Assumes nothing.
use mathlib.Core.Path.{◌≡◌, refl, sym, ap, ◌∙◌, subst}
use mathlib.Core.Logic.{inl, ⊎_elim}
use mathlib.Core.Bool.{Bool, true, false, not, cond, ◌&&◌, true≢false}
use mathlib.Core.List.{List, [], ◌∷◌, zip_with}
use Prim.Native.Nat.{ℕ, zero, suc, ◌+◌, ◌-◌, ◌*◌, ◌^◌, ◌≤◌, ◌<◌, zero-le, suc-le-suc}
use native.Mathlib.Nat.{le_trans, le_of_eq, lt_of_lt_of_le, lt_of_not-le, not-le_of_lt, mul_assoc, mul_comm, mul_left_comm, zero-mul, mul-zero, mul-pos, mul-le-mul, mul-le-mul_right, le_of_mul-le-mul_right, suc-mul, mul-mul-mul_comm, le_of_lt}
use native.Mathlib.Omega.{arith}
use native.Mathlib.Decide.{dec_le}
use borrow.Author.Tests.{ltb-true}
use lib.IntN.{pos}
use lib.Dec.{T, ltb, lit<, lit≤, lt→ltb}
use lib.Pow.{pow-add, pow_pos, pow_mono}
use lib.ListN.{length, get_or}
use lib.Ieee.{Float, nan, inf, fin, binary64, up, add, sub, mul, div, le, lt, fits, round, of_int, of_bits}
use lib.Ieee.Fits.{add-fits, sub-fits, mul-fits, div-fits, of_int-fits, up_pos}
use lib.Ieee.Order.{le_of_values}
use lib.Ieee.Positive.{num, den, den_pos}
use lib.Ieee.Scale.{finite}
use Rattle.types.specs.declared.BinRank.{BinRank}
use Rattle.types.specs.declared.Percentile.{Percentile}
use Rattle.types.specs.declared.Place.{Place}
use Rattle.types.specs.declared.HistogramStats.{HistogramStats}
use Rattle.types.specs.declared.Moments.{Moments}
use Rattle.spec.specs.Floats.{zero64, half64, of_count}
use Rattle.spec.specs.Bins.{bins64, bins_of}
use Rattle.spec.specs.Lists.{sum_of, any}
use Rattle.spec.specs.Moments.{no_moments, moments_from, span_of, is_flat}
use Rattle.spec.specs.Percentile.{target_of, find_bin, value_at, flat_percentile, spread_percentile, estimate_percentile}
use Rattle.spec.specs.Root.{sqrt_float}
use Rattle.spec.specs.Statistics.{deviation_of, gathered, summary, summary_of, statistics_of, placed_statistics}
use Rattle.spec.specs.Strongest.{strongest, place_in, nowhere}
use Rattle.spec.specs.Pixels.{off, on, pixel, pixels, valid_of}
use Rattle.spec.specs.Refusals.{decibel_refused, decibels_refused}
use Rattle.numeric.proofs.Facts.{thousand, minus_thousand}
use Rattle.numeric.specs.Correct.{NearestRoot}
use Rattle.numeric.proofs.Correct.{root_nearest}
use Rattle.numeric.proofs.Order.{plus, less, le→cross, number_of_finite, le_refl, le_total, le_trans as le_trans'}
use Rattle.numeric.proofs.Round.{Rounds, rounds-le}
use Rattle.numeric.proofs.Ops.{div-rounds, num_pos, sub_nonneg, add-le_both, sub-le_both, div-le}
use Rattle.numeric.proofs.Picks.{either, count-le}
use Rattle.numeric.proofs.Values.{value-finite, value_plus, value_less, count-value, nothing_less}
use Rattle.numeric.proofs.Within.{Within, within_lit, within_weaken, within-le, within-between, whole_within, rounds-within, add-within, sub_within, mul-within}
use Rattle.raster.proofs.Bands.{or_false}
use Rattle.bounds.specs.Bounds.{Accepted, Percentiles}
use Rattle.bounds.proofs.Units.{units, zero_units, zero_more, zero_fewer, le_units, add-over, div-over, count_positive, count_num}
use Rattle.bounds.proofs.Moments.{Sound, Decibel, Each, product_over, sound_moments}
use Rattle.histogram.proofs.Counting.{none-count}
use Rattle.bounds.proofs.Bins.{First, target_of-first, bins-sum, bins-length}

-- ---- the deviation

module _ (n : ℕ) (l : n ≤ 2 ^ 53) (h : 0 < n) where
  -- what is at most k for each of n values, divided by n
  shared-within : (k : ℕ) → k ≤ 2 ^ 53 → (x : Float) → Within (k * n) x → Within k (div binary64 x (of_count n))
  shared-within k b x w =
      rounds-within binary64 k b (div binary64 x (of_count n)) (plus x * den (of_count n)) (less x * den (of_count n)) (num (of_count n) * den x)
      (mul-pos (num_pos (of_count n) (count_positive n l h)) (den_pos x)) (div-rounds binary64 x (of_count n) w.is_finite (count_positive n l h))
      (more _ _ _ (side (plus x) w.above)) (more _ _ _ (side (less x) w.under))
    where
      more : (p N m : ℕ) → p ≤ N → p ≤ N + m
      more p N m h = omega arith

      turn : (k n d D : ℕ) → k * n * d * D ≡ k * (n * D * d)
      turn k n d D = simp (mul_assoc, mul_comm, mul_left_comm)

      side : (p : ℕ) → p ≤ k * n * den x → p * den (of_count n) ≤ k * (num (of_count n) * den x)
      side p g = le_trans (mul-le-mul_right (den (of_count n)) g) (le_of_eq (turn k n (den x) (den (of_count n)) ∙ ap (λ (z : ℕ). k * (z * den x)) (sym (count_num n l h))))

zero-small : Within 2000 zero64
unfolding of_bits
zero-small = within_lit 2000 zero64 tt

-- ---- the root of at most 4,000,000 is at most 2,000

by_squares : (A B N d : ℕ) → A * A * d < N * (B * B) → N ≤ 4000000 * d → A < 2000 * B
by_squares A B N d h k =
    lt_of_not-le (λ (l : 2000 * B ≤ A).
    not-le_of_lt h (le_trans (mul-le-mul_right (B * B) k) (le_trans (le_of_eq (turn B d)) (mul-le-mul_right d (mul-le-mul l l)))))
  where
    turn : (B d : ℕ) → 4000000 * d * (B * B) ≡ 2000 * B * (2000 * B) * d
    turn B d = mul_assoc 4000000 d (B * B) ∙ ap (λ (z : ℕ). 4000000 * z) (mul_comm d (B * B)) ∙ sym (mul_assoc 4000000 (B * B) d) ∙ ap (λ (z : ℕ). z * d) (square_of B)
      where
        square_of : (B : ℕ) → 4000000 * (B * B) ≡ 2000 * B * (2000 * B)
        square_of B = sym (mul-mul-mul_comm 2000 B 2000 B)

finer : (s E T : ℕ) → (2 * s - 1) * E < 4000 * T * E → s * E ≤ 2000 * T * E
finer s E T h =
    let l : 2 * s - 1 < 4000 * T = lt_of_not-le (λ (k : 4000 * T ≤ 2 * s - 1). not-le_of_lt h (mul-le-mul_right E k)) in
    mul-le-mul_right E (omega arith)

coarser : (s E G : ℕ) → 4000 ≤ 2 * s - 1 → G ≤ E → (2 * s - 1) * E < 4000 * G → ⊥
coarser s E G l g h = not-le_of_lt h (mul-le-mul l g)

root_size : (s h : ℕ) → 2 ^ 52 ≤ s → (2 * s - 1) * 2 ^ h < 4000 * 2 ^ 644 → s * 2 ^ h ≤ 2000 * 2 ^ 644
root_size s h l g = go (dec_le h 644)
  where
    split : (k : ℕ) → k ≤ 644 → 2 ^ 644 ≡ 2 ^ (644 - k) * 2 ^ k
    split k c = ap (λ (z : ℕ). 2 ^ z) (let e : 644 ≡ 644 - k + k = omega arith in e) ∙ pow-add 2 (644 - k) k

    go : Dec (h ≤ 644) → s * 2 ^ h ≤ 2000 * 2 ^ 644
    go (yes c) =
        let e = split h c in
        le_trans (finer s (2 ^ h) (2 ^ (644 - h)) (lt_of_lt_of_le g (le_of_eq (ap (λ (z : ℕ). 4000 * z) e ∙ sym (mul_assoc 4000 (2 ^ (644 - h)) (2 ^ h))))))
        (le_of_eq (mul_assoc 2000 (2 ^ (644 - h)) (2 ^ h) ∙ ap (λ (z : ℕ). 2000 * z) (sym e)))
    go (no c) = absurd (coarser s (2 ^ h) (2 ^ 644) (omega arith) (pow_mono (le_of_lt (lt_of_not-le c))) g)

root_most : (x r : Float) → num x ≤ 4000000 * den x → NearestRoot x r → Within 2000 r
root_most x r b c =
    let a : (2 * c.s - 1) * 2 ^ c.h < 2000 * 2 ^ 645 = by_squares ((2 * c.s - 1) * 2 ^ c.h) (2 ^ 645) (num x) (den x) c.above b in
    let g : c.s * 2 ^ c.h ≤ 2000 * 2 ^ 644 = root_size c.s c.h c.least a in
    let e = value_plus r (c.s * 2 ^ c.h) (2 ^ 644) c.value in
    record {
      is_finite = value-finite r (c.s * 2 ^ c.h) (2 ^ 644) c.value;
      above = le_of_mul-le-mul_right (le_trans (le_of_eq e) (le_trans (mul-le-mul_right (den r) g) (le_of_eq (mul_assoc 2000 (2 ^ 644) (den r) ∙ ap (λ (z : ℕ). 2000 * z) (mul_comm (2 ^ 644) (den r)) ∙ sym (mul_assoc 2000 (den r) (2 ^ 644)))))) (pow_pos 644);
      under = le_trans (le_of_eq (value_less r (c.s * 2 ^ c.h) (2 ^ 644) c.value)) zero-le;
    }

sqrt_float-within : (x : Float) → T (fits binary64 x) → Within 4000000 x → T (le zero64 x) → Within 2000 (sqrt_float x)
unfolding sqrt_float of_bits
sqrt_float-within nan f w o = absurd w.is_finite
sqrt_float-within (inf s) f w o = absurd w.is_finite
sqrt_float-within (fin true zero e) f w o = record { is_finite = tt; above = zero-le; under = le_trans (le_of_eq (zero-mul (up e))) zero-le }
sqrt_float-within (fin false zero e) f w o = record { is_finite = tt; above = le_trans (le_of_eq (zero-mul (up e))) zero-le; under = zero-le }
sqrt_float-within (fin true (suc m) e) f w o = let k = nothing_less (fin true (suc m) e) o in absurd (omega (arith, k, up_pos e, suc-mul m (up e)))
sqrt_float-within (fin false (suc m) e) f w o = root_most (fin false (suc m) e) (sqrt_float (fin false (suc m) e)) w.above (root_nearest (fin false (suc m) e) f (lt→ltb 0 (suc m) (omega arith)))

deviation-within : (s : Moments) → s.count ≤ 16777216 → Sound s → Within 2000 (deviation_of s)
unfolding deviation_of
deviation-within s l o = go (ltb 1 s.count) (ltb-true 1 s.count)
  where
    q : Float
    q = div binary64 s.m2 (of_count s.count)

    more : 1 < s.count → Within 2000 (sqrt_float q)
    more h =
        let n : 0 < s.count = omega arith in
        let b : s.count ≤ 2 ^ 53 = omega arith in
        let w = shared-within s.count b n 4000000 (lit< tt) s.m2 o.m2_within in
        let u = units s.m2 o.m2_within.is_finite o.m2_fit in
        sqrt_float-within q (div-fits binary64 s.m2 (of_count s.count)) w
        (div-over s.count b n s.m2 zero64 u zero_units
        (omega (arith, zero_more, zero_fewer, ap (λ (z : ℕ). z * s.count) zero_more, ap (λ (z : ℕ). z * s.count) zero_fewer, zero-mul s.count, le_units zero64 s.m2 zero_units u o.m2_over)))

    go : (t : Bool) → (t ≡ true → 1 < s.count) → Within 2000 (cond t (sqrt_float q) zero64)
    go true h = more (h refl)
    go false h = zero-small

-- ---- products of values that are not below zero

record Above (x : Float) : Type 0 where
  is_finite : T (finite x)
  no_less : less x ≡ 0

product_rounds : (x y : Float) → Above x → Above y → Rounds binary64 (mul binary64 x y) (plus x * plus y) 0 (den x * den y)
unfolding mul
product_rounds nan y a b = absurd a.is_finite
product_rounds (inf s) y a b = absurd a.is_finite
product_rounds (fin s m e) nan a b = absurd b.is_finite
product_rounds (fin s m e) (inf t) a b = absurd b.is_finite
product_rounds (fin false m e) (fin false n d) a b = record { sign = false; size = m * up e * (n * up d); is = refl; value = omega arith }
product_rounds (fin false m e) (fin true n d) a b =
    let z = ap (λ (i : ℕ). m * up e * i) b.no_less ∙ mul-zero (m * up e) in
    record { sign = true; size = m * up e * (n * up d); is = refl; value = omega (arith, z, mul-zero (m * up e)) }
product_rounds (fin true m e) (fin false n d) a b =
    let z = ap (λ (i : ℕ). i * (n * up d)) a.no_less ∙ zero-mul (n * up d) in
    record { sign = true; size = m * up e * (n * up d); is = refl; value = omega (arith, z, zero-mul (n * up d)) }
product_rounds (fin true m e) (fin true n d) a b =
    let z = ap (λ (i : ℕ). i * (n * up d)) a.no_less ∙ zero-mul (n * up d) in
    record { sign = false; size = m * up e * (n * up d); is = refl; value = omega (arith, z) }

-- they grow with both
product_le : (x y x' y' : Float) → Above x → Above y → Above x' → Above y' → T (le x x') → T (le y y') → T (le (mul binary64 x y) (mul binary64 x' y'))
product_le x y x' y' a b a' b' h k =
    rounds-le binary64 (mul binary64 x y) (mul binary64 x' y') (plus x * plus y) 0 (den x * den y) (plus x' * plus y') 0 (den x' * den y')
    (mul-pos (den_pos x) (den_pos y)) (mul-pos (den_pos x') (den_pos y')) (product_rounds x y a b) (product_rounds x' y' a' b')
    (grown _ _ _ _ _ _ _ _ (part x x' a a' h) (part y y' b b' k))
  where
    part : (x x' : Float) → Above x → Above x' → T (le x x') → plus x * den x' ≤ plus x' * den x
    part x x' a a' h =
        let c = le→cross x x' a.is_finite a'.is_finite h in
        omega (arith, c, ap (λ (i : ℕ). i * den x') a.no_less, zero-mul (den x'), ap (λ (i : ℕ). i * den x) a'.no_less, zero-mul (den x))

    grown : (p d q e P D Q E : ℕ) → p * D ≤ P * d → q * E ≤ Q * e → p * q * (D * E) + 0 * (d * e) ≤ P * Q * (d * e) + 0 * (D * E)
    grown p d q e P D Q E h k =
        let g : p * q * (D * E) ≤ P * Q * (d * e) = le_trans (le_of_eq (sym (mul-mul-mul_comm p D q E))) (le_trans (mul-le-mul h k) (le_of_eq (mul-mul-mul_comm P d Q e))) in
        omega (arith, g, zero-mul (d * e), zero-mul (D * E))

-- ---- a value in a bin

at-most-sum : (hs : List ℕ) (k : ℕ) → get_or hs k 0 ≤ sum_of hs
unfolding sum_of
at-most-sum [] k = zero-le
at-most-sum (h ∷ hs) zero = omega arith
at-most-sum (h ∷ hs) (suc k) = omega (arith, at-most-sum hs k)

count_nonneg : (n : ℕ) → n ≤ 2 ^ 53 → T (le zero64 (of_count n))
unfolding of_bits
count_nonneg n l = le_of_values (fin false 0 (pos 0)) (of_count n) 0 1 n 1 (lit< tt) (lit< tt) (refl, refl) (count-value n l) (omega arith)

zero-below : (x : Float) → T (le zero64 x) → less x ≡ 0
unfolding of_bits
zero-below x h = nothing_less x h

above-count : (n : ℕ) → n ≤ 2 ^ 53 → Above (of_count n)
above-count n l = record { is_finite = (whole_within binary64 n l).is_finite; no_less = zero-below (of_count n) (count_nonneg n l) }

-- where the last bin of width W from L on begins, and where it ends
abbrev last_bin : Float → Float → Float
last_bin L W = add binary64 L (mul binary64 (of_count 4095) W)

abbrev last_end : Float → Float → Float
last_end L W = add binary64 (last_bin L W) (mul binary64 (of_count 1) W)

-- all of it finite, and the end at most 2,000
record Ends (L W : Float) : Type 0 where
  least-finite : T (finite L)
  above : Above W
  offset-finite : T (finite (mul binary64 (of_count 4095) W))
  width_finite : T (finite (mul binary64 (of_count 1) W))
  bin_finite : T (finite (last_bin L W))
  most : T (le (last_end L W) (of_count 2000))

-- a span of 2,000 from 0, and of 1,000 from 1,000
from_zero : Ends zero64 (div binary64 (of_count 2000) bins64)
unfolding of_bits of_int round add mul div le
from_zero = record { least-finite = tt; above = record { is_finite = tt; no_less = refl }; offset-finite = tt; width_finite = tt; bin_finite = tt; most = tt }

from_thousand : Ends (of_count 1000) (div binary64 (of_count 1000) bins64)
unfolding of_bits of_int round add mul div le
from_thousand = record { least-finite = tt; above = record { is_finite = tt; no_less = refl }; offset-finite = tt; width_finite = tt; bin_finite = tt; most = tt }

module _ (least width : Float) (fl : T (fits binary64 least)) (wl : Within 1000 least) (ww : Within 1 width) (pw : T (le zero64 width))
    (r : BinRank) (b : r.bin ≤ 4095) (k : r.rank < r.size) (m : r.size ≤ 16777216) where
  offset : Float
  offset = mul binary64 (of_count r.bin) width

  share : Float
  share = div binary64 (of_count r.rank) (of_count r.size)

  offset-within : Within 4095 offset
  unfolding offset
  offset-within = mul-within binary64 4095 1 (lit< tt) (of_count r.bin) width (within_weaken (of_count r.bin) b (whole_within binary64 r.bin (omega arith))) ww

  offset-over : T (le zero64 offset)
  unfolding offset
  offset-over =
      product_over (of_count r.bin) width (whole_within binary64 r.bin (omega arith)).is_finite ww.is_finite
      (inl (zero-below (of_count r.bin) (count_nonneg r.bin (omega arith)), zero-below width pw))

  share_within : Within 1 share
  unfolding share
  share_within =
      shared-within r.size (omega arith) (omega arith) 1 (lit< tt) (of_count r.rank)
      (within_weaken (of_count r.rank) (let g : r.rank ≤ 1 * r.size = omega arith in g) (whole_within binary64 r.rank (omega arith)))

  share_over : T (le zero64 share)
  unfolding share
  share_over =
      let c = units (of_count r.rank) (whole_within binary64 r.rank (omega arith)).is_finite (of_int-fits binary64 (pos r.rank)) in
      let n = r.size in
      div-over n (omega arith) (omega arith) (of_count r.rank) zero64 c zero_units
      (omega (arith, zero_more, zero_fewer, ap (λ (z : ℕ). z * n) zero_more, ap (λ (z : ℕ). z * n) zero_fewer, zero-mul n, le_units zero64 (of_count r.rank) zero_units c (count_nonneg r.rank (omega arith))))

  within_bin : Float
  within_bin = mul binary64 share width

  within_bin_within : Within 1 within_bin
  unfolding within_bin
  within_bin_within = mul-within binary64 1 1 (lit< tt) share width share_within ww

  within_bin_over : T (le zero64 within_bin)
  unfolding within_bin
  within_bin_over = product_over share width share_within.is_finite ww.is_finite (inl (zero-below share share_over, zero-below width pw))

  value-least : T (le least (value_at least width r))
  unfolding value_at offset share within_bin
  value-least =
      let ws = add-within binary64 1000 4095 (lit< tt) least offset wl offset-within in
      let start = add binary64 least offset in
      let ul = units least wl.is_finite fl in
      let uo = units offset offset-within.is_finite (mul-fits binary64 (of_count r.bin) width) in
      let us = units start ws.is_finite (add-fits binary64 least offset) in
      let ub = units within_bin within_bin_within.is_finite (mul-fits binary64 share width) in
      le_trans' least start (add binary64 start within_bin)
      (add-over least offset least ul uo ul (omega (arith, zero_more, zero_fewer, le_units zero64 offset zero_units uo offset-over)))
      (add-over start within_bin start us ub us (omega (arith, zero_more, zero_fewer, le_units zero64 within_bin zero_units ub within_bin_over)))

  -- at most where the last bin ends, for a least and a width that are no smaller
  value-most : (L W : Float) → Ends L W → T (le least L) → T (le width W) → T (le (value_at least width r) (of_count 2000))
  unfolding value_at offset share within_bin
  value-most L W c hl hw =
      let aw : Above width = record { is_finite = ww.is_finite; no_less = zero-below width pw } in
      let ah : Above share = record { is_finite = share_within.is_finite; no_less = zero-below share share_over } in
      let o = product_le (of_count r.bin) width (of_count 4095) W (above-count r.bin (omega arith)) aw (above-count 4095 (lit< tt)) c.above (count-le r.bin 4095 b) hw in
      let i = product_le share width (of_count 1) W ah aw (above-count 1 (lit< tt)) c.above (within-le binary64 1 (lit< tt) share share_within) hw in
      le_trans' (add binary64 (add binary64 least offset) within_bin) (last_end L W) (of_count 2000)
      (add-le_both binary64 (add binary64 least offset) within_bin (last_bin L W) (mul binary64 (of_count 1) W)
      (add-within binary64 1000 4095 (lit< tt) least offset wl offset-within).is_finite within_bin_within.is_finite c.bin_finite c.width_finite
      (add-le_both binary64 least offset L (mul binary64 (of_count 4095) W) wl.is_finite offset-within.is_finite c.least-finite c.offset-finite hl o) i)
      c.most

-- ---- the width of a bin

bins_is : bins64 ≡ of_count 4096
unfolding of_bits of_int round
bins_is = refl

module _ (s : Moments) (o : Sound s) where
  abbrev span : Float
  span = sub binary64 s.max_db s.min_db

  span_within : Within 2000 span
  span_within = sub_within binary64 1000 1000 (lit< tt) s.max_db s.min_db o.greatest-within o.least-within

  width_within : Within 1 (div binary64 span bins64)
  width_within =
      subst (λ (z : Float). Within 1 (div binary64 span z)) (sym bins_is)
      (shared-within 4096 (lit< tt) (lit< tt) 1 (lit< tt) span (within_weaken span (let g : 2000 ≤ 1 * 4096 = omega arith in g) span_within))

  width_over : T (le zero64 (div binary64 span bins64))
  unfolding of_bits
  width_over =
      let u = units span span_within.is_finite (sub-fits binary64 s.max_db s.min_db) in
      let g = sub_nonneg binary64 s.max_db s.min_db o.greatest-within.is_finite o.least-within.is_finite o.ordered in
      subst (λ (z : Float). T (le zero64 (div binary64 span z))) (sym bins_is)
      (div-over 4096 (lit< tt) (lit< tt) span zero64 u zero_units (omega (arith, zero_more, zero_fewer, le_units zero64 span zero_units u g)))

  width_le : (S : Float) → T (le span S) → T (le (div binary64 span bins64) (div binary64 S bins64))
  unfolding of_bits
  width_le S h = div-le binary64 bins64 tt span S h

  -- from 0 on the span is at most 1,000
  span_most : T (le zero64 s.min_db) → T (le span (of_count 1000))
  unfolding of_bits of_int round sub le
  span_most h =
      le_trans' span (sub binary64 (of_count 1000) zero64) (of_count 1000)
      (sub-le_both binary64 s.max_db s.min_db (of_count 1000) zero64 o.greatest-within.is_finite o.least-within.is_finite tt tt (within-le binary64 1000 (lit< tt) s.max_db o.greatest-within) h) tt

  -- any percentile of the bins
  module _ (vs : List Float) (c : s.count ≡ length vs) (l : length vs ≤ 16777216) (p : Float) where
    abbrev found : BinRank
    found = find_bin (target_of p s.count) 0 0 (bins_of s vs)

    module _ (h : 0 < length vs) where
      first : First (target_of p (length vs)) (bins_of s vs) found
      first = subst (λ (n : ℕ). First (target_of p (length vs)) (bins_of s vs) (find_bin (target_of p n) 0 0 (bins_of s vs))) (sym c) (target_of-first p s vs h)

      found_bin : found.bin ≤ 4095
      found_bin = omega (arith, first.inside, bins-length s vs)

      found_size : found.size ≤ 16777216
      found_size = omega (arith, first.size_is, at-most-sum (bins_of s vs) found.bin, bins-sum s vs)

      spread_least : T (le s.min_db (spread_percentile s found).value)
      unfolding spread_percentile span_of
      spread_least =
          value-least s.min_db (div binary64 span bins64) o.least_fit o.least-within width_within width_over found found_bin first.rank_below found_size

      spread_most : T (le (spread_percentile s found).value (of_count 2000))
      unfolding spread_percentile span_of
      spread_most =
          ⊎_elim
          (λ (h : T (le zero64 s.min_db)). most (of_count 1000) (div binary64 (of_count 1000) bins64) from_thousand (within-le binary64 1000 (lit< tt) s.min_db o.least-within) (width_le (of_count 1000) (span_most h)))
          (λ (h : T (le s.min_db zero64)). most zero64 (div binary64 (of_count 2000) bins64) from_zero h (width_le (of_count 2000) (within-le binary64 2000 (lit< tt) span span_within)))
          (le_total zero64 s.min_db (number_of_finite zero64 zero-small.is_finite) (number_of_finite s.min_db o.least-within.is_finite))
        where
          most : (L W : Float) → Ends L W → T (le s.min_db L) → T (le (div binary64 span bins64) W) → T (le (value_at s.min_db (div binary64 span bins64) found) (of_count 2000))
          most = value-most s.min_db (div binary64 span bins64) o.least_fit o.least-within width_within width_over found found_bin first.rank_below found_size

      spread_within : Within 2000 (spread_percentile s found).value
      spread_within =
          within-between 2000 (lit< tt) s.min_db (spread_percentile s found).value (of_count 2000)
          (within_weaken s.min_db (lit≤ tt) o.least-within) (whole_within binary64 2000 (lit< tt)) spread_least spread_most

    -- what holds of a percentile in both cases
    percentile_all : (P : Float → Type 0) → P (flat_percentile s p).value → (is_flat s ≡ false → P (spread_percentile s found).value) → P (estimate_percentile s (bins_of s vs) p).value
    unfolding estimate_percentile
    percentile_all P a b = pick (is_flat s) refl
      where
        pick : (t : Bool) → is_flat s ≡ t → P (cond t (flat_percentile s p) (spread_percentile s found)).value
        pick true e = a
        pick false e = b e

  -- any percentile of a flat scene
  flat-within : (p : Float) → Within 2000 (flat_percentile s p).value
  unfolding flat_percentile
  flat-within p =
      either (Within 2000) (lt half64 p) s.max_db s.min_db (within_weaken s.max_db (omega arith) o.greatest-within) (within_weaken s.min_db (omega arith) o.least-within)

  flat-least : (p : Float) → T (le s.min_db (flat_percentile s p).value)
  unfolding flat_percentile
  flat-least p =
      either (λ (z : Float). T (le s.min_db z)) (lt half64 p) s.max_db s.min_db o.ordered (le_refl s.min_db (number_of_finite s.min_db o.least-within.is_finite))

-- ---- the record

pub record Bounded (r : HistogramStats) : Type 0 where
  pub least : Within 1000 r.min_db
  pub greatest : Within 1000 r.max_db
  pub mean : Within 1000 r.mean_db
  pub deviation : Within 2000 r.std_db
  pub percentiles : Percentiles (Within 2000) r

gathered_all : (P : Float → Type 0) (s : Moments) (place : Place) (p : Float → Percentile) → ((q : Float) → P (p q).value) → Percentiles P (gathered s place p)
unfolding gathered
gathered_all P s place p h = record { median = h _; p01 = h _; p02 = h _; p05 = h _; p10 = h _; p25 = h _; p75 = h _; p90 = h _; p95 = h _; p98 = h _; p99 = h _ }

gathered_bounded : (s : Moments) (place : Place) → s.count ≤ 16777216 → Sound s → (p : Float → Percentile) → ((q : Float) → Within 2000 (p q).value) → Bounded (gathered s place p)
unfolding gathered
gathered_bounded s place l o p h =
    record { least = o.least-within; greatest = o.greatest-within; mean = o.mean-within; deviation = deviation-within s l o; percentiles = gathered_all (Within 2000) s place p h }

gathered-least : (s : Moments) (place : Place) (p : Float → Percentile) → ((q : Float) → T (le s.min_db (p q).value)) → Percentiles (λ x. T (le (gathered s place p).min_db x)) (gathered s place p)
unfolding gathered
gathered-least s place p h = gathered_all (λ x. T (le s.min_db x)) s place p h

pub none-flat : (vs : List Float) → length vs ≡ 0 → is_flat (moments_from no_moments vs) ≡ true
unfolding is_flat span_of moments_from no_moments of_bits sub lt
none-flat [] e = refl
none-flat (v ∷ vs) e = absurd (omega arith)

-- values that are not flat
pub some : (vs : List Float) → is_flat (moments_from no_moments vs) ≡ false → 0 < length vs
some vs a = go (length vs) refl
  where
    go : (n : ℕ) → length vs ≡ n → 0 < n
    go zero z = absurd (true≢false (sym (none-flat vs z) ∙ a))
    go (suc n) z = omega arith

module _ (vs : List Float) (l : length vs ≤ 16777216) (e : Each Decibel vs) where
  abbrev s : Moments
  s = moments_from no_moments vs

  few : s.count ≤ 16777216
  few = omega (arith, none-count vs)

  o : Sound s
  o = sound_moments vs l e

  -- "bounds on every field"
  stats_bounded : (place : Place) → Bounded (summary s place vs)
  unfolding summary
  stats_bounded place =
      gathered_bounded s place few o (estimate_percentile s (bins_of s vs))
      (λ p. percentile_all s o vs (none-count vs) l p (Within 2000) (flat-within s o p) (λ a. spread_within s o vs (none-count vs) l p (some vs a)))

  -- "every percentile is at least min"
  stats-least : (place : Place) → Percentiles (λ x. T (le (summary s place vs).min_db x)) (summary s place vs)
  unfolding summary
  stats-least place =
      gathered-least s place (estimate_percentile s (bins_of s vs))
      (λ p. percentile_all s o vs (none-count vs) l p (λ x. T (le s.min_db x)) (flat-least s o p) (λ a. spread_least s o vs (none-count vs) l p (some vs a)))

-- ---- of a band that is not refused

both : (a b : Bool) → not (a && b) ≡ false → T a × T b
both true true e = (tt, tt)
both true false e = absurd (let z : ◌≡◌ {A = ℕ} 0 1 = cc in omega arith)
both false b e = absurd (let z : ◌≡◌ {A = ℕ} 0 1 = cc in omega arith)

good_decibel : (v : Float) → T (fits binary64 v) → decibel_refused (on v) ≡ false → Decibel v
unfolding decibel_refused
good_decibel v f e = let p = both (le minus_thousand v) (le v thousand) e in record { fit = f; low = p.0; high = p.1 }

valid_decibels : (m : List ℕ) (d : List Float) → ((i : ℕ) → i < length d → T (fits binary64 (get_or d i nan))) → decibels_refused (pixels m d) ≡ false → Each Decibel (valid_of (pixels m d))
unfolding pixels pixel zip_with valid_of decibels_refused any
valid_decibels [] d f e = tt
valid_decibels (k ∷ m) [] f e = tt
valid_decibels (zero ∷ m) (v ∷ d) f e = valid_decibels m d (λ i l. f (suc i) (suc-le-suc l)) (or_false (decibel_refused off) (any decibel_refused (pixels m d)) e).1
valid_decibels (suc k ∷ m) (v ∷ d) f e =
    let p = or_false (decibel_refused (on v)) (any decibel_refused (pixels m d)) e in
    (good_decibel v (f 0 (suc-le-suc zero-le)) p.0, valid_decibels m d (λ i l. f (suc i) (suc-le-suc l)) p.1)

valid-few : (m : List ℕ) (d : List Float) → length (valid_of (pixels m d)) ≤ length d
unfolding pixels pixel zip_with valid_of
valid-few [] d = zero-le
valid-few (k ∷ m) [] = zero-le
valid-few (zero ∷ m) (v ∷ d) = omega (arith, valid-few m d)
valid-few (suc k ∷ m) (v ∷ d) = omega (arith, valid-few m d)

module _ (m : List ℕ) (d : List Float) (a : Accepted m d) where
  few-valid : length (valid_of (pixels m d)) ≤ 16777216
  few-valid = omega (arith, valid-few m d, a.few)

  good : Each Decibel (valid_of (pixels m d))
  good = valid_decibels m d a.are_f64 a.not_refused

  -- of what windows read
  pub accepted_bounded : Bounded (statistics_of (pixels m d))
  unfolding statistics_of summary_of
  accepted_bounded = stats_bounded (valid_of (pixels m d)) few-valid good nowhere

  -- of what the statistics call tells
  pub placed_bounded : (cols : ℕ) → Bounded (placed_statistics cols (pixels m d))
  unfolding placed_statistics
  placed_bounded cols = stats_bounded (valid_of (pixels m d)) few-valid good (place_in cols (strongest (pixels m d)))

  pub placed-least : (cols : ℕ) → Percentiles (λ x. T (le (placed_statistics cols (pixels m d)).min_db x)) (placed_statistics cols (pixels m d))
  unfolding placed_statistics
  placed-least cols = stats-least (valid_of (pixels m d)) few-valid good (place_in cols (strongest (pixels m d)))
