-- The excess lies between 0 and the sum of the bins, so shares fit. Assumes nothing.
use Rattle.std.proofs.Common.{◌≡◌, ℕ, zero, suc, ◌+◌, ◌*◌, ◌^◌, ◌<◌, ◌≤◌, Bool, true, false, cond, T, List, [], ◌∷◌, map, get_or, sym, refl, ap, ◌∙◌, subst, zero-le, add-zero, add_assoc, zero-add, mul_left_comm, arith, lit<, le→leb}
use native.Mathlib.Nat.{sub-zero}
use lib.Ieee.{Float, binary64, add, sub, mul, div, lt, le, of_int, of_bits, to_unsigned, in_float}
use lib.Ieee.Back.{unsigned_back}
use lib.Ieee.Positive.{den, den_pos}
use lib.Ieee.Scale.{finite}
use Rattle.numeric.proofs.Order.{plus, less, number_of_finite, le_trans as le_trans', le_of_lt, finite-between, le_refl as le-refl'}
use Rattle.numeric.proofs.Round.{round-le, rounds-le}
use Rattle.numeric.proofs.Ops.{sub_nonneg, add-le_both, sub-le_both, div-le, div-rounds}
use Rattle.numeric.proofs.Picks.{to_unsigned-le, above-max}
use Rattle.numeric.proofs.Values.{value-finite, value_plus, count-value, count-sub}
use Rattle.numeric.proofs.Exact.{count_add}
use Rattle.spec.specs.Floats.{zero64, one64, two64, of_count, max_float}
use Rattle.spec.specs.Lists.{sum_of}
use Rattle.spec.specs.Clahe.{levels64, threshold, clipped, excess}

-- ---- counts as floats

pub count-finite : (n : ℕ) → n ≤ 2 ^ 53 → T (finite (of_count n))
count-finite n h = value-finite (of_count n) n 1 (count-value n h)

pub count-le : (a b : ℕ) → a ≤ b → T (le (of_count a) (of_count b))
unfolding of_int
count-le a b h = round-le binary64 false a 1 false b 1 (lit< tt) (lit< tt) (omega arith)

pub zero-count : of_count 0 ≡ zero64
unfolding of_int of_bits
zero-count = refl

pub count_back : (w n : ℕ) → n ≤ 2 ^ 53 → n < 2 ^ w → to_unsigned w (of_count n) ≡ n
unfolding in_float
count_back w n h g = (unsigned_back binary64 w n (le→leb n (2 ^ 53) h) g).1

none : T (le zero64 zero64)
unfolding le of_bits
none = tt

-- ---- one bin

abbrev Between : ℕ → Float → Type 0
Between n x = T (le zero64 x) × T (le x (of_count n))

module _ (limit : Float) (p : T (le zero64 limit)) where
  -- what a bin has above the limit is not below 0 and not above the bin
  over : (h : ℕ) → h ≤ 2 ^ 53 → T (lt limit (of_count h)) → T (le zero64 (sub binary64 (of_count h) limit)) × T (le (sub binary64 (of_count h) limit) (of_count h))
  unfolding of_bits
  over h b l =
      let f = count-finite h b in
      let k = le_of_lt limit (of_count h) l in
      let g = finite-between zero64 limit (of_count h) tt f p k in
      let e : sub binary64 (of_count h) zero64 ≡ of_count h = ap (sub binary64 (of_count h)) (sym zero-count) ∙ count-sub h 0 b zero-le ∙ ap of_count (sub-zero h) in (
        sub_nonneg binary64 (of_count h) limit f g k,
        subst (λ (z : Float). T (le (sub binary64 (of_count h) limit) z)) e
            (sub-le_both binary64 (of_count h) limit (of_count h) zero64 f g f tt (le-refl' (of_count h) (number_of_finite (of_count h) f)) p),
      )

  -- one more bin's excess
  more : (a h : ℕ) (sum : Float) → a + h ≤ 2 ^ 53 → T (le zero64 sum) → T (le sum (of_count a)) → T (lt limit (of_count h))
      → T (le zero64 (add binary64 sum (sub binary64 (of_count h) limit))) × T (le (add binary64 sum (sub binary64 (of_count h) limit)) (of_count (a + h)))
  unfolding of_bits add
  more a h sum b l m t =
      let o = over h (omega arith) t in
      let fa = count-finite a (omega arith) in
      let fh = count-finite h (omega arith) in
      let fs = finite-between zero64 sum (of_count a) tt fa l m in
      let d = sub binary64 (of_count h) limit in
      let fd = finite-between zero64 d (of_count h) tt fh o.0 o.1 in (
        add-le_both binary64 zero64 zero64 sum d tt tt fs fd l o.0,
        subst (λ (z : Float). T (le (add binary64 sum d) z)) (count_add a h (omega arith) (omega arith))
            (add-le_both binary64 sum d (of_count a) (of_count h) fs fd fa fh m o.1),
      )

  excess-between : (hs : List ℕ) (a : ℕ) (sum : Float) → a + sum_of hs ≤ 2 ^ 53 → Between a sum → Between (a + sum_of hs) (excess limit sum hs)
  unfolding excess sum_of
  excess-between [] a sum b s = subst (λ (n : ℕ). Between n sum) (sym (add-zero a)) s
  excess-between (h ∷ hs) a sum b s =
      subst (λ (n : ℕ). Between n (excess limit (cond (lt limit (of_count h)) (add binary64 sum (sub binary64 (of_count h) limit)) sum) hs)) (add_assoc a h (sum_of hs))
      (excess-between hs (a + h) (cond (lt limit (of_count h)) (add binary64 sum (sub binary64 (of_count h) limit)) sum) (omega arith) (go (lt limit (of_count h)) (λ t. t)))
    where
      go : (t : Bool) → (T t → T (lt limit (of_count h))) → Between (a + h) (cond t (add binary64 sum (sub binary64 (of_count h) limit)) sum)
      go true f = more a h sum (omega arith) s.0 s.1 (f tt)
      go false f = (s.0, le_trans' sum (of_count a) (of_count (a + h)) s.1 (count-le a (a + h) (omega arith)))

-- what all bins have above the limit
pub excess_bounds : (limit : Float) → T (le zero64 limit) → (hs : List ℕ) → sum_of hs ≤ 2 ^ 53
    → T (le zero64 (excess limit zero64 hs)) × T (le (excess limit zero64 hs) (of_count (sum_of hs)))
excess_bounds limit p hs b =
    subst (λ (n : ℕ). Between n (excess limit zero64 hs)) (zero-add (sum_of hs)) (excess-between limit p hs 0 zero64 (omega arith) (none, subst (λ (z : Float). T (le zero64 z)) (sym zero-count) none))

-- ---- the share of each bin

-- a 256th is not more than the whole
part_le : (n : ℕ) → n ≤ 2 ^ 53 → T (le (div binary64 (of_count n) levels64) (of_count n))
unfolding of_bits of_int
part_le n h =
    let x = of_count n in
    let v = count-value n h in
    rounds-le binary64 (div binary64 x levels64) x (plus x * 1) (less x * 1) (256 * den x) n 0 1
    (omega (arith, den_pos x)) (lit< tt) (div-rounds binary64 x levels64 (value-finite x n 1 v) tt)
    (record { sign = false; size = n; is = refl; value = omega arith })
    (omega (arith, mul_left_comm n 256 (den x), value_plus x n 1 v))

pub each-most : (n : ℕ) (x : Float) → n ≤ 2 ^ 53 → T (le x (of_count n)) → to_unsigned 64 (div binary64 x levels64) ≤ n
unfolding of_bits
each-most n x h l =
    omega (
      arith,
      count_back 64 n h (omega arith),
      to_unsigned-le 64 (div binary64 x levels64) (of_count n)
          (le_trans' (div binary64 x levels64) (div binary64 (of_count n) levels64) (of_count n) (div-le binary64 levels64 tt x (of_count n) l) (part_le n h)),
    )

-- ---- a clipped bin

clipped-most : (limit : Float) (h : ℕ) → h < 2 ^ 32 → clipped limit h ≤ h
unfolding clipped
clipped-most limit h b = go (lt limit (of_count h)) (λ t. t)
  where
    go : (t : Bool) → (T t → T (lt limit (of_count h))) → cond t (to_unsigned 32 limit) h ≤ h
    go true f = omega (arith, count_back 32 h (omega arith) b, to_unsigned-le 32 limit (of_count h) (le_of_lt limit (of_count h) (f tt)))
    go false f = omega arith

-- no bin is above the sum
bin_most : (hs : List ℕ) (k : ℕ) → get_or hs k 0 ≤ sum_of hs
unfolding sum_of
bin_most [] k = zero-le
bin_most (h ∷ hs) zero = omega arith
bin_most (h ∷ hs) (suc k) = omega (arith, bin_most hs k)

clipped-at : (limit : Float) (hs : List ℕ) (k : ℕ) → ((j : ℕ) → get_or hs j 0 < 2 ^ 32) → get_or (map (clipped limit) hs) k 0 ≤ get_or hs k 0
clipped-at limit [] k b = zero-le
clipped-at limit (h ∷ hs) zero b = clipped-most limit h (b 0)
clipped-at limit (h ∷ hs) (suc k) b = clipped-at limit hs k (λ j. b (suc j))

-- a clipped bin and its share, as long as the bins sum to less than 2 ^ 31
pub share_fits : (limit : Float) (hs : List ℕ) (each : ℕ) → sum_of hs < 2 ^ 31 → each ≤ sum_of hs → (k : ℕ) → get_or (map (clipped limit) hs) k 0 + each + 1 < 2 ^ 32
share_fits limit hs each b l k = omega (arith, clipped-at limit hs k (λ j. omega (arith, bin_most hs j)), bin_most hs k)

pub threshold_low : (area : ℕ) → T (le zero64 (threshold area))
unfolding threshold le of_bits
threshold_low area =
    le_trans' zero64 one64 (max_float (mul binary64 two64 (div binary64 (of_count area) levels64)) one64) tt (above-max (mul binary64 two64 (div binary64 (of_count area) levels64)) one64 tt)
