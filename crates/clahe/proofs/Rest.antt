-- What is left of the excess once each bin has had its share is at most 256: the source goes round the bins no more than once, as the definition does. Assumes nothing.
use Rattle.std.proofs.Common.{◌≡◌, ℕ, ◌+◌, ◌*◌, ◌/◌, ◌^◌, ◌<◌, ◌≤◌, true, false, T, sym, refl, ap, ◌∙◌, subst, zero-le, mul-le-mul_right, mul_assoc, mul_comm, div-lt_iff_lt-mul, add-mul, mul-le-mul_left, mul-pos, mul-one, mul-add, mul_right_comm, div-mul-le_self, le_of_mul-le-mul_right, arith, lit<}
use native.Mathlib.Nat.{div-le_of_le-mul, lt-mul-div-succ}
use lib.Ieee.{Float, nan, inf, fin, binary64, sub, mul, div, le, round, of_int, of_bits, to_unsigned}
use lib.Ieee.Positive.{den, den_pos}
use lib.Ieee.Scale.{finite}
use Rattle.numeric.proofs.Order.{plus, less, number_of_finite, finite-between, only_top, le→cross, le_refl as le-refl', le_trans as le_trans'}
use Rattle.numeric.proofs.Round.{Rounds, rounds-le}
use Rattle.numeric.proofs.Ops.{sub-rounds, sub-le_both, mul-rounds, div-rounds}
use Rattle.numeric.proofs.Picks.{to_unsigned-le}
use Rattle.numeric.proofs.Values.{value-finite, value_plus, value_less, count-value, round_as_u64_of, nothing_less}
use Rattle.spec.specs.Floats.{zero64, of_count, round_as_u64}
use Rattle.spec.specs.Lists.{sum_of}
use Rattle.spec.specs.Clahe.{levels64, excess}
use Rattle.clahe.specs.Limits.{RestOnce}
use Rattle.clahe.proofs.Bounds.{count-finite, count-le, zero-count, count_back, each-most, excess_bounds}

count-rounds : (n : ℕ) → Rounds binary64 (of_count n) n 0 1
unfolding of_int
count-rounds n = record { sign = false; size = n; is = refl; value = omega arith }

count_plus : (n : ℕ) → n ≤ 2 ^ 53 → plus (of_count n) ≡ n * den (of_count n)
count_plus n h = sym (mul-one (plus (of_count n))) ∙ value_plus (of_count n) n 1 (count-value n h)

-- ---- a float that is at most a count

under : (x : Float) (n : ℕ) → n ≤ 2 ^ 53 → T (finite x) → T (le x (of_count n)) → plus x ≤ n * den x + less x
under x n b f h =
    let c = of_count n in
    let k = le→cross x c f (count-finite n b) h in
    let e : plus c * den x ≡ n * den x * den c = ap (λ (p : ℕ). p * den x) (count_plus n b) ∙ mul_right_comm n (den c) (den x) in
    let g : plus x * den c ≤ (n * den x + less x) * den c = omega (arith, k, e, add-mul (n * den x) (less x) (den c)) in
    le_of_mul-le-mul_right {m = plus x} {n = n * den x + less x} {k = den c} g (den_pos c)

rounds-under : (a d : ℕ) → 0 < d → a ≤ 256 * d → (a * 2 + d) / (d * 2) < 257
rounds-under a d h l = (div-lt_iff_lt-mul {k = d * 2} {x = a * 2 + d} {y = 257} (omega arith)).1 (omega arith)

not_256 : of_count 256 ≡ inf false → ⊥
unfolding of_int round
not_256 e = let z : ◌≡◌ {A = ℕ} 0 1 = cc in omega arith

round_as_u64-most : (z : Float) → T (le z (of_count 256)) → round_as_u64 z ≤ 256
unfolding round_as_u64
round_as_u64-most nan h = zero-le
round_as_u64-most (inf true) h = zero-le
round_as_u64-most (inf false) h = absurd (not_256 (only_top (of_count 256) h))
round_as_u64-most (fin true m e) h = zero-le
round_as_u64-most (fin false m e) h =
    let x = fin false m e in
    omega (arith, round_as_u64_of x tt, rounds-under (plus x) (den x) (den_pos x) (omega (arith, under x 256 (omega arith) tt h)))

-- ---- what is left of x

module _ (x : Float) (n : ℕ) (b : n ≤ 2 ^ 44) (l : T (le zero64 x)) (h : T (le x (of_count n))) where
  abbrev each : ℕ
  each = to_unsigned 64 (div binary64 x levels64)

  x_finite : T (finite x)
  unfolding of_bits
  x_finite = finite-between zero64 x (of_count n) tt (count-finite n (omega arith)) l h

  x_most : plus x ≤ n * den x
  unfolding of_bits
  x_most = omega (arith, under x n (omega arith) x_finite h, nothing_less x l)

  -- the whole part of a 256th
  abbrev part : ℕ
  part = plus x / (256 * den x)

  part_most : part ≤ n
  part_most = div-le_of_le-mul (256 * den x) {m = plus x} {n = n} (omega (arith, x_most, mul_assoc 256 (den x) n, mul_comm n (den x)))

  part_below : T (le (of_count part) (div binary64 x levels64))
  unfolding of_bits
  part_below =
      rounds-le binary64 (of_count part) (div binary64 x levels64) part 0 1 (plus x * 1) (less x * 1) (256 * den x) (lit< tt) (omega (arith, den_pos x))
      (count-rounds part) (div-rounds binary64 x levels64 x_finite tt) (omega (arith, nothing_less x l, div-mul-le_self (plus x) (256 * den x)))

  part_each : part ≤ each
  part_each = omega (arith, count_back 64 part (omega (arith, part_most)) (omega (arith, part_most)), to_unsigned-le 64 (of_count part) (div binary64 x levels64) part_below)

  each-under : each ≤ n
  each-under = each-most n x (omega arith) h

  -- less than 256 is left
  left : plus x ≤ each * 256 * den x + 256 * den x
  left =
      omega (
        arith,
        lt-mul-div-succ (plus x) {b = 256 * den x} (omega (arith, den_pos x)),
        mul-le-mul_left {m = part + 1} {n = each + 1} (256 * den x) (omega (arith, part_each)),
        mul-add (256 * den x) each 1,
        mul_comm (256 * den x) each,
        mul_assoc each 256 (den x),
      )

  -- what the bins have had is a count
  abbrev given : Float
  given = mul binary64 (of_count each) levels64

  given_rounds : Rounds binary64 given (plus (of_count each) * 256) (less (of_count each) * 256) (den (of_count each) * 1)
  unfolding of_bits
  given_rounds = mul-rounds binary64 (of_count each) levels64 (count-finite each (omega (arith, each-under))) tt

  no_less : less (of_count each) ≡ 0
  no_less = value_less (of_count each) each 1 (count-value each (omega (arith, each-under)))

  same : each * 256 * (den (of_count each) * 1) ≡ plus (of_count each) * 256
  same =
      ap (λ (d : ℕ). each * 256 * d) (mul-one (den (of_count each))) ∙ mul_right_comm each 256 (den (of_count each))
      ∙ ap (λ (p : ℕ). p * 256) (sym (count_plus each (omega (arith, each-under))))

  given_above : T (le (of_count (each * 256)) given)
  given_above =
      rounds-le binary64 (of_count (each * 256)) given (each * 256) 0 1 (plus (of_count each) * 256) (less (of_count each) * 256) (den (of_count each) * 1)
      (lit< tt) (omega (arith, den_pos (of_count each))) (count-rounds (each * 256)) given_rounds (omega (arith, same, no_less))

  given_below : T (le given (of_count (each * 256)))
  given_below =
      rounds-le binary64 given (of_count (each * 256)) (plus (of_count each) * 256) (less (of_count each) * 256) (den (of_count each) * 1) (each * 256) 0 1
      (omega (arith, den_pos (of_count each))) (lit< tt) given_rounds (count-rounds (each * 256)) (omega (arith, same, no_less))

  given_finite : T (finite given)
  unfolding of_bits
  given_finite =
      finite-between zero64 given (of_count (each * 256)) tt (count-finite (each * 256) (omega (arith, each-under)))
      (le_trans' zero64 (of_count (each * 256)) given (subst (λ (z : Float). T (le z (of_count (each * 256)))) zero-count (count-le 0 (each * 256) zero-le)) given_above) given_below

  less_count : T (le (sub binary64 x (of_count (each * 256))) (of_count 256))
  less_count =
      let g = of_count (each * 256) in
      let v = count-value (each * 256) (omega (arith, each-under)) in
      let e : plus g * den x ≡ each * 256 * den x * den g = ap (λ (p : ℕ). p * den x) (count_plus (each * 256) (omega (arith, each-under))) ∙ mul_right_comm (each * 256) (den g) (den x) in
      rounds-le binary64 (sub binary64 x g) (of_count 256) (plus x * den g + less g * den x) (less x * den g + plus g * den x) (den x * den g) 256 0 1
      (mul-pos (den_pos x) (den_pos g)) (lit< tt) (sub-rounds binary64 x g x_finite (value-finite g (each * 256) 1 v)) (count-rounds 256)
      (omega (
        arith,
        e,
        ap (λ (p : ℕ). p * den x) (value_less g (each * 256) 1 v),
        mul-le-mul_right {m = plus x} {n = each * 256 * den x + 256 * den x} (den g) left,
        add-mul (each * 256 * den x) (256 * den x) (den g),
        mul_assoc 256 (den x) (den g),
      ))

  rest_most : round_as_u64 (sub binary64 x given) ≤ 256
  rest_most =
      let f = x_finite in
      round_as_u64-most (sub binary64 x given)
      (le_trans' (sub binary64 x given) (sub binary64 x (of_count (each * 256))) (of_count 256)
      (sub-le_both binary64 x given x (of_count (each * 256)) f given_finite f (count-finite (each * 256) (omega (arith, each-under))) (le-refl' x (number_of_finite x f)) given_above)
      less_count)

pub rest_once : RestOnce
unfolding RestOnce
rest_once limit p hs b =
    let k = excess_bounds limit p hs (omega arith) in
    rest_most (excess limit zero64 hs) (sum_of hs) b k.0 k.1
