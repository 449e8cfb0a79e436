-- Rounding half away from zero: by the whole part n, one more where x reaches n + 1/2, and nothing to round from 2^(prec - 1) on; and std's `round`. Assumes nothing.
use Rattle.std.proofs.Common.{◌≡◌, ℕ, zero, suc, ◌+◌, ◌-◌, ◌*◌, ◌/◌, ◌%◌, ◌^◌, ◌<◌, ◌≤◌, true, false, not, ◌&&◌, T, eqb, ltb, leb, pos, negsuc, sym, refl, ap, ◌∙◌, subst, suc-le-suc, zero-le, le_trans, lt_of_lt_of_le, mul_assoc, mul_comm, add-mul, mul-le-mul_left, lt_of_not-le, le-div_iff_mul-le, div-mul-le_self, mul_left_comm, arith, lit<, lit≤, le→leb, ltb→lt, T_not, pow_pos, pow_mono, shl_lt}
use native.Mathlib.Nat.{zero-div, lt-div-mul-add, div-eq_of_lt-le}
use lib.Ieee.{Float, nan, inf, fin, Format, binary32, binary64, prec, low, emax, up, down, round, add, le, of_int, fits, to_unsigned, in_float}
use lib.Ieee.Back.{round_whole}
use lib.Ieee.Exact.{HasValue, round_exact}
use lib.Ieee.Fits.{and_l, and_r}
use lib.Ieee.Order.{le_of_values}
use lib.Ieee.Positive.{den, den_pos}
use lib.Ieee.Scale.{finite}
use Rattle.std.specs.Float.{round_with, float_round}
use Rattle.spec.specs.Floats.{round_as_u64}
use Rattle.numeric.specs.Round.{round_float, half}
use Rattle.numeric.proofs.Order.{plus, less, le_trans as le_trans'}
use Rattle.numeric.proofs.Values.{add-values, value-below, value-above, nothing_less, whole_of, round_as_u64_of}

-- k / 2 is exact
half_exact : (f : Format) (k : ℕ) → k < 2 ^ prec f → HasValue (round f false k 2) false k 2
half_exact binary32 k h = round_exact binary32 false k 2 k 148 (lit< tt) h (lt_of_lt_of_le (shl_lt 24 148 h) (pow_mono {i = 172} {j = 277} (lit≤ tt))) (sym (mul_assoc k (2 ^ 148) 2))
half_exact binary64 k h = round_exact binary64 false k 2 k 1073 (lit< tt) h (lt_of_lt_of_le (shl_lt 53 1073 h) (pow_mono {i = 1126} {j = 2098} (lit≤ tt))) (sym (mul_assoc k (2 ^ 1073) 2))

-- n + 1/2 is exact
pub half_more : (f : Format) (n : ℕ) → n * 2 + 1 < 2 ^ prec f → HasValue (add f (of_int f (pos n)) half) false (n * 2 + 1) 2
unfolding of_int
half_more f n h =
    subst (λ (z : Float). HasValue z false (n * 2 + 1) 2)
    (sym (add-values f (of_int f (pos n)) half n 1 1 2 (lit< tt) (lit< tt) (round_whole f false n (omega arith)) (refl, refl)))
    (half_exact f (n * 2 + 1) h)

-- ---- what N / D, rounded, is
pub turned : (x : Float) (n : ℕ) → n ≤ 2 ^ 64 - 1 → T (finite x) → n * (den x * 2) ≤ plus x * 2 + den x → plus x * 2 + den x < (n + 1) * (den x * 2) → n ≡ round_as_u64 x
turned x n s p h k = let d : (plus x * 2 + den x) / (den x * 2) ≡ n = div-eq_of_lt-le (den x * 2) h k in omega (arith, round_as_u64_of x p)

pub up_from : (n N D : ℕ) → (n * 2 + 1) * D ≤ N * 2 → (n + 1) * (D * 2) ≤ N * 2 + D
up_from n N D h = let g = simp (add-mul, mul_assoc) at h in simp (add-mul, mul_left_comm) (omega arith)

pub down_from : (n N D : ℕ) → N * 2 < (n * 2 + 1) * D → N * 2 + D < (n + 1) * (D * 2)
down_from n N D h = let g = simp (add-mul, mul_assoc) at h in simp (add-mul, mul_left_comm) (omega arith)

-- ---- the whole part n, below 2^(prec - 1)
-- n * D ≤ N < (n + 1) * D
whole_part : (x : Float) (n : ℕ) → T (finite x) → n ≡ to_unsigned 64 x → n < 2 ^ 64 - 1 → (n * den x ≤ plus x) × (plus x < n * den x + den x)
whole_part x n p e l =
    let d : plus x / den x ≡ n = omega (arith, whole_of 64 x p) in
    (subst (λ (q : ℕ). q * den x ≤ plus x) d (div-mul-le_self (plus x) (den x)), subst (λ (q : ℕ). plus x < q * den x + den x) d (lt-div-mul-add {a = plus x} (den_pos x)))

module _ (f : Format) (x : Float) (n : ℕ) (e : n ≡ to_unsigned 64 x) (h : n * 2 + 1 < 2 ^ prec f) where
  narrow : n < 2 ^ 64 - 1
  narrow = go f h
    where
      go : (f : Format) → n * 2 + 1 < 2 ^ prec f → n < 2 ^ 64 - 1
      go binary32 h = omega arith
      go binary64 h = omega arith

  reached_nonneg : T (le (add f (of_int f (pos n)) half) x) → T (le (fin false 0 (pos 0)) x)
  reached_nonneg g =
      le_trans' (fin false 0 (pos 0)) (add f (of_int f (pos n)) half) x
      (le_of_values (fin false 0 (pos 0)) (add f (of_int f (pos n)) half) 0 1 (n * 2 + 1) 2 (lit< tt) (lit< tt) (refl, refl) (half_more f n h) (omega arith)) g

  reached-at : T (finite x) → T (le (add f (of_int f (pos n)) half) x) → n + 1 ≡ round_as_u64 x
  reached-at p g =
      let w = whole_part x n p e narrow in
      let k : (n * 2 + 1) * den x ≤ plus x * 2 = value-below (add f (of_int f (pos n)) half) x (n * 2 + 1) 2 (lit< tt) (half_more f n h) p (nothing_less x (reached_nonneg g)) g in
      turned x (n + 1) (omega (arith, narrow)) p (up_from n (plus x) (den x) k) (simp (add-mul, mul_left_comm) (omega (arith, w.1)))

  short-at : T (finite x) → less x ≡ 0 → T (not (le (add f (of_int f (pos n)) half) x)) → n ≡ round_as_u64 x
  short-at p z g =
      let w = whole_part x n p e narrow in
      let k : plus x * 2 < (n * 2 + 1) * den x = lt_of_not-le (λ (j : (n * 2 + 1) * den x ≤ plus x * 2).
      T_not (le (add f (of_int f (pos n)) half) x) g (value-above (add f (of_int f (pos n)) half) x (n * 2 + 1) 2 (lit< tt) (half_more f n h) p z j)) in
      turned x n (omega (arith, narrow)) p (omega (arith, w.0, mul_assoc n (den x) 2)) (down_from n (plus x) (den x) k)

-- x reaches n + 1/2
pub reached : (f : Format) (x : Float) (n : ℕ) → n ≡ to_unsigned 64 x → n * 2 + 1 < 2 ^ prec f → T (le (add f (of_int f (pos n)) half) x) → n + 1 ≡ round_as_u64 x
unfolding to_unsigned le
reached f nan n e h g = absurd (reached_nonneg f nan n e h g)
reached f (inf true) n e h g = absurd (reached_nonneg f (inf true) n e h g)
reached f (inf false) n e h g = absurd (omega (arith, narrow f (inf false) n e h))
reached f (fin s m k) n e h g = reached-at f (fin s m k) n e h tt g

-- and does not
pub short : (f : Format) (x : Float) (n : ℕ) → n ≡ to_unsigned 64 x → n * 2 + 1 < 2 ^ prec f → T (not (le (add f (of_int f (pos n)) half) x)) → n ≡ round_as_u64 x
unfolding to_unsigned round_as_u64
short f nan n e h g = e
short f (inf true) n e h g = e
short f (inf false) n e h g = absurd (omega (arith, narrow f (inf false) n e h))
short f (fin true m k) n e h g = e
short f (fin false m k) n e h g = short-at f (fin false m k) n e h tt refl g

pub whole_fits : (f : Format) (n : ℕ) → n ≤ 2 ^ prec f → T (in_float f (pos n))
unfolding in_float
whole_fits f n h = le→leb n (2 ^ prec f) h

-- ---- from 2^(prec - 1) on every value is whole
pub large : (f : Format) (x : Float) (n : ℕ) → T (fits f x) → n ≡ to_unsigned 64 x → 2 ^ prec f ≤ n * 2 → n ≡ round_as_u64 x
unfolding fits to_unsigned round_as_u64
large f nan n p e h = e
large f (inf s) n p e h = e
large f (fin true m k) n p e h = e
large f (fin false m (pos j)) n p e h = omega (arith, e)
large f (fin false zero (negsuc j)) n p e h = absurd (omega (arith, e, zero-div (2 ^ suc j), pow_pos (prec f)))
large f (fin false (suc m) (negsuc j)) n p e h =
    let a = eqb (suc m % 2) 1 && ltb (suc m) (2 ^ prec f) in
    let b = leb (2 ^ suc j) (2 ^ low f) in
    let d = ltb (suc m * 1) (2 ^ suc (emax f) * 2 ^ suc j) in
    let s = ltb→lt (suc m) (2 ^ prec f) (and_r (eqb (suc m % 2) 1) (ltb (suc m) (2 ^ prec f)) (and_l a b (and_l (a && b) d p))) in
    let t : n * 2 ≤ suc m * 1 = twice n (suc m * 1) (2 ^ suc j) (pow_mono {i = 1} {j = suc j} (suc-le-suc zero-le)) (omega (arith, e)) in
    absurd (omega (arith, s, t))
  where
    twice : (n a d : ℕ) → 2 ≤ d → n ≤ a / d → n * 2 ≤ a
    twice n a d D g = le_trans (mul-le-mul_left n D) ((le-div_iff_mul-le (omega arith)).0 g)

-- ---- std's `round`, to a float of the format
half_up : (n d : ℕ) → (2 * n + d) / (2 * d) ≡ (n * 2 + d) / (d * 2)
half_up n d = ap (λ (z : ℕ). (z + d) / (2 * d)) (mul_comm 2 n) ∙ ap (λ (z : ℕ). (n * 2 + d) / z) (mul_comm 2 d)

pub round_is : (f : Format) (x : Float) → float_round f x ≡ round_float f x
unfolding round_with round_float
round_is f nan = refl
round_is f (inf s) = refl
round_is f (fin false m e) = ap (λ (z : ℕ). round f false z 1) (half_up (m * up e) (down e))
round_is f (fin true m e) = ap (λ (z : ℕ). round f true z 1) (half_up (m * up e) (down e))
