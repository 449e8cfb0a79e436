-- `sqrt_float` is correctly rounded: the whole-number root's last digit is rounded off, and no tie exists. Assumes nothing.
use Rattle.std.proofs.Common.{◌≡◌, ℕ, zero, suc, ◌+◌, ◌-◌, ◌*◌, ◌/◌, ◌%◌, ◌^◌, ◌<◌, ◌≤◌, true, false, ◌&&◌, T, eqb, ltb, leb, ℤ, pos, negsuc, sym, refl, ap, ◌∙◌, subst, suc-le-suc, zero-le, le_trans, le_of_eq, lt_of_lt_of_le, lt_of_le_of_lt, mul_assoc, suc-mul, mul_comm, add-mul, mul-lt-mul_of_pos_right, mul-pos, lt_of_not-le, zero-mul, mul-one, mul-add, not-le_of_lt, mul_left_comm, arith, lit<, ltb→lt, leb→le, pow_pos, pow_mono, pow-add, shl_lt}
use native.Mathlib.Nat.{mul-mul-mul_comm}
use lib.Arith.{lt_of_le-ne}
use lib.Count.{count_leading_zeros}
use lib.Pow.{pow-lt}
use lib.Ieee.{Float, nan, inf, fin, binary64, up, down, round, lt, of_bits, fits}
use lib.Ieee.Exact.{HasValue, round_exact}
use lib.Ieee.Fits.{and_l, and_r, down_pos}
use lib.Ieee.Positive.{num, den, positive}
use Rattle.spec.specs.Floats.{zero64}
use Rattle.spec.specs.Root.{whole_root, offset, root_of, sqrt_float}
use Rattle.numeric.specs.Correct.{square, NearestRoot, CorrectRoot}
use Rattle.numeric.proofs.Root.{Floor, square_le}
use Rattle.numeric.proofs.Rooted.{Lead, lead, placed, root_floor, root_range, shift_is, root_of_is, level_up, zero_root}

-- ---- the last digit rounded off, by squares
rounded_off : (n w : ℕ) → Floor n w → (square (2 * ((w + 1) / 2) - 1) ≤ n) × (n < square (2 * ((w + 1) / 2) + 1))
rounded_off n w f =
    (le_trans (square_le (2 * ((w + 1) / 2) - 1) w (omega arith)) f.under, lt_of_lt_of_le f.over (square_le (w + 1) (2 * ((w + 1) / 2) + 1) (omega arith)))

-- no tie: an even number is no odd square
no_tie : (c s : ℕ) → 0 < s → square (2 * s - 1) ≡ c * 2 → ⊥
no_tie c zero p e = omega arith
no_tie c (suc t) p e =
    let o : square (2 * suc t - 1) ≡ square (2 * t + 1) = ap square (let g : 2 * suc t - 1 ≡ 2 * t + 1 = omega arith in g) in
    odd_square t c (sym o ∙ e)
  where
    odd_square : (t c : ℕ) → (2 * t + 1) * (2 * t + 1) ≡ c * 2 → ⊥
    odd_square t c e = let g = simp (add-mul, mul-add, mul_assoc) at e in omega (arith, g, mul_left_comm t 2 t)

-- ---- from the number that is rooted to x, which is N / D
scaled : (M N D o j h L K : ℕ) → N * L ≡ M * 2 ^ o * D → 2 ^ h * 2 ^ h * 2 ^ j ≡ 2 ^ o * K → M * 2 ^ j * (2 ^ h * 2 ^ h) * D ≡ N * (L * K)
scaled M N D o j h L K e g =
    let a = simp (mul_assoc, mul_comm, mul_left_comm) at (ap (λ (z : ℕ). z * K) e) in
    let b = simp (mul_assoc, mul_comm, mul_left_comm) at (ap (λ (z : ℕ). z * (M * D)) g) in
    simp (mul_assoc, mul_comm, mul_left_comm) (b ∙ sym a)

-- s * 2^h / 2^644 is exact
exact : (h s : ℕ) → h ≤ 1600 → s < 2 ^ 53 → HasValue (round binary64 false (s * 2 ^ h) (2 ^ 644)) false (s * 2 ^ h) (2 ^ 644)
exact h s l q = round_exact binary64 false (s * 2 ^ h) (2 ^ 644) s (h + 430) (pow_pos 644) q (lt_of_lt_of_le (shl_lt 53 (h + 430) q) (pow_mono {i = 53 + (h + 430)} {j = 2098} (omega arith))) (level_up h s 644 430)

module _ (x : Float) (q k u : ℕ) (c : Lead q u) (l : k ≤ 2097) (D : 0 < den x) (e : num x * 2 ^ 1074 ≡ q * 2 ^ k * den x) where
  odd : ℕ
  odd = (k + u) % 2

  j : ℕ
  j = 54 + (u + odd)

  h : ℕ
  h = (k + 216 - j) / 2

  w : ℕ
  w = whole_root (placed q k u * 2 ^ 54) 54 0

  s : ℕ
  s = (w + 1) / 2

  n : ℕ
  n = placed q k u * 2 ^ 54

  n_is : n ≡ q * 2 ^ j
  unfolding n j odd
  n_is = mul_assoc q (2 ^ (u + (k + u) % 2)) (2 ^ 54) ∙ ap (λ (z : ℕ). q * z) (mul_comm (2 ^ (u + (k + u) % 2)) (2 ^ 54) ∙ sym (pow-add 2 54 (u + (k + u) % 2)))

  -- the exponent is halved exactly
  twice : 2 ^ h * 2 ^ h * 2 ^ j ≡ 2 ^ k * 2 ^ 216
  unfolding h j odd
  twice =
      ap (λ (z : ℕ). z * 2 ^ j) (sym (pow-add 2 h h)) ∙ sym (pow-add 2 (h + h) j)
      ∙ ap (λ (z : ℕ). 2 ^ z) (let g : h + h + j ≡ k + 216 = omega (arith, c.up_le) in g) ∙ pow-add 2 k 216

  size_x : n * (2 ^ h * 2 ^ h) * den x ≡ num x * square (2 ^ 645)
  size_x = ap (λ (z : ℕ). z * (2 ^ h * 2 ^ h) * den x) n_is ∙ scaled q (num x) (den x) k j h (2 ^ 1074) (2 ^ 216) e twice

  spread : (a : ℕ) → square (a * 2 ^ h) * den x ≡ square a * (2 ^ h * 2 ^ h) * den x
  spread a = ap (λ (z : ℕ). z * den x) (mul-mul-mul_comm a (2 ^ h) a (2 ^ h))

  H : 0 < 2 ^ h * 2 ^ h
  H = mul-pos (pow_pos h) (pow_pos h)

  nearest : NearestRoot x (root_of q k)
  unfolding w s n h j odd
  nearest =
      let f = root_floor q k u c w refl in
      let r = root_range q k u c w f in
      let o = rounded_off n w f in
      let strict : square (2 * s - 1) < n = lt_of_le-ne o.0 (λ (t : square (2 * s - 1) ≡ n). no_tie (placed q k u * 2 ^ 53) s (omega (arith, r.0)) (t ∙ (let g : placed q k u * 2 ^ 54 ≡ placed q k u * 2 ^ 53 * 2 = omega arith in g))) in
      record {
        s = s;
        h = h;
        least = omega (arith, r.0);
        most = omega (arith, r.1);
        value = subst (λ (z : Float). HasValue z false (s * 2 ^ h) (2 ^ 644))
            (sym (root_of_is q k j (shift_is q k u c) ∙ ap (λ (z : ℕ). round binary64 false ((whole_root z 54 0 + 1) / 2 * 2 ^ h) (2 ^ 644)) (sym n_is)))
            (exact h s (omega arith) (omega (arith, r.1)));
        above = lt_of_lt_of_le (lt_of_le_of_lt (le_of_eq (spread (2 * s - 1))) (mul-lt-mul_of_pos_right (mul-lt-mul_of_pos_right strict H) D)) (le_of_eq size_x);
        below = lt_of_lt_of_le (lt_of_le_of_lt (le_of_eq (sym size_x)) (mul-lt-mul_of_pos_right (mul-lt-mul_of_pos_right o.1 H) D)) (le_of_eq (sym (spread (2 * s + 1))));
      }

-- what `fits` says of the exponent: at least -1074, at most 1023
offset-le : (m : ℕ) (e : ℤ) → suc m * up e < 2 ^ 1024 * down e → offset e ≤ 2097
offset-le m (pos i) h =
    let l : i < 1024 = lt_of_not-le (λ (g : 1024 ≤ i). not-le_of_lt h (le_trans (le_of_eq (mul-one (2 ^ 1024))) (le_trans (pow_mono g) (many (2 ^ i) m)))) in
    omega arith
  where
    many : (a m : ℕ) → a ≤ suc m * a
    many a m = omega (arith, suc-mul m a)
offset-le m (negsuc i) h = omega arith

offset-value : (m : ℕ) (e : ℤ) → down e ≤ 2 ^ 1074 → m * up e * 2 ^ 1074 ≡ m * 2 ^ offset e * down e
offset-value m (pos i) h = mul_assoc m (2 ^ i) (2 ^ 1074) ∙ ap (λ (z : ℕ). m * z) (mul_comm (2 ^ i) (2 ^ 1074) ∙ sym (pow-add 2 1074 i)) ∙ sym (mul-one (m * 2 ^ (1074 + i)))
offset-value m (negsuc i) h =
    let l : suc i ≤ 1074 = below (lt_of_not-le (λ (g : 1075 ≤ suc i). not-le_of_lt (pow-lt {i = 1074} {j = 1075} (lit< tt)) (le_trans (pow_mono g) h))) in
    ap (λ (z : ℕ). z * 2 ^ 1074) (mul-one m)
    ∙ ap (λ (z : ℕ). m * z) (ap (λ (z : ℕ). 2 ^ z) (let g : 1074 ≡ 1073 - i + suc i = omega arith in g) ∙ pow-add 2 (1073 - i) (suc i))
    ∙ sym (mul_assoc m (2 ^ (1073 - i)) (2 ^ suc i))
  where
    below : suc i < 1075 → suc i ≤ 1074
    below h = omega arith

-- the root of every value above zero, subnormal or not, is the nearest
pub root_nearest : (x : Float) → T (fits binary64 x) → T (positive x) → NearestRoot x (sqrt_float x)
unfolding fits sqrt_float
root_nearest nan p q = absurd q
root_nearest (inf s) p q = absurd q
root_nearest (fin true m e) p q = absurd q
root_nearest (fin false zero e) p q = absurd q
root_nearest (fin false (suc m) e) p q =
    let A = eqb (suc m % 2) 1 in
    let B = ltb (suc m) (2 ^ 53) in
    let C = leb (down e) (2 ^ 1074) in
    let E = ltb (suc m * up e) (2 ^ 1024 * down e) in
    let digits = ltb→lt (suc m) (2 ^ 53) (and_r A B (and_l (A && B) C (and_l (A && B && C) E p))) in
    let fine = leb→le (down e) (2 ^ 1074) (and_r (A && B) C (and_l (A && B && C) E p)) in
    let under = ltb→lt (suc m * up e) (2 ^ 1024 * down e) (and_r (A && B && C) E p) in
    nearest (fin false (suc m) e) (suc m) (offset e) (count_leading_zeros 64 (suc m) - 11) (lead (suc m) (suc-le-suc zero-le) digits) (offset-le m e under) (down_pos e) (offset-value (suc m) e fine)

below-zero : (x : Float) → T (lt x zero64) → sqrt_float x ≡ nan
unfolding lt sqrt_float of_bits
below-zero nan h = refl
below-zero (inf true) h = refl
below-zero (inf false) h = absurd h
below-zero (fin true zero e) h = let k = ltb→lt 0 (0 * up e * 1 + 0 * down e) h in absurd (omega (arith, k, zero-mul (up e), zero-mul (down e)))
below-zero (fin true (suc m) e) h = refl
below-zero (fin false m e) h = let k = ltb→lt (m * up e * 1) (0 * down e) h in absurd (omega (arith, k, zero-mul (down e)))

pub correct_root : CorrectRoot
unfolding sqrt_float
correct_root =
    record {
      nearest = root_nearest;
      zeros = λ x h. sym (zero_root x h);
      infinity = refl;
      below-zero = below-zero;
      not_a_number = refl;
    }
