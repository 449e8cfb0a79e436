-- `sqrt_float` by the significand and the exponent that a bit pattern has, and the pattern of the result. Assumes nothing.
use Rattle.std.proofs.Common.{◌≡◌, ℕ, zero, suc, ◌+◌, ◌-◌, ◌*◌, ◌/◌, ◌%◌, ◌^◌, ◌<◌, ◌≤◌, Bool, true, false, cond, not, ◌||◌, T, eqb, leb, pos, negsuc, sym, refl, ap, ◌∙◌, subst, true≢false, suc-le-suc, zero-le, le_trans, le_of_eq, lt_of_lt_of_le, add-zero, mul-le-mul_right, mod-eq_of_lt, mul_assoc, mul_comm, le_antisymm, suc-add, mul-lt-mul_of_pos_right, mul-pos, lt_of_not-le, zero-mul, not-le_of_lt, mul_left_comm, arith, eqb→eq, leb→le, T_not, pow_pos, pow_mono, pow-add, shl_lt, ltb-false, ne_eqb, leb-false}
use native.Mathlib.Nat.{eq_of_mul-eq-mul_right}
use mathlib.Core.Bool.{beq}
use borrow.Author.Tests.{lt-leb}
use lib.Dec.{nleb→lt}
use lib.Count.{count_leading_zeros, count_trailing_zeros, leading_top}
use lib.Ieee.{Float, nan, inf, fin, binary64, up, down, minus, level, size, odd, round, lt, eq, fits, is_nan, of_fields, of_bits, to_bits}
use lib.Ieee.Bits.{of_bits-to_bits, of_bits-fits}
use lib.Ieee.Digits.{size-lt, size-le, size_reaches, minus_val}
use lib.Ieee.Exact.{HasValue, odd_sign, round_exact}
use lib.Ieee.Fits.{and_i, and_l, eq→eqb, up_pos, down_pos, round-fits}
use Rattle.spec.specs.Floats.{zero64}
use Rattle.spec.specs.Root.{whole_root, offset, shift, root_of, sqrt_float}
use Rattle.numeric.proofs.Facts.{fails}
use Rattle.numeric.proofs.Ends.{value_unique}
use Rattle.numeric.proofs.Root.{Floor, whole_root-floor, square_le}

-- ---- a number's digits
pub size-at : (n j : ℕ) → 2 ^ j ≤ n → n < 2 ^ suc j → size n ≡ suc j
size-at n j h k =
    let lo : j < size n = lt_of_not-le (λ (g : size n ≤ j). not-le_of_lt (lt_of_lt_of_le (size-lt n) (pow_mono g)) h) in
    le_antisymm (size-le n (suc j) k) lo

size_pos : (n : ℕ) → 0 < n → (j : ℕ) × (size n ≡ suc j) × (2 ^ j ≤ n) × (n < 2 ^ suc j)
size_pos n p = go (size n) (size-lt n) (size_reaches n)
  where
    go : (z : ℕ) → n < 2 ^ z → ((j : ℕ) → j < z → 2 ^ j ≤ n) → (j : ℕ) × (z ≡ suc j) × (2 ^ j ≤ n) × (n < 2 ^ suc j)
    go zero h r = absurd (omega arith)
    go (suc j) h r = (j, refl, r j (omega arith), h)

size-shift : (m t : ℕ) → 0 < m → size (m * 2 ^ t) ≡ size m + t
size-shift m t p =
    let w = size_pos m p in
    let j = w.0 in
    size-at (m * 2 ^ t) (j + t) (le_trans (le_of_eq (pow-add 2 j t)) (mul-le-mul_right (2 ^ t) w.2))
    (lt_of_lt_of_le (mul-lt-mul_of_pos_right w.3 (pow_pos t)) (le_of_eq (sym (pow-add 2 (suc j) t) ∙ ap (λ (z : ℕ). 2 ^ z) (suc-add j t))))
    ∙ sym (suc-add j t) ∙ ap (λ (z : ℕ). z + t) (sym w.1)

-- ---- the same number with another exponent has the same root
pub root_of_is : (m e j : ℕ) → shift m e ≡ j → root_of m e ≡ round binary64 false ((whole_root (m * 2 ^ j) 54 0 + 1) / 2 * 2 ^ ((e + 216 - j) / 2)) (2 ^ 644)
unfolding root_of
root_of_is m e j h = ap (λ (i : ℕ). round binary64 false ((whole_root (m * 2 ^ i) 54 0 + 1) / 2 * 2 ^ ((e + 216 - i) / 2)) (2 ^ 644)) h

pub root_of-shift : (m t k : ℕ) → 0 < m → m * 2 ^ t < 2 ^ 53 → root_of (m * 2 ^ t) k ≡ root_of m (k + t)
root_of-shift m t k p h =
    let s = size-shift m t p in
    let b : size (m * 2 ^ t) ≤ 53 = size-le (m * 2 ^ t) 53 h in
    let j = shift (m * 2 ^ t) k in
    let z = size m in
    let e : shift m (k + t) ≡ j + t = moved k t z (size (m * 2 ^ t)) s b in
    root_of_is (m * 2 ^ t) k j refl
    ∙ ap (λ (x : ℕ). round binary64 false ((whole_root x 54 0 + 1) / 2 * 2 ^ ((k + 216 - j) / 2)) (2 ^ 644)) (mul_assoc m (2 ^ t) (2 ^ j) ∙ ap (λ (y : ℕ). m * y) (mul_comm (2 ^ t) (2 ^ j) ∙ sym (pow-add 2 j t)))
    ∙ ap (λ (x : ℕ). round binary64 false ((whole_root (m * 2 ^ (j + t)) 54 0 + 1) / 2 * 2 ^ (x / 2)) (2 ^ 644)) (level k t j)
    ∙ sym (root_of_is m (k + t) (j + t) e)
  where
    moved : (k t z y : ℕ) → y ≡ z + t → y ≤ 53 → 107 - z + (k + t + 107 - z) % 2 ≡ 107 - y + (k + 107 - y) % 2 + t
    moved k t z y e b = omega arith

    level : (k t j : ℕ) → k + 216 - j ≡ k + t + 216 - (j + t)
    level k t j = omega arith

-- ---- what the fields of a pattern stand for
offset_minus : (a : ℕ) → offset (minus a 1074) ≡ a
offset_minus a = go (leb 1074 a) (leb→le 1074 a) (nleb→lt 1074 a)
  where
    go : (b : Bool) → (T b → 1074 ≤ a) → (T (not b) → a < 1074) → offset (cond b (pos (a - 1074)) (negsuc (1074 - suc a))) ≡ a
    go true h k = let g = h tt in omega arith
    go false h k = let g = k tt in omega arith

-- the digits without their trailing zeros, and those zeros
whole_digits : (q k t : ℕ) (m : ℕ) → m * up (minus (k + t) 1074) * 2 ^ 1074 ≡ q * 2 ^ k * down (minus (k + t) 1074) → m * 2 ^ t ≡ q
whole_digits q k t m e =
    let d = down (minus (k + t) 1074) in
    let a : m * 2 ^ (k + t) ≡ q * 2 ^ k = eq_of_mul-eq-mul_right d (down_pos (minus (k + t) 1074)) (m * 2 ^ (k + t)) (q * 2 ^ k) (sym (minus_val m (k + t) 1074) ∙ e) in
    eq_of_mul-eq-mul_right (2 ^ k) (pow_pos k) (m * 2 ^ t) q (mul_assoc m (2 ^ t) (2 ^ k) ∙ ap (λ (z : ℕ). m * z) (mul_comm (2 ^ t) (2 ^ k) ∙ sym (pow-add 2 k t)) ∙ a)

root_digits : (m k t q : ℕ) → m * 2 ^ t ≡ suc q → suc q < 2 ^ 53 → sqrt_float (fin false m (minus (k + t) 1074)) ≡ root_of (suc q) k
unfolding sqrt_float
root_digits zero k t q e h = absurd (omega (arith, zero-mul (2 ^ t), e))
root_digits (suc m) k t q e h =
    ap (root_of (suc m)) (offset_minus (k + t))
    ∙ sym (root_of-shift (suc m) t k (suc-le-suc zero-le) (subst (λ (z : ℕ). z < 2 ^ 53) (sym e) h))
    ∙ ap (λ (z : ℕ). root_of z k) e

pub root_odd : (q k : ℕ) → suc q < 2 ^ 53 → sqrt_float (odd 53 false (suc q) k 1074) ≡ root_of (suc q) k
unfolding odd
root_odd q k h =
    let t = count_trailing_zeros 53 (suc q) in
    root_digits (suc q / 2 ^ t) k t q (whole_digits (suc q) k t (suc q / 2 ^ t) (odd_sign 53 false (suc q) k 1074).1) h

-- ---- the pattern of a value above zero
-- a sign bit, and the value is not above zero
below-zero : (d q k l : ℕ) → lt zero64 (odd d true q k l) ≡ false
unfolding odd lt of_bits
below-zero d zero k l = refl
below-zero d (suc q) k l = refl

negative_fields : (e t : ℕ) → lt zero64 (of_fields binary64 true e t) ≡ false
unfolding of_fields lt of_bits
negative_fields zero t = below-zero 53 t 0 1074
negative_fields (suc e) t = go (eqb (suc e) 2047) (eqb t 0)
  where
    go : (a b : Bool) → lt zero64 (cond a (cond b (inf true) nan) (odd 53 true (2 ^ 52 + t) e 1074)) ≡ false
    go true true = refl
    go true false = refl
    go false b = below-zero 53 (2 ^ 52 + t) e 1074

pub record Fields (x : Float) (b : ℕ) : Type 0 where
  pub short : b < 2 ^ 63
  pub are : x ≡ of_fields binary64 false (b / 2 ^ 52) (b % 2 ^ 52)

pub fields : (x : Float) → T (fits binary64 x) → lt zero64 x ≡ true → Fields x (to_bits binary64 x)
unfolding of_bits
fields x p h = go (leb (2 ^ 63) b) refl
  where
    b : ℕ
    b = to_bits binary64 x

    is : x ≡ of_fields binary64 (leb (2 ^ 63) b) (b % 2 ^ 63 / 2 ^ 52) (b % 2 ^ 52)
    is = sym (of_bits-to_bits binary64 x p)

    go : (s : Bool) → leb (2 ^ 63) b ≡ s → Fields x b
    go true e = absurd (true≢false (sym h ∙ ap (lt zero64) (is ∙ ap (λ (s : Bool). of_fields binary64 s (b % 2 ^ 63 / 2 ^ 52) (b % 2 ^ 52)) e) ∙ negative_fields (b % 2 ^ 63 / 2 ^ 52) (b % 2 ^ 52)))
    go false e =
        let l : b < 2 ^ 63 = leb-false (2 ^ 63) b e in
        record {
          short = l;
          are = is ∙ ap (λ (s : Bool). of_fields binary64 s (b % 2 ^ 63 / 2 ^ 52) (b % 2 ^ 52)) e ∙ ap (λ (z : ℕ). of_fields binary64 false (z / 2 ^ 52) (b % 2 ^ 52)) (mod-eq_of_lt l);
        }

module _ (x : Float) (b : ℕ) (above : lt zero64 x ≡ true) (c : Fields x b) where
  -- no exponent: the digits as they are
  low_root : (t : ℕ) → b % 2 ^ 52 ≡ t → b / 2 ^ 52 ≡ 0 → (0 < t) × (root_of t 0 ≡ sqrt_float x)
  unfolding of_fields odd lt of_bits
  low_root zero e h = absurd (true≢false (sym above ∙ ap (lt zero64) (c.are ∙ ap (λ (z : ℕ). of_fields binary64 false z (b % 2 ^ 52)) h ∙ ap (λ (z : ℕ). odd 53 false z 0 1074) e)))
  low_root (suc q) e h =
      let l : suc q < 2 ^ 53 = omega (arith, e) in
      (suc-le-suc zero-le, sym (ap sqrt_float (c.are ∙ ap (λ (z : ℕ). of_fields binary64 false z (b % 2 ^ 52)) h ∙ ap (λ (z : ℕ). odd 53 false z 0 1074) e) ∙ root_odd q 0 l))

  pub subnormal : b / 2 ^ 52 ≡ 0 → (0 < b % 2 ^ 52) × (root_of (b % 2 ^ 52) 0 ≡ sqrt_float x)
  subnormal = low_root (b % 2 ^ 52) refl

  -- the leading digit and the digits below it
  pub normal : (b / 2 ^ 52 ≡ 0 → ⊥) → b / 2 ^ 52 < 2047 → root_of (b % 2 ^ 52 + 2 ^ 52) (b / 2 ^ 52 - 1) ≡ sqrt_float x
  unfolding of_fields
  normal n h = go (b / 2 ^ 52) (b % 2 ^ 52) (omega arith) n h c.are
    where
      go : (e t : ℕ) → t < 2 ^ 52 → (e ≡ 0 → ⊥) → e < 2047 → x ≡ of_fields binary64 false e t → root_of (t + 2 ^ 52) (e - 1) ≡ sqrt_float x
      go zero t l n h is = absurd (n refl)
      go (suc e) t l n h is =
          let off : eqb (suc e) 2047 ≡ false = ne_eqb (suc e) 2047 (λ (k : suc e ≡ 2047). omega (arith, k)) in
          let q = 2 ^ 52 + t - 1 in
          let one : 2 ^ 52 + t ≡ suc q = omega (arith) in
          sym (ap sqrt_float (is ∙ ap (λ (s : Bool). cond s (cond (eqb t 0) (inf false) nan) (odd 53 false (2 ^ 52 + t) e 1074)) off ∙ ap (λ (z : ℕ). odd 53 false z e 1074) one)
          ∙ root_odd q e (omega arith)
          ∙ ap (λ (z : ℕ). root_of z e) (let g : suc q ≡ t + 2 ^ 52 = omega arith in g) ∙ ap (root_of (t + 2 ^ 52)) (let g : e ≡ suc e - 1 = omega arith in g))

  -- the infinity
  pub unbounded : 2047 ≤ b / 2 ^ 52 → x ≡ sqrt_float x
  unfolding of_fields sqrt_float lt of_bits
  unbounded h =
      let e : b / 2 ^ 52 ≡ 2047 = omega (arith, c.short) in
      go (eqb (b % 2 ^ 52) 0) (c.are ∙ ap (λ (z : ℕ). of_fields binary64 false z (b % 2 ^ 52)) e)
    where
      go : (s : Bool) → x ≡ cond s (inf false) nan → x ≡ sqrt_float x
      go true is = is ∙ sym (ap sqrt_float is)
      go false is = absurd (true≢false (sym above ∙ ap (lt zero64) is))

-- ---- the other operands
pub not_nan : (x : Float) → lt zero64 x ≡ true → T (not (is_nan x))
unfolding lt is_nan of_bits
not_nan nan h = absurd (true≢false (sym h))
not_nan (inf s) h = tt
not_nan (fin s m e) h = tt

pub zero_root : (x : Float) → T (eq x zero64) → x ≡ sqrt_float x
unfolding sqrt_float eq of_bits
zero_root nan h = refl
zero_root (inf s) h = absurd h
zero_root (fin s zero e) h = refl
zero_root (fin s (suc m) e) h =
    let a = eqb→eq (suc m * up e * 1) (0 * down e) (and_l (eqb (suc m * up e * 1) (0 * down e)) (beq s false || eqb (suc m * up e * 1) 0) h) in
    absurd (omega (arith, a, mul-pos {m = suc m} {n = up e} (suc-le-suc zero-le) (up_pos e)))

pub other_root : (x : Float) → lt zero64 x ≡ false → eq x zero64 ≡ false → nan ≡ sqrt_float x
unfolding sqrt_float eq lt of_bits
other_root nan p h = refl
other_root (inf true) p h = refl
other_root (inf false) p h = absurd (true≢false p)
other_root (fin s zero e) p h =
    let a : 0 * up e * 1 ≡ 0 * down e = omega (arith, zero-mul (up e), zero-mul (down e)) in
    let b : 0 * up e * 1 ≡ 0 = omega (arith, zero-mul (up e)) in
    absurd (T_not (level s (0 * up e * 1) false (0 * down e)) (fails h)
    (and_i (eqb (0 * up e * 1) (0 * down e)) (beq s false || eqb (0 * up e * 1) 0) (eq→eqb a) (or_right (beq s false) (eqb (0 * up e * 1) 0) (eq→eqb b))))
  where
    or_right : (a b : Bool) → T b → T (a || b)
    or_right true b t = tt
    or_right false b t = t
other_root (fin true (suc m) e) p h = refl
other_root (fin false (suc m) e) p h =
    let a = ltb-false (0 * down e) (suc m * up e * 1) p in
    absurd (omega (arith, a, zero-mul (down e), mul-pos {m = suc m} {n = up e} (suc-le-suc zero-le) (up_pos e)))

pub level_up : (h s a b : ℕ) → s * 2 ^ h * 2 ^ (a + b) ≡ s * 2 ^ (h + b) * 2 ^ a
level_up h s a b = simp (mul_assoc, mul_comm, mul_left_comm, pow-add)

-- ---- the pattern of a result: 53 digits s, from 2^52 on, over 2^(644 - h)
pub pattern : (h s : ℕ) → h ≤ 1600 → 2 ^ 52 ≤ s → s < 2 ^ 53 → of_bits binary64 ((h + 430) * 2 ^ 52 + s) ≡ round binary64 false (s * 2 ^ h) (2 ^ 644)
unfolding of_bits of_fields
pattern h s l p q =
    let b = (h + 430) * 2 ^ 52 + s in
    let positive : leb (2 ^ 63) b ≡ false = lt-leb (2 ^ 63) b (omega arith) in
    let field : b % 2 ^ 63 / 2 ^ 52 ≡ suc (h + 430) = omega arith in
    let digits : b % 2 ^ 52 ≡ s - 2 ^ 52 = omega arith in
    let off : eqb (suc (h + 430)) 2047 ≡ false = ne_eqb (suc (h + 430)) 2047 (λ (k : suc (h + 430) ≡ 2047). omega (arith, k)) in
    let is : of_bits binary64 b ≡ odd 53 false s (h + 430) 1074
    = ap (λ (z : Bool). of_fields binary64 z (b % 2 ^ 63 / 2 ^ 52) (b % 2 ^ 52)) positive
    ∙ ap (λ (z : ℕ). of_fields binary64 false z (b % 2 ^ 52)) field
    ∙ ap (λ (z : ℕ). of_fields binary64 false (suc (h + 430)) z) digits
    ∙ ap (λ (z : Bool). cond z (cond (eqb (s - 2 ^ 52) 0) (inf false) nan) (odd 53 false (2 ^ 52 + (s - 2 ^ 52)) (h + 430) 1074)) off
    ∙ ap (λ (z : ℕ). odd 53 false z (h + 430) 1074) (let g : 2 ^ 52 + (s - 2 ^ 52) ≡ s = omega arith in g) in
    value_unique binary64 (of_bits binary64 b) (round binary64 false (s * 2 ^ h) (2 ^ 644)) (s * 2 ^ (h + 430)) (2 ^ 1074) (s * 2 ^ h) (2 ^ 644) (pow_pos 1074) (pow_pos 644)
    (of_bits-fits binary64 b) (round-fits binary64 false (s * 2 ^ h) (2 ^ 644))
    (subst (λ (z : Float). HasValue z false (s * 2 ^ (h + 430)) (2 ^ 1074)) (sym is) (odd_sign 53 false s (h + 430) 1074))
    (round_exact binary64 false (s * 2 ^ h) (2 ^ 644) s (h + 430) (pow_pos 644) q (lt_of_lt_of_le (shl_lt 53 (h + 430) q) (pow_mono {i = 53 + (h + 430)} {j = 2098} (omega arith))) (level_up h s 644 430))
    (sym (level_up h s 644 430))

-- ---- q moved up to its 53 digits by its leading zeros
pub record Lead (q up : ℕ) : Type 0 where
  pub up_le : up ≤ 52
  pub zeros : count_leading_zeros 64 q ≡ up + 11
  pub sized : size q + up ≡ 53
  pub low : 2 ^ 52 ≤ q * 2 ^ up
  pub high : q * 2 ^ up < 2 ^ 53

pub lead : (q : ℕ) → 0 < q → q < 2 ^ 53 → Lead q (count_leading_zeros 64 q - 11)
lead q p h =
    let t = leading_top 64 q p (omega arith) in
    let j = t.0 in
    let l : j < 53 = lt_of_not-le (λ (g : 53 ≤ j). not-le_of_lt h (le_trans (pow_mono g) t.2)) in
    let u = count_leading_zeros 64 q - 11 in
    let e : u ≡ 52 - j = omega (arith, t.1) in
    record {
      up_le = omega (arith, t.1);
      zeros = omega (arith, t.1);
      sized = ap (λ (z : ℕ). z + u) (size-at q j t.2 t.3) ∙ (let g : suc j + u ≡ 53 = omega (arith, t.1) in g);
      low = le_trans (le_of_eq (ap (λ (z : ℕ). 2 ^ z) (let g : 52 ≡ j + u = omega (arith, t.1) in g) ∙ pow-add 2 j u)) (mul-le-mul_right (2 ^ u) t.2);
      high = lt_of_lt_of_le (mul-lt-mul_of_pos_right t.3 (pow_pos u)) (le_of_eq (sym (pow-add 2 (suc j) u) ∙ ap (λ (z : ℕ). 2 ^ z) (let g : suc j + u ≡ 53 = omega (arith, t.1) in g)));
    }

-- one more place where the exponent is odd
abbrev pub placed : ℕ → ℕ → ℕ → ℕ
placed q k up = q * 2 ^ (up + (k + up) % 2)

module _ (q k up : ℕ) (c : Lead q up) where
  placed_range : (2 ^ 52 ≤ placed q k up) × (placed q k up ≤ 2 ^ 54 - 2)
  placed_range = go ((k + up) % 2) (omega arith)
    where
      go : (o : ℕ) → o ≤ 1 → (2 ^ 52 ≤ q * 2 ^ (up + o)) × (q * 2 ^ (up + o) ≤ 2 ^ 54 - 2)
      go zero l = (le_trans c.low (le_of_eq (ap (λ (z : ℕ). q * 2 ^ z) (sym (add-zero up)))), le_trans (le_of_eq (ap (λ (z : ℕ). q * 2 ^ z) (add-zero up))) (omega (arith, c.high)))
      go (suc zero) l =
          let e : q * 2 ^ (up + 1) ≡ q * 2 ^ up * 2 = ap (λ (z : ℕ). q * z) (pow-add 2 up 1) ∙ sym (mul_assoc q (2 ^ up) 2) in
          (le_trans (omega (arith, c.low)) (le_of_eq (sym e)), le_trans (le_of_eq e) (omega (arith, c.high)))
      go (suc (suc o)) l = absurd (omega arith)

  pub placed-lt : placed q k up < 2 ^ 54
  placed-lt = omega (arith, placed_range.1)

  -- its root has 54 digits, and not all of them are ones
  pub root_range : (w : ℕ) → Floor (placed q k up * 2 ^ 54) w → (2 ^ 53 ≤ w) × (w < 2 ^ 54 - 1)
  root_range w f = (
    le_of_succ (2 ^ 53) w (lt_of_not-le (λ (g : w + 1 ≤ 2 ^ 53). not-le_of_lt f.over (le_trans (square_le (w + 1) (2 ^ 53) g) (omega (arith, placed_range.0))))),
    lt_of_not-le (λ (g : 2 ^ 54 - 1 ≤ w). not-le_of_lt (short (placed q k up) placed_range.1) (le_trans (square_le (2 ^ 54 - 1) w g) f.under)),
  )
    where
      le_of_succ : (a b : ℕ) → a < b + 1 → a ≤ b
      le_of_succ a b h = omega arith

      short : (t : ℕ) → t ≤ 2 ^ 54 - 2 → t * 2 ^ 54 < (2 ^ 54 - 1) * (2 ^ 54 - 1)
      short t h = omega arith

  pub root_floor : (w : ℕ) → w ≡ whole_root (placed q k up * 2 ^ 54) 54 0 → Floor (placed q k up * 2 ^ 54) w
  root_floor w e = subst (Floor (placed q k up * 2 ^ 54)) (sym e) (whole_root-floor (placed q k up * 2 ^ 54) 54 0 (omega arith) (omega (arith, placed-lt)))

  pub root_lt : (w : ℕ) → w ≡ whole_root (placed q k up * 2 ^ 54) 54 0 → w < 2 ^ 54 - 1
  root_lt w e = (root_range w (root_floor w e)).1

  pub shift_is : shift q k ≡ 54 + (up + (k + up) % 2)
  shift_is = go (size q) c.sized
    where
      go : (z : ℕ) → z + up ≡ 53 → 107 - z + (k + 107 - z) % 2 ≡ 54 + (up + (k + up) % 2)
      go z e = omega arith

  pub rooted : k < 2046 → (w : ℕ) → w ≡ whole_root (placed q k up * 2 ^ 54) 54 0
      → of_bits binary64 ((k + 1022 - up - (k + up) % 2) / 2 * 2 ^ 52 + (w + 1) / 2) ≡ root_of q k
  rooted l w e =
      let j = up + (k + up) % 2 in
      let h = (k + 216 - (54 + j)) / 2 in
      let r = root_range w (root_floor w e) in
      let x : (k + 1022 - up - (k + up) % 2) / 2 ≡ h + 430 = omega (arith, c.up_le) in
      ap (λ (z : ℕ). of_bits binary64 (z * 2 ^ 52 + (w + 1) / 2)) x
      ∙ pattern h ((w + 1) / 2) (omega arith) (omega (arith, r.0)) (omega (arith, r.1))
      ∙ ap (λ (z : ℕ). round binary64 false ((z + 1) / 2 * 2 ^ h) (2 ^ 644)) (e ∙ ap (λ (z : ℕ). whole_root z 54 0) (mul_assoc q (2 ^ j) (2 ^ 54) ∙ ap (λ (z : ℕ). q * z) (mul_comm (2 ^ j) (2 ^ 54) ∙ sym (pow-add 2 54 j))))
      ∙ sym (root_of_is q k (54 + j) shift_is)
