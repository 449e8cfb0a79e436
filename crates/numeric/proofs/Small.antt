-- x + 2^52 - 2^52 is the whole number nearest to x, for an x from 0 to 65535. Assumes nothing.
use Rattle.std.proofs.Common.{◌≡◌, ℕ, zero, suc, ◌+◌, ◌-◌, ◌*◌, ◌/◌, ◌%◌, ◌^◌, ◌<◌, ◌≤◌, Bool, true, false, cond, not, T, eqb, ℤ, pos, negsuc, nat_abs, sym, refl, ap, ◌∙◌, subst, le_trans, le_of_eq, lt_of_lt_of_le, mul-le-mul_right, mod-lt, mul_assoc, suc-mul, mul_comm, div-lt_iff_lt-mul, add-mul, mul-lt-mul_of_pos_right, mul-pos, lt_of_not-le, div-add-mod', le-div_iff_mul-le, mul-one, mul_right_comm, not-le_of_lt, le_of_mul-le-mul_right, arith, lit<, lit≤, le→leb, eqb→eq, leb→le, T_not, pow_pos, pow_mono, pow-add, shl_lt, w32, Fits, to_z, of_z, lt-ltb}
use Prim.Native.Nat.{compare, Ordering}
use native.Mathlib.Nat.{eq_of_mul-eq-mul_right, div-eq_of_lt-le}
use lib.Arith.{lt_of_le-ne}
use lib.Signed.{non_neg}
use mir.Val.{sel}
use lib.Dec.{is_le, compare_is_eq, nleb→lt, eqb_refl}
use lib.Ieee.{Float, nan, inf, fin, binary64, low, up, down, size, nearest, units, round, add, sub, lt, le, of_int, of_bits, to_unsigned, to_signed, in_signed, in_float}
use lib.Ieee.Back.{whole_unique, positive_back}
use lib.Ieee.Digits.{size-lt, size-le}
use lib.Ieee.Exact.{HasValue, units_val}
use lib.Ieee.Fits.{round_is, round-fits}
use lib.Ieee.Nearest.{closest, closest_same, nearest-ge}
use lib.Ieee.Positive.{den, den_pos}
use lib.Ieee.Scale.{finite}
use Rattle.spec.specs.Floats.{zero64, half64, of_count, clamp_float, round_as_u64}
use Rattle.spec.specs.Value.{full16}
use Rattle.numeric.proofs.Order.{plus, less, le→cross, finite-between, le_of_not_lt, lt_not_ge, number_of_finite, le_right, le_trans as le_trans'}
use Rattle.numeric.specs.Round.{big64}
use Rattle.numeric.proofs.Facts.{holds, fails}
use Rattle.numeric.proofs.Picks.{clamped_lo, clamped_hi}
use Rattle.numeric.proofs.Ops.{add_rounds}
use Rattle.numeric.proofs.Round.{Rounds}
use Rattle.numeric.proofs.Away.{half_more, turned, up_from, down_from}
use Rattle.numeric.proofs.Values.{count-value, count-sub, value-finite, value-below, value-above, nothing_less, whole_of, count_back}

-- ---- the nearest whole number is at most a half away
abbrev Cmp : Ordering → ℕ → ℕ → Type 0
Cmp Ordering.lt a b = a < b
Cmp Ordering.eq a b = a ≡ b
Cmp Ordering.gt a b = b < a

cmp : (a b : ℕ) → Cmp (compare a b) a b
cmp a b = go (compare a b) (leb→le a b) (nleb→lt a b) (eqb→eq a b) (λ (e : a ≡ b). subst (λ (x : ℕ). T (eqb a x)) e (eqb_refl a))
  where
    go : (o : Ordering) → (T (is_le o) → a ≤ b) → (T (not (is_le o)) → b < a) → (T (compare_is_eq o) → a ≡ b) → (a ≡ b → T (compare_is_eq o)) → Cmp o a b
    go Ordering.lt h k e n = lt_of_le-ne (h tt) n
    go Ordering.eq h k e n = e tt
    go Ordering.gt h k e n = k tt

pub closest_near : (a b : ℕ) → 0 < b → (closest a b * b * 2 ≤ a * 2 + b) × (a * 2 ≤ closest a b * b * 2 + b)
closest_near a b P = go (compare (a % b * 2) b) (cmp (a % b * 2) b)
  where
    step : (w b : ℕ) → (w + 1) * b ≡ w * b + b
    step w b = add-mul w 1 b ∙ ap (λ (z : ℕ). w * b + z) (native.Mathlib.Nat.one-mul b)

    go : (o : Ordering) → Cmp o (a % b * 2) b → (nearest (a / b) o * b * 2 ≤ a * 2 + b) × (a * 2 ≤ nearest (a / b) o * b * 2 + b)
    go Ordering.lt h = (omega (arith, div-add-mod' a b), omega (arith, div-add-mod' a b))
    go Ordering.eq h = tie (a / b % 2) (omega arith)
      where
        tie : (t : ℕ) → t ≤ 1 → ((a / b + t) * b * 2 ≤ a * 2 + b) × (a * 2 ≤ (a / b + t) * b * 2 + b)
        tie zero l = (omega (arith, div-add-mod' a b), omega (arith, div-add-mod' a b))
        tie (suc zero) l = (omega (arith, div-add-mod' a b, step (a / b) b), omega (arith, div-add-mod' a b, step (a / b) b))
        tie (suc (suc t)) l = absurd (omega arith)
    go Ordering.gt h =
        let m = mod-lt a P in
        let e : suc (a / b) * b ≡ a / b * b + b = suc-mul (a / b) b in
        (le_trans (le_of_eq (ap (λ (z : ℕ). z * 2) e)) (omega (arith, div-add-mod' a b)), le_trans (omega (arith, div-add-mod' a b)) (le_of_eq (ap (λ (z : ℕ). z * 2 + b) (sym e))))

-- ---- a fraction from 2^(prec - 1) up to 2^prec rounds to a whole number
size_is : (A D p l : ℕ) → 0 < D → 2 ^ p * D ≤ A → A < 2 ^ suc p * D → size (A * 2 ^ l / D) ≡ suc p + l
size_is A D p l P h k =
    let n = A * 2 ^ l / D in
    let lo : 2 ^ (p + l) ≤ n = (le-div_iff_mul-le P).1 (le_trans (le_of_eq (ap (λ (z : ℕ). z * D) (pow-add 2 p l) ∙ mul_right_comm (2 ^ p) (2 ^ l) D)) (mul-le-mul_right (2 ^ l) h)) in
    let hi : n < 2 ^ (suc p + l) = (div-lt_iff_lt-mul P).1 (lt_of_lt_of_le (mul-lt-mul_of_pos_right k (pow_pos l)) (le_of_eq (mul_right_comm (2 ^ suc p) D (2 ^ l) ∙ ap (λ (z : ℕ). z * D) (sym (pow-add 2 (suc p) l))))) in
    let up : size n ≤ suc p + l = size-le n (suc p + l) hi in
    let down : p + l < size n = lt_of_not-le (λ (g : size n ≤ p + l). not-le_of_lt (lt_of_lt_of_le (size-lt n) (pow_mono g)) lo) in
    omega arith

-- q * 2^l smallest values are q
cancel : (x : Float) (q l : ℕ) → HasValue x false (q * 2 ^ l) (2 ^ l) → HasValue x false q 1
cancel nan q l h = h
cancel (inf s) q l h = h
cancel (fin s m e) q l h = (
  h.0,
  mul-one (m * up e) ∙ eq_of_mul-eq-mul_right (2 ^ l) (pow_pos l) (m * up e) (q * down e) (h.1 ∙ mul_right_comm q (2 ^ l) (down e)),
)

closest_le : (A D w : ℕ) → 0 < D → A ≤ w * D → closest A D ≤ w
closest_le A D w P h =
    let k = (closest_near A D P).0 in
    let c = closest A D in
    let g : c * 2 * D ≤ (w * 2 + 1) * D = le_trans (le_of_eq (mul_right_comm c 2 D)) (le_trans k (simp (add-mul, mul_right_comm) (omega (arith, h)))) in
    let j : c * 2 ≤ w * 2 + 1 = le_of_mul-le-mul_right g P in
    omega arith

pub whole_round : (A D : ℕ) → 0 < D → 2 ^ 52 * D ≤ A → A < 2 ^ 53 * D → round binary64 false A D ≡ of_count (closest A D)
unfolding of_int
whole_round A D P h k =
    let q = closest A D in
    let l = low binary64 in
    let n = A * 2 ^ l in
    let small : q ≤ 2 ^ 53 = closest_le A D (2 ^ 53) P (native.Mathlib.Nat.le_of_lt k) in
    let drop : size (n / D) - 53 ≡ l = ap (λ (z : ℕ). z - 53) (size_is A D 52 l P h k) in
    let is : round binary64 false A D ≡ units binary64 false q l
    = round_is binary64 false A D
    ∙ ap (λ (z : ℕ). units binary64 false (closest n (D * 2 ^ z)) z) drop
    ∙ ap (λ (z : ℕ). units binary64 false z l) (closest_same n (D * 2 ^ l) A D (mul-pos P (pow_pos l)) P (mul_assoc A (2 ^ l) D ∙ ap (λ (z : ℕ). A * z) (mul_comm (2 ^ l) D))) in
    let under : q * 2 ^ l < 2 ^ (l + 1024) = lt_of_lt_of_le (shl_lt 54 l (native.Mathlib.Nat.lt_of_le_of_lt small (lit< tt))) (pow_mono {i = 54 + l} {j = l + 1024} (lit≤ tt)) in
    whole_unique binary64 (round binary64 false A D) (round binary64 false q 1) false q (round-fits binary64 false A D) (round-fits binary64 false q 1)
    (cancel (round binary64 false A D) q l (subst (λ (z : Float). HasValue z false (q * 2 ^ l) (2 ^ l)) (sym is) (units_val binary64 false q l under)))
    (count-value q small)

-- ---- x + 2^52, and 2^52 off again
big_count : big64 ≡ of_count (2 ^ 52)
unfolding of_bits of_int round
big_count = refl

sum_is : (z : Float) (p c : ℕ) → 0 < p → Rounds binary64 z p 0 c → z ≡ round binary64 false p c
sum_is z p c P r = go r.sign r.size r.is r.value
  where
    go : (s : Bool) (a : ℕ) → z ≡ round binary64 s a c → cond s 0 a + 0 ≡ cond s a 0 + p → z ≡ round binary64 false p c
    go true a e v = absurd (omega arith)
    go false a e v = e ∙ ap (λ (k : ℕ). round binary64 false k c) (let w : a ≡ p = omega arith in w)

shifted : (x : Float) → T (finite x) → less x ≡ 0 → add binary64 x big64 ≡ round binary64 false (plus x + 2 ^ 52 * den x) (den x)
unfolding of_bits
shifted x p z =
    let c : den x * 1 ≡ den x = mul-one (den x) in
    let a : plus x * 1 + 2 ^ 52 * den x ≡ plus x + 2 ^ 52 * den x = ap (λ (n : ℕ). n + 2 ^ 52 * den x) (mul-one (plus x)) in
    let b : less x * 1 + 0 * den x ≡ 0 = omega (arith, z) in
    sum_is (add binary64 x big64) (plus x + 2 ^ 52 * den x) (den x) (omega (arith, den_pos x))
    (subst (λ (n : ℕ). Rounds binary64 (add binary64 x big64) (plus x + 2 ^ 52 * den x) 0 n) c
    (subst (λ (n : ℕ). Rounds binary64 (add binary64 x big64) n 0 (den x * 1)) a
    (subst (λ (n : ℕ). Rounds binary64 (add binary64 x big64) (plus x * 1 + 2 ^ 52 * den x) n (den x * 1)) b (add_rounds binary64 x big64 p tt))))

-- r is the whole number nearest to x
pub record Near (x r : Float) : Type 0 where
  pub whole : ℕ
  pub is : r ≡ of_count whole
  pub small : whole ≤ 65535
  pub finite_x : T (finite x)
  pub nonneg_x : less x ≡ 0
  pub top : plus x ≤ 65535 * den x
  pub above : whole * den x * 2 ≤ plus x * 2 + den x
  pub under : plus x * 2 ≤ whole * den x * 2 + den x

pub near : (x : Float) → T (le zero64 x) × T (le x full16) → Near x (sub binary64 (add binary64 x big64) big64)
unfolding of_bits
near x b =
    let h = b.0 in
    let k = b.1 in
    let p : T (finite x) = finite-between (fin false 0 (pos 0)) x full16 tt tt h k in
    let z : less x ≡ 0 = nothing_less x h in
    let D = den x in
    let N = plus x in
    let P = den_pos x in
    let A = N + 2 ^ 52 * D in
    let t : N ≤ 65535 * D = let g = le→cross x full16 p tt k in omega (arith, g, z) in
    let q = closest A D in
    let lo : 2 ^ 52 ≤ q = le_trans ((le-div_iff_mul-le P).1 (let u : 2 ^ 52 * D ≤ A = omega arith in u)) (nearest-ge (A / D) (compare (A % D * 2) D)) in
    let hi : q ≤ 2 ^ 52 + 65535 = closest_le A D (2 ^ 52 + 65535) P (omega arith) in
    let e : add binary64 x big64 ≡ of_count q = shifted x p z ∙ whole_round A D P (omega arith) (omega arith) in
    let n = closest_near A D P in
    let b : q * D ≡ (q - 2 ^ 52) * D + 2 ^ 52 * D = ap (λ (w : ℕ). w * D) (let v : q ≡ q - 2 ^ 52 + 2 ^ 52 = omega arith in v) ∙ add-mul (q - 2 ^ 52) (2 ^ 52) D in
    record {
      whole = q - 2 ^ 52;
      is = ap (λ (w : Float). sub binary64 w big64) e ∙ ap (sub binary64 (of_count q)) big_count ∙ count-sub q (2 ^ 52) (omega arith) lo;
      small = omega arith;
      finite_x = p;
      nonneg_x = z;
      top = t;
      above = omega (arith, n.0);
      under = omega (arith, n.1);
    }

pub nearly : (x r : Float) → T (le zero64 x) × T (le x full16) → r ≡ sub binary64 (add binary64 x big64) big64 → Near x r
nearly x r b e = subst (Near x) (sym e) (near x b)

-- ---- the fraction dropped: one less where r is above x
cut : (x : Float) (n : ℕ) → n ≤ 65535 → T (finite x) → n * den x ≤ plus x → plus x < (n + 1) * den x → n ≡ to_unsigned 64 x
cut x n s p h k = let d : plus x / den x ≡ n = div-eq_of_lt-le (den x) h k in omega (arith, whole_of 64 x p)

-- ---- half away from zero: one more where x reaches r + 1/2
under-from : (n N D : ℕ) → 0 < D → N * 2 ≤ n * D * 2 + D → N * 2 + D < (n + 1 + 1) * (D * 2)
under-from n N D P h = simp (add-mul, mul_assoc) (omega (arith, simp mul_assoc at h))

above_from : (n N D : ℕ) → n * D * 2 ≤ N * 2 + D → n * (D * 2) ≤ N * 2 + D
above_from n N D h = omega (arith, mul_assoc n D 2)

module _ {x r : Float} (c : Near x r) where
  -- the cast to i32 is defined, and reads as that number
  pub in_range : T (in_signed binary64 31 r)
  unfolding in_float
  in_range = subst (λ (z : Float). T (in_signed binary64 31 z)) (sym c.is) (positive_back binary64 31 c.whole (le→leb c.whole (2 ^ 53) (omega (arith, c.small))) (omega (arith, c.small))).0

  read_back : to_z w32 (of_z w32 (to_signed 31 r)) ≡ pos c.whole
  unfolding in_float
  read_back =
      ap (λ (z : ℤ). to_z w32 (of_z w32 z)) (ap (to_signed 31) c.is ∙ (positive_back binary64 31 c.whole (le→leb c.whole (2 ^ 53) (omega (arith, c.small))) (omega (arith, c.small))).1)
      ∙ ap (λ (b : Bool). sel b (pos c.whole) (negsuc (2 ^ 32 - suc c.whole))) (lt-ltb c.whole (2 ^ 31) (omega (arith, c.small)))

  abbrev cast : ℕ
  cast = nat_abs (to_z w32 (of_z w32 (to_signed 31 r)))

  pub fits_back : T (non_neg (to_z w32 (of_z w32 (to_signed 31 r)))) × Fits w32 cast
  fits_back = subst (λ (z : ℤ). T (non_neg z) × Fits w32 (nat_abs z)) (sym read_back) (tt, record { fits = omega (arith, c.small) })

  is_whole : cast ≡ c.whole
  is_whole = ap nat_abs read_back

  whole_back : to_unsigned 64 r ≡ c.whole
  whole_back = ap (to_unsigned 64) c.is ∙ count_back 64 c.whole (omega (arith, c.small)) (omega (arith, c.small))

  pub nearest_is : cast ≡ to_unsigned 64 r
  nearest_is = is_whole ∙ sym whole_back

module _ {x r : Float} (c : Near x r) {cast : ℕ} (e : cast ≡ to_unsigned 64 r) where
  is_whole' : cast ≡ c.whole
  is_whole' = e ∙ whole_back c

  pub few : cast ≤ 65535
  few = omega (arith, is_whole', c.small)

  pub not_above : lt x r ≡ false → cast ≡ to_unsigned 64 x
  not_above e =
      let n = c.whole in
      let v = count-value n (omega (arith, c.small)) in
      let l : T (le (of_count n) x) = le_of_not_lt x (of_count n) (number_of_finite x c.finite_x) (number_of_finite (of_count n) (value-finite (of_count n) n 1 v)) (subst (λ (z : Float). T (not (lt x z))) c.is (subst (λ (b : Bool). T (not b)) (sym e) tt)) in
      let g = value-below (of_count n) x n 1 (lit< tt) v c.finite_x c.nonneg_x l in
      is_whole' ∙ cut x n c.small c.finite_x (omega (arith, g)) (simp add-mul (omega (arith, c.under, den_pos x)))

  pub above_x : lt x r ≡ true → (1 ≤ cast) × (cast - 1 ≡ to_unsigned 64 x)
  above_x e =
      let n = c.whole in
      let v = count-value n (omega (arith, c.small)) in
      let l : T (lt x (of_count n)) = subst (λ (z : Float). T (lt x z)) c.is (subst T (sym e) tt) in
      let g : plus x < n * den x = lt_of_not-le (λ (j : n * den x ≤ plus x). lt_not_ge x (of_count n) l (value-above (of_count n) x n 1 (lit< tt) v c.finite_x c.nonneg_x (omega (arith, j)))) in
      let o : 1 ≤ n = some n (den x) (plus x) g in
      let b : n * den x ≡ (n - 1) * den x + den x = ap (λ (w : ℕ). w * den x) (let u : n ≡ n - 1 + 1 = omega arith in u) ∙ add-mul (n - 1) 1 (den x) ∙ ap (λ (w : ℕ). (n - 1) * den x + w) (native.Mathlib.Nat.one-mul (den x)) in
      let w = is_whole' in
      (omega arith, ap (λ (k : ℕ). k - 1) w ∙ cut x (n - 1) (omega (arith, c.small)) c.finite_x (omega (arith, c.above, b, den_pos x)) (simp add-mul (omega (arith, g, b))))
    where
      some : (n d a : ℕ) → a < n * d → 1 ≤ n
      some zero d a h = absurd (omega (arith, native.Mathlib.Nat.zero-mul d))
      some (suc n) d a h = omega arith

  -- the middle between r and the next whole number
  middle_value : HasValue (add binary64 r half64) false (c.whole * 2 + 1) 2
  unfolding of_bits
  middle_value = subst (λ (z : Float). HasValue (add binary64 z half64) false (c.whole * 2 + 1) 2) (sym c.is) (half_more binary64 c.whole (omega (arith, c.small)))

  pub reached : le (add binary64 r half64) x ≡ true → cast + 1 ≡ round_as_u64 x
  reached h =
      let n = c.whole in
      let g : (n * 2 + 1) * den x ≤ plus x * 2 = value-below (add binary64 r half64) x (n * 2 + 1) 2 (lit< tt) middle_value c.finite_x c.nonneg_x (holds h) in
      ap (λ (k : ℕ). k + 1) is_whole' ∙ turned x (n + 1) (omega (arith, c.small)) c.finite_x
      (up_from n (plus x) (den x) g)
      (under-from n (plus x) (den x) (den_pos x) c.under)

  pub short : le (add binary64 r half64) x ≡ false → cast ≡ round_as_u64 x
  short h =
      let n = c.whole in
      let g : plus x * 2 < (n * 2 + 1) * den x = lt_of_not-le (λ (j : (n * 2 + 1) * den x ≤ plus x * 2).
      T_not (le (add binary64 r half64) x) (fails h) (value-above (add binary64 r half64) x (n * 2 + 1) 2 (lit< tt) middle_value c.finite_x c.nonneg_x j)) in
      is_whole' ∙ turned x n (omega (arith, c.small)) c.finite_x (above_from n (plus x) (den x) c.above) (down_from n (plus x) (den x) g)

-- ---- a value held to 0..full, full being at most 65535.0, is such an x, and cuts to at most what full cuts to
pub clamp_float-small : (full v : Float) → T (le zero64 full) → T (le full full16) → T (le zero64 (clamp_float zero64 full v)) × T (le (clamp_float zero64 full v) full16)
clamp_float-small full v h k = (clamped_lo v zero64 full h, le_trans' (clamp_float zero64 full v) full full16 (clamped_hi v zero64 full (le_right zero64 full h)) k)
