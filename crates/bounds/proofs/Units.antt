-- Finite binary64 values as whole multiples of the least one, 2^-1074: their order is one of whole numbers, and a sum, a difference or a quotient by a
-- count stays at or below any value of the format that the exact one does not exceed, and so from below. Assumes nothing.
use mathlib.Core.Path.{◌≡◌, refl, sym, ap, ◌∙◌, subst}
use Prim.Native.Nat.{ℕ, zero, suc, ◌+◌, ◌-◌, ◌*◌, ◌%◌, ◌^◌, ◌≤◌, ◌<◌}
use native.Mathlib.Nat.{pow-suc, le_trans, le_of_eq, lt_of_not-le, not-le_of_lt, lt_of_le_of_lt, zero-mul, one-mul, mul-one, mul_assoc, mul_comm, mul_left_comm, add-mul, add_comm, mul-pos, mul-lt-mul_of_pos_right, mul-le-mul_right, le_of_mul-le-mul_right}
use native.Mathlib.Omega.{arith}
use mathlib.Core.Bool.{Bool, true, false, cond, ◌&&◌}
use lib.IntN.{ℤ, pos, negsuc}
use lib.Dec.{T, eqb, ltb, leb, ltb→lt, leb→le, lit<}
use lib.Pow.{pow-add, pow_pos, pow_mono, pow-lt}
use lib.Ieee.{Float, nan, inf, fin, binary64, up, down, size, round, add, sub, div, neg, le, fits, of_bits}
use lib.Ieee.Digits.{size-lt, size_reaches, size-le}
use lib.Ieee.Exact.{HasValue, round_exact}
use lib.Ieee.Fits.{and_l, and_r, round-fits, neg-fits}
use lib.Ieee.Positive.{num, den, den_pos, positive, positive_of_value, value→cross}
use lib.Ieee.Scale.{finite}
use Rattle.spec.specs.Floats.{zero64, of_count}
use Rattle.numeric.proofs.Order.{plus, less, le→cross}
use Rattle.numeric.proofs.Round.{Rounds, rounds-le}
use Rattle.numeric.proofs.Ops.{add_rounds, sub-rounds, div-rounds, num_pos, neg-finite}
use Rattle.numeric.proofs.Ends.{fin_unique}
use Rattle.numeric.proofs.Facts.{zero_exponent}
use Rattle.numeric.proofs.Values.{value-finite, value_plus, value_less, count-value}

-- how many of the least value make 1
pub grains : ℕ
grains = 2 ^ 1074

grains_pos : 0 < grains
unfolding grains
grains_pos = pow_pos 1074

-- x is (more - fewer) * 2^-1074
pub record Units (x : Float) : Type 0 where
  pub is_finite : T (finite x)
  pub is_fit : T (fits binary64 x)
  pub more : ℕ
  pub fewer : ℕ
  pub more_is : plus x * grains ≡ more * den x
  pub fewer_is : less x * grains ≡ fewer * den x

-- ---- every finite value of the format has them

-- e + 1074
offset : ℤ → ℕ
offset (pos k) = 1074 + k
offset (negsuc k) = 1073 - k

offset-value : (m : ℕ) (e : ℤ) → down e ≤ 2 ^ 1074 → m * up e * grains ≡ m * 2 ^ offset e * down e
unfolding grains offset
offset-value m (pos i) h = mul_assoc m (2 ^ i) (2 ^ 1074) ∙ ap (λ (z : ℕ). m * z) (mul_comm (2 ^ i) (2 ^ 1074) ∙ sym (pow-add 2 1074 i)) ∙ sym (mul-one (m * 2 ^ (1074 + i)))
offset-value m (negsuc i) h =
    let l : suc i ≤ 1074 = below (lt_of_not-le (λ (g : 1075 ≤ suc i). not-le_of_lt (pow-lt {i = 1074} {j = 1075} (lit< tt)) (le_trans (pow_mono g) h))) in
    ap (λ (z : ℕ). z * 2 ^ 1074) (mul-one m)
    ∙ ap (λ (z : ℕ). m * z) (ap (λ (z : ℕ). 2 ^ z) (let g : 1074 ≡ 1073 - i + suc i = omega arith in g) ∙ pow-add 2 (1073 - i) (suc i))
    ∙ sym (mul_assoc m (2 ^ (1073 - i)) (2 ^ suc i))
  where
    below : suc i < 1075 → suc i ≤ 1074
    below h = omega arith

nothing : (u d : ℕ) → 0 * u * grains ≡ 0 * d
nothing u d = ap (λ (z : ℕ). z * grains) (zero-mul u) ∙ zero-mul grains ∙ sym (zero-mul d)

none : (d : ℕ) → 0 * grains ≡ 0 * d
none d = zero-mul grains ∙ sym (zero-mul d)

fit_digits : (s : Bool) (m : ℕ) (e : ℤ) → T (fits binary64 (fin s (suc m) e)) → (suc m < 2 ^ 53) × (down e ≤ 2 ^ 1074) × (suc m * up e < 2 ^ 1024 * down e)
unfolding fits
fit_digits s m e p =
    let A = eqb (suc m % 2) 1 in
    let B = ltb (suc m) (2 ^ 53) in
    let C = leb (down e) (2 ^ 1074) in
    let E = ltb (suc m * up e) (2 ^ 1024 * down e) in
    (ltb→lt (suc m) (2 ^ 53) (and_r A B (and_l (A && B) C (and_l (A && B && C) E p))), leb→le (down e) (2 ^ 1074) (and_r (A && B) C (and_l (A && B && C) E p)), ltb→lt (suc m * up e) (2 ^ 1024 * down e) (and_r (A && B && C) E p))

pub units : (x : Float) → T (finite x) → T (fits binary64 x) → Units x
units nan p q = absurd p
units (inf s) p q = absurd p
units (fin true zero e) p q = record { is_finite = tt; is_fit = q; more = 0; fewer = 0; more_is = none (down e); fewer_is = nothing (up e) (down e) }
units (fin false zero e) p q = record { is_finite = tt; is_fit = q; more = 0; fewer = 0; more_is = nothing (up e) (down e); fewer_is = none (down e) }
units (fin true (suc m) e) p q =
    record { is_finite = tt; is_fit = q; more = 0; fewer = suc m * 2 ^ offset e; more_is = none (down e); fewer_is = offset-value (suc m) e (fit_digits true m e q).1 }
units (fin false (suc m) e) p q =
    record { is_finite = tt; is_fit = q; more = suc m * 2 ^ offset e; fewer = 0; more_is = offset-value (suc m) e (fit_digits false m e q).1; fewer_is = none (down e) }

-- ---- a value of the format is itself, rounded

under : (A D Q G T : ℕ) → 0 < G → A * G ≡ Q * D → A < T * D → Q < T * G
under A D Q G T g e h =
    lt_of_not-le (λ (k : T * G ≤ Q).
    not-le_of_lt (mul-lt-mul_of_pos_right h g) (le_trans (le_of_eq (mul_assoc T D G ∙ ap (λ (z : ℕ). T * z) (mul_comm D G) ∙ sym (mul_assoc T G D))) (le_trans (mul-le-mul_right D k) (le_of_eq (sym e)))))

same : (s : Bool) (m : ℕ) (e : ℤ) (y : Float) → T (fits binary64 (fin s m e)) → T (fits binary64 y) → HasValue y s (m * up e) (down e) → fin s m e ≡ y
same s m e nan p q h = absurd h
same s m e (inf t) p q h = absurd h
same s m e (fin t n d) p q h =
    fin_unique binary64 s m e n d p (subst (λ (b : Bool). T (fits binary64 (fin b n d))) h.0 q) (sym h.1) ∙ ap (λ (b : Bool). fin b n d) (sym h.0)

zero_is : (s : Bool) → fin s 0 (pos 0) ≡ round binary64 s 0 1
unfolding round
zero_is true = refl
zero_is false = refl

exact : (s : Bool) (a c n j : ℕ) → 0 < c → n < 2 ^ 53 → n * 2 ^ j < 2 ^ 1024 * grains → a * grains ≡ n * 2 ^ j * c → HasValue (round binary64 s a c) s a c
unfolding grains
exact s a c n j C l u h = round_exact binary64 s a c n j C l u h

pub own_rounds : (x : Float) → T (finite x) → T (fits binary64 x) → Rounds binary64 x (plus x) (less x) (den x)
own_rounds nan p q = absurd p
own_rounds (inf s) p q = absurd p
own_rounds (fin s zero e) p q =
    subst (λ (d : ℤ). Rounds binary64 (fin s zero d) (plus (fin s zero d)) (less (fin s zero d)) (den (fin s zero d))) (sym (zero_exponent binary64 s e q))
    (record { sign = s; size = 0; is = zero_is s; value = flags s })
  where
    flags : (s : Bool) → cond s 0 0 + cond s 0 0 ≡ cond s 0 0 + cond s 0 0
    flags true = refl
    flags false = refl
own_rounds (fin s (suc m) e) p q =
    let f = fit_digits s m e q in
    let v : HasValue (round binary64 s (suc m * up e) (down e)) s (suc m * up e) (down e) =
    exact s (suc m * up e) (down e) (suc m) (offset e) (den_pos (fin s (suc m) e)) f.0 (under (suc m * up e) (down e) (suc m * 2 ^ offset e) grains (2 ^ 1024) grains_pos (offset-value (suc m) e f.1) f.2) (offset-value (suc m) e f.1) in
    record { sign = s; size = suc m * up e; is = same s (suc m) e (round binary64 s (suc m * up e) (down e)) q (round-fits binary64 s (suc m * up e) (down e)) v; value = add_comm (cond s 0 (suc m * up e)) (cond s (suc m * up e) 0) }

-- ---- the order

scaled : (p d P g D : ℕ) → p * g ≡ P * d → p * D * g ≡ P * (d * D)
scaled p d P g D e = mul_assoc p D g ∙ ap (λ (z : ℕ). p * z) (mul_comm D g) ∙ sym (mul_assoc p g D) ∙ ap (λ (z : ℕ). z * D) e ∙ mul_assoc P d D

-- p/d ≤ p'/d' as P ≤ P', each a difference
module _ (p l d P L p' l' d' P' L' g : ℕ) (a : p * g ≡ P * d) (b : l * g ≡ L * d) (a' : p' * g ≡ P' * d') (b' : l' * g ≡ L' * d') where
  across : (p * d' + l' * d) * g ≡ (P + L') * (d * d')
  across = add-mul (p * d') (l' * d) g ∙ ap (λ (z : ℕ). z + l' * d * g) (scaled p d P g d' a) ∙ ap (λ (z : ℕ). P * (d * d') + z) (scaled l' d' L' g d b' ∙ ap (λ (z : ℕ). L' * z) (mul_comm d' d)) ∙ sym (add-mul P L' (d * d'))

module _ (x y : Float) (u : Units x) (w : Units y) where
  left : (plus x * den y + less y * den x) * grains ≡ (u.more + w.fewer) * (den x * den y)
  left = across (plus x) (less x) (den x) u.more u.fewer (plus y) (less y) (den y) w.more w.fewer grains u.more_is u.fewer_is w.more_is w.fewer_is

  right : (plus y * den x + less x * den y) * grains ≡ (w.more + u.fewer) * (den x * den y)
  right =
      across (plus y) (less y) (den y) w.more w.fewer (plus x) (less x) (den x) u.more u.fewer grains w.more_is w.fewer_is u.more_is u.fewer_is
      ∙ ap (λ (z : ℕ). (w.more + u.fewer) * z) (mul_comm (den y) (den x))

  pub le_units : T (le x y) → u.more + w.fewer ≤ w.more + u.fewer
  le_units h =
      le_of_mul-le-mul_right
      (le_trans (le_of_eq (sym left)) (le_trans (mul-le-mul_right grains (le→cross x y u.is_finite w.is_finite h)) (le_of_eq right)))
      (mul-pos (den_pos x) (den_pos y))

-- ---- a sum

-- (p/d + p'/d') g in units
module _ (p d P p' d' P' g : ℕ) (a : p * g ≡ P * d) (a' : p' * g ≡ P' * d') where
  summed : (p * d' + p' * d) * g ≡ (P + P') * (d * d')
  summed = add-mul (p * d') (p' * d) g ∙ ap (λ (z : ℕ). z + p' * d * g) (scaled p d P g d' a) ∙ ap (λ (z : ℕ). P * (d * d') + z) (scaled p' d' P' g d a' ∙ ap (λ (z : ℕ). P' * z) (mul_comm d' d)) ∙ sym (add-mul P P' (d * d'))

-- s/e ≤ b/f, where both are fractions in units
below : (s l e S L b k f B K g : ℕ) → 0 < g → s * g ≡ S * e → l * g ≡ L * e → b * g ≡ B * f → k * g ≡ K * f → S + K ≤ B + L → s * f + k * e ≤ b * e + l * f
below s l e S L b k f B K g G p q r t h =
    le_of_mul-le-mul_right
    (le_trans (le_of_eq (across s l e S L b k f B K g p q r t))
    (le_trans (mul-le-mul_right (e * f) h) (le_of_eq (sym (across b k f B K s l e S L g r t p q ∙ ap (λ (z : ℕ). (B + L) * z) (mul_comm f e))))))
    G

module _ (x y b : Float) (u : Units x) (w : Units y) (c : Units b) where
  pub add-under : u.more + w.more + c.fewer ≤ c.more + (u.fewer + w.fewer) → T (le (add binary64 x y) b)
  add-under h =
      rounds-le binary64 (add binary64 x y) b (plus x * den y + plus y * den x) (less x * den y + less y * den x) (den x * den y) (plus b) (less b) (den b)
      (mul-pos (den_pos x) (den_pos y)) (den_pos b) (add_rounds binary64 x y u.is_finite w.is_finite) (own_rounds b c.is_finite c.is_fit)
      (below _ _ _ (u.more + w.more) (u.fewer + w.fewer) _ _ _ c.more c.fewer grains grains_pos
      (summed (plus x) (den x) u.more (plus y) (den y) w.more grains u.more_is w.more_is)
      (summed (less x) (den x) u.fewer (less y) (den y) w.fewer grains u.fewer_is w.fewer_is) c.more_is c.fewer_is h)

  pub add-over : c.more + (u.fewer + w.fewer) ≤ u.more + w.more + c.fewer → T (le b (add binary64 x y))
  add-over h =
      rounds-le binary64 b (add binary64 x y) (plus b) (less b) (den b) (plus x * den y + plus y * den x) (less x * den y + less y * den x) (den x * den y)
      (den_pos b) (mul-pos (den_pos x) (den_pos y)) (own_rounds b c.is_finite c.is_fit) (add_rounds binary64 x y u.is_finite w.is_finite)
      (below _ _ _ c.more c.fewer _ _ _ (u.more + w.more) (u.fewer + w.fewer) grains grains_pos c.more_is c.fewer_is
      (summed (plus x) (den x) u.more (plus y) (den y) w.more grains u.more_is w.more_is)
      (summed (less x) (den x) u.fewer (less y) (den y) w.fewer grains u.fewer_is w.fewer_is) h)

  -- a difference
  pub sub-under : u.more + w.fewer + c.fewer ≤ c.more + (u.fewer + w.more) → T (le (sub binary64 x y) b)
  sub-under h =
      rounds-le binary64 (sub binary64 x y) b (plus x * den y + less y * den x) (less x * den y + plus y * den x) (den x * den y) (plus b) (less b) (den b)
      (mul-pos (den_pos x) (den_pos y)) (den_pos b) (sub-rounds binary64 x y u.is_finite w.is_finite) (own_rounds b c.is_finite c.is_fit)
      (below _ _ _ (u.more + w.fewer) (u.fewer + w.more) _ _ _ c.more c.fewer grains grains_pos
      (summed (plus x) (den x) u.more (less y) (den y) w.fewer grains u.more_is w.fewer_is)
      (summed (less x) (den x) u.fewer (plus y) (den y) w.more grains u.fewer_is w.more_is) c.more_is c.fewer_is h)

  pub sub-over : c.more + (u.fewer + w.more) ≤ u.more + w.fewer + c.fewer → T (le b (sub binary64 x y))
  sub-over h =
      rounds-le binary64 b (sub binary64 x y) (plus b) (less b) (den b) (plus x * den y + less y * den x) (less x * den y + plus y * den x) (den x * den y)
      (den_pos b) (mul-pos (den_pos x) (den_pos y)) (own_rounds b c.is_finite c.is_fit) (sub-rounds binary64 x y u.is_finite w.is_finite)
      (below _ _ _ c.more c.fewer _ _ _ (u.more + w.fewer) (u.fewer + w.more) grains grains_pos c.more_is c.fewer_is
      (summed (plus x) (den x) u.more (less y) (den y) w.fewer grains u.more_is w.fewer_is)
      (summed (less x) (den x) u.fewer (plus y) (den y) w.more grains u.fewer_is w.more_is) h)

-- ---- a quotient by a count

module _ (n : ℕ) (l : n ≤ 2 ^ 53) (h : 0 < n) where
  pub count_positive : T (positive (of_count n))
  count_positive = positive_of_value (of_count n) n 1 (count-value n l) h

  pub count_num : num (of_count n) ≡ n * den (of_count n)
  count_num = sym (mul-one (num (of_count n))) ∙ value→cross (of_count n) n 1 (count-value n l)

  shared : (p d P D g : ℕ) → p * g ≡ P * d → p * D * (g * n) ≡ P * (n * D * d)
  shared p d P D g e =
      simp (mul_assoc, mul_comm, mul_left_comm) (simp (mul_assoc, mul_comm, mul_left_comm) at (ap (λ (z : ℕ). z * (D * n)) e))

  spread : (b f B g : ℕ) → b * g ≡ B * f → b * (g * n) ≡ B * n * f
  spread b f B g e = simp (mul_assoc, mul_comm, mul_left_comm) (simp (mul_assoc, mul_comm, mul_left_comm) at (ap (λ (z : ℕ). z * n) e))

  module _ (x b : Float) (u : Units x) (c : Units b) where
    part : (p P : ℕ) → p * grains ≡ P * den x → p * den (of_count n) * (grains * n) ≡ P * (num (of_count n) * den x)
    part p P e = shared p (den x) P (den (of_count n)) grains e ∙ ap (λ (z : ℕ). P * (z * den x)) (sym count_num)

    pub div-under : u.more + c.fewer * n ≤ c.more * n + u.fewer → T (le (div binary64 x (of_count n)) b)
    div-under k =
        rounds-le binary64 (div binary64 x (of_count n)) b (plus x * den (of_count n)) (less x * den (of_count n)) (num (of_count n) * den x) (plus b) (less b) (den b)
        (mul-pos (num_pos (of_count n) count_positive) (den_pos x)) (den_pos b) (div-rounds binary64 x (of_count n) u.is_finite count_positive) (own_rounds b c.is_finite c.is_fit)
        (below _ _ _ u.more u.fewer _ _ _ (c.more * n) (c.fewer * n) (grains * n) (mul-pos grains_pos h)
        (part (plus x) u.more u.more_is) (part (less x) u.fewer u.fewer_is) (spread (plus b) (den b) c.more grains c.more_is) (spread (less b) (den b) c.fewer grains c.fewer_is) k)

    pub div-over : c.more * n + u.fewer ≤ u.more + c.fewer * n → T (le b (div binary64 x (of_count n)))
    div-over k =
        rounds-le binary64 b (div binary64 x (of_count n)) (plus b) (less b) (den b) (plus x * den (of_count n)) (less x * den (of_count n)) (num (of_count n) * den x)
        (den_pos b) (mul-pos (num_pos (of_count n) count_positive) (den_pos x)) (own_rounds b c.is_finite c.is_fit) (div-rounds binary64 x (of_count n) u.is_finite count_positive)
        (below _ _ _ (c.more * n) (c.fewer * n) _ _ _ u.more u.fewer (grains * n) (mul-pos grains_pos h)
        (spread (plus b) (den b) c.more grains c.more_is) (spread (less b) (den b) c.fewer grains c.fewer_is) (part (plus x) u.more u.more_is) (part (less x) u.fewer u.fewer_is) k)

-- ---- bounds: a power of two in units, zero, and the negation

pub neg_plus : (x : Float) → plus (neg x) ≡ less x
unfolding neg
neg_plus nan = refl
neg_plus (inf s) = refl
neg_plus (fin true m e) = refl
neg_plus (fin false m e) = refl

pub neg_less : (x : Float) → less (neg x) ≡ plus x
unfolding neg
neg_less nan = refl
neg_less (inf s) = refl
neg_less (fin true m e) = refl
neg_less (fin false m e) = refl

pub neg_den : (x : Float) → den (neg x) ≡ den x
unfolding neg
neg_den nan = refl
neg_den (inf s) = refl
neg_den (fin s m e) = refl

unfoldable pub neg_units : (x : Float) → Units x → Units (neg x)
neg_units x u =
    record {
      is_finite = neg-finite x u.is_finite;
      is_fit = neg-fits binary64 x u.is_fit;
      more = u.fewer;
      fewer = u.more;
      more_is = ap (λ (z : ℕ). z * grains) (neg_plus x) ∙ u.fewer_is ∙ ap (λ (z : ℕ). u.fewer * z) (sym (neg_den x));
      fewer_is = ap (λ (z : ℕ). z * grains) (neg_less x) ∙ u.more_is ∙ ap (λ (z : ℕ). u.more * z) (sym (neg_den x));
    }

-- a value that is not below zero
value_units : (x : Float) (a : ℕ) → T (fits binary64 x) → HasValue x false a grains → Units x
value_units x a q v =
    record { is_finite = value-finite x a grains v; is_fit = q; more = a; fewer = 0; more_is = value_plus x a grains v; fewer_is = ap (λ (z : ℕ). z * grains) (value_less x a grains v) ∙ none (den x) }

-- a and 2a in units, as values
pub record Doubled (a : ℕ) : Type 0 where
  pub once : Float
  pub twice : Float
  pub once_units : Units once
  pub twice_units : Units twice
  pub once_more : once_units.more ≡ a
  pub once_fewer : once_units.fewer ≡ 0
  pub twice_more : twice_units.more ≡ 2 * a
  pub twice_fewer : twice_units.fewer ≡ 0

power : (k : ℕ) → k < 2098 → HasValue (round binary64 false (2 ^ k) grains) false (2 ^ k) grains
unfolding grains
power k h = round_exact binary64 false (2 ^ k) (2 ^ 1074) 1 k (pow_pos 1074) (lit< tt) (lt_of_le_of_lt (le_of_eq (one-mul (2 ^ k))) (pow-lt {i = k} {j = 2098} h)) (ap (λ (z : ℕ). z * 2 ^ 1074) (sym (one-mul (2 ^ k))))

power_doubled : (k : ℕ) → k < 2097 → Doubled (2 ^ k)
unfolding value_units
power_doubled k h =
    let b = round binary64 false (2 ^ k) grains in
    let c = round binary64 false (2 ^ suc k) grains in
    record {
      once = b;
      twice = c;
      once_units = value_units b (2 ^ k) (round-fits binary64 false (2 ^ k) grains) (power k (omega arith));
      twice_units = value_units c (2 ^ suc k) (round-fits binary64 false (2 ^ suc k) grains) (power (suc k) (omega arith));
      once_more = refl;
      once_fewer = refl;
      twice_more = pow-suc 2 k ∙ mul_comm (2 ^ k) 2;
      twice_fewer = refl;
    }

zero_doubled : Doubled 0
unfolding fits units
zero_doubled =
    let u = units (fin false 0 (pos 0)) tt tt in
    record { once = fin false 0 (pos 0); twice = fin false 0 (pos 0); once_units = u; twice_units = u; once_more = refl; once_fewer = refl; twice_more = refl; twice_fewer = refl }

-- between half of z and z there is a value a, and 2a is one too
pub record Half (z : ℕ) : Type 0 where
  pub half : ℕ
  pub low : half ≤ z
  pub high : z ≤ 2 * half
  pub doubled : Doubled half

pub half_of : (z : ℕ) → z < 2 ^ 2000 → Half z
half_of zero h = record { half = 0; low = omega arith; high = omega arith; doubled = zero_doubled }
half_of (suc z) h = go (size (suc z)) (size-lt (suc z)) (size_reaches (suc z)) (size-le (suc z) 2000 h)
  where
    go : (k : ℕ) → suc z < 2 ^ k → ((j : ℕ) → j < k → 2 ^ j ≤ suc z) → k ≤ 2000 → Half (suc z)
    go zero l r g = absurd (omega arith)
    go (suc k) l r g = record { half = 2 ^ k; low = r k (omega arith); high = omega (arith, pow-suc 2 k); doubled = power_doubled k (omega arith) }

-- 2000, in units
pub grains_few : 2000 * grains < 2 ^ 2000
unfolding grains
grains_few = lit< tt

pub zero_units : Units zero64
unfolding of_bits fits
zero_units = units (fin false 0 (pos 0)) tt tt

pub zero_more : zero_units.more ≡ 0
unfolding zero_units units of_bits fits
zero_more = refl

pub zero_fewer : zero_units.fewer ≡ 0
unfolding zero_units units of_bits fits
zero_fewer = refl
