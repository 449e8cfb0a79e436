-- Each operation grows with its operands: a sum with both, a difference with the first and against the second, a product by a value above zero and a quotient by one with the first.
-- Any signs, zeros, subnormal results, and overflow to an infinity. Assumes nothing.
use Rattle.std.proofs.Common.{◌≡◌, ℕ, ◌+◌, ◌-◌, ◌*◌, ◌<◌, ◌≤◌, Bool, true, false, cond, not, T, eqb, ltb, pos, sym, refl, subst, mul-le-mul_right, mul_assoc, mul_comm, add-mul, mul-pos, mul_left_comm, arith, lit<, eqb→eq, ltb→lt, nltb→le}
use lib.Ieee.{Float, nan, inf, fin, Format, binary32, binary64, up, down, round, neg, sum, add, sub, mul, div, le}
use lib.Ieee.Fits.{up_pos}
use lib.Ieee.Positive.{num, den, den_pos, positive}
use lib.Ieee.Scale.{finite}
use Rattle.numeric.proofs.Order.{plus, less, Number, le→cross, number_of_finite, le_right, le_refl, bottom, top, only_top}
use Rattle.numeric.proofs.Round.{Rounds, rounds-le, rounds-number, neg_anti}

-- ---- the sum
abbrev P : Bool → ℕ → ℕ
P s a = cond s 0 a

abbrev N : Bool → ℕ → ℕ
N s a = cond s a 0

sum-rounds : (f : Format) (s : Bool) (a : ℕ) (t : Bool) (b c : ℕ) → Rounds f (sum f s a t b c) (P s a + P t b) (N s a + N t b) c
unfolding sum
sum-rounds f false a false b c = record { sign = false; size = a + b; is = refl; value = omega arith }
sum-rounds f true a true b c = record { sign = true; size = a + b; is = refl; value = omega arith }
sum-rounds f false a true b c = go (ltb a b) (ltb→lt a b) (nltb→le a b)
  where
    go : (u : Bool) → (T u → a < b) → (T (not u) → b ≤ a) → Rounds f (cond u (round f true (b - a) c) (round f false (a - b) c)) (a + 0) (0 + b) c
    go true h k = let g = h tt in record { sign = true; size = b - a; is = refl; value = omega arith }
    go false h k = let g = k tt in record { sign = false; size = a - b; is = refl; value = omega arith }
sum-rounds f true a false b c = go (ltb a b) (ltb b a) (ltb→lt a b) (nltb→le a b) (ltb→lt b a) (nltb→le b a)
  where
    go : (u v : Bool) → (T u → a < b) → (T (not u) → b ≤ a) → (T v → b < a) → (T (not v) → a ≤ b) → Rounds f (cond u (round f false (b - a) c) (round f v (a - b) c)) (0 + b) (a + 0) c
    go true v h k h' k' = let g = h tt in record { sign = false; size = b - a; is = refl; value = omega arith }
    go false true h k h' k' = let g = h' tt in record { sign = true; size = a - b; is = refl; value = omega arith }
    go false false h k h' k' =
        let g = k tt in
        let g' = k' tt in
        record { sign = false; size = a - b; is = refl; value = omega arith }

-- a fraction's sign and size, and the other's denominator
out : (s : Bool) (a c : ℕ) → (P s (a * c) ≡ P s a * c) × (N s (a * c) ≡ N s a * c)
out false a c = (refl, omega arith)
out true a c = (omega arith, refl)

pub add_rounds : (f : Format) (x y : Float) → T (finite x) → T (finite y)
    → Rounds f (add f x y) (plus x * den y + plus y * den x) (less x * den y + less y * den x) (den x * den y)
unfolding add
add_rounds f nan y p q = absurd p
add_rounds f (inf s) y p q = absurd p
add_rounds f (fin s m e) nan p q = absurd q
add_rounds f (fin s m e) (inf t) p q = absurd q
add_rounds f (fin s m e) (fin t n d) p q =
    let r = sum-rounds f s (m * up e * down d) t (n * up d * down e) (down e * down d) in
    let a = out s (m * up e) (down d) in
    let b = out t (n * up d) (down e) in
    record { sign = r.sign; size = r.size; is = r.is; value = moved (cond r.sign 0 r.size) (cond r.sign r.size 0) r.value a.0 a.1 b.0 b.1 }
  where
    moved : (k l : ℕ) {a b c d a' b' c' d' : ℕ} → k + (c + d) ≡ l + (a + b) → a ≡ a' → c ≡ c' → b ≡ b' → d ≡ d' → k + (c' + d') ≡ l + (a' + b')
    moved k l h p q r s = omega arith

-- (p - n) / d + (P - N) / D, with p / d and P / D no larger than p' / d' and P' / D'
grow : (p n d P N D p' n' d' P' N' D' : ℕ) → p * d' + n' * d ≤ p' * d + n * d' → P * D' + N' * D ≤ P' * D + N * D'
    → (p * D + P * d) * (d' * D') + (n' * D' + N' * d') * (d * D) ≤ (p' * D' + P' * d') * (d * D) + (n * D + N * d) * (d' * D')
grow p n d P N D p' n' d' P' N' D' h k =
    let a = simp (add-mul, mul_assoc, mul_comm, mul_left_comm) at (mul-le-mul_right (D * D') h) in
    let b = simp (add-mul, mul_assoc, mul_comm, mul_left_comm) at (mul-le-mul_right (d * d') k) in
    simp (add-mul, mul_assoc, mul_comm, mul_left_comm) (omega (arith, a, b))

add-le-finite : (f : Format) (x y x' y' : Float) → T (finite x) → T (finite y) → T (finite x') → T (finite y') → T (le x x') → T (le y y') → T (le (add f x y) (add f x' y'))
add-le-finite f x y x' y' p q p' q' h k =
    rounds-le f (add f x y) (add f x' y') (plus x * den y + plus y * den x) (less x * den y + less y * den x) (den x * den y)
    (plus x' * den y' + plus y' * den x') (less x' * den y' + less y' * den x') (den x' * den y')
    (mul-pos (den_pos x) (den_pos y)) (mul-pos (den_pos x') (den_pos y')) (add_rounds f x y p q) (add_rounds f x' y' p' q')
    (grow (plus x) (less x) (den x) (plus y) (less y) (den y) (plus x') (less x') (den x') (plus y') (less y') (den y') (le→cross x x' p p' h) (le→cross y y' q q' k))

pub neg-finite : (x : Float) → T (finite x) → T (finite (neg x))
unfolding neg
neg-finite nan p = p
neg-finite (inf s) p = p
neg-finite (fin s m e) p = tt

-- ---- the difference
pub sub-rounds : (f : Format) (x y : Float) → T (finite x) → T (finite y)
    → Rounds f (sub f x y) (plus x * den y + less y * den x) (less x * den y + plus y * den x) (den x * den y)
unfolding sub
sub-rounds f x nan p q = absurd q
sub-rounds f x (inf t) p q = absurd q
sub-rounds f x (fin true n d) p q = add_rounds f x (fin false n d) p tt
sub-rounds f x (fin false n d) p q = add_rounds f x (fin true n d) p tt

-- zero, as a rounded fraction
zero-rounds : (f : Format) → Rounds f (fin false 0 (pos 0)) 0 0 1
unfolding round
zero-rounds binary32 = record { sign = false; size = 0; is = refl; value = refl }
zero-rounds binary64 = record { sign = false; size = 0; is = refl; value = refl }

pub sub_nonneg : (f : Format) (x y : Float) → T (finite x) → T (finite y) → T (le y x) → T (le (fin false 0 (pos 0)) (sub f x y))
sub_nonneg f x y p q h =
    let k = le→cross y x q p h in
    rounds-le f (fin false 0 (pos 0)) (sub f x y) 0 0 1 (plus x * den y + less y * den x) (less x * den y + plus y * den x) (den x * den y)
    (lit< tt) (mul-pos (den_pos x) (den_pos y)) (zero-rounds f) (sub-rounds f x y p q) (omega arith)

pub sub_nonpos : (f : Format) (x y : Float) → T (finite x) → T (finite y) → T (le x y) → T (le (sub f x y) (fin false 0 (pos 0)))
sub_nonpos f x y p q h =
    let k = le→cross x y p q h in
    rounds-le f (sub f x y) (fin false 0 (pos 0)) (plus x * den y + less y * den x) (less x * den y + plus y * den x) (den x * den y) 0 0 1
    (mul-pos (den_pos x) (den_pos y)) (lit< tt) (sub-rounds f x y p q) (zero-rounds f) (omega arith)

-- ---- the product and the quotient by a value above zero
pub mul-rounds : (f : Format) (x y : Float) → T (finite x) → T (positive y) → Rounds f (mul f x y) (plus x * num y) (less x * num y) (den x * den y)
unfolding mul
mul-rounds f nan y p q = absurd p
mul-rounds f (inf s) y p q = absurd p
mul-rounds f (fin s m e) nan p q = absurd q
mul-rounds f (fin s m e) (inf t) p q = absurd q
mul-rounds f (fin s m e) (fin true n d) p q = absurd q
mul-rounds f (fin false m e) (fin false n d) p q = record { sign = false; size = m * up e * (n * up d); is = refl; value = omega arith }
mul-rounds f (fin true m e) (fin false n d) p q = record { sign = true; size = m * up e * (n * up d); is = refl; value = omega arith }

-- a test that fails
pick {ℓ} : {A : Type ℓ} (n : ℕ) (x y : A) → T (ltb 0 n) → cond (eqb n 0) x y ≡ y
pick n x y h = go (eqb n 0) (eqb→eq n 0)
  where
    go : (b : Bool) → (T b → n ≡ 0) → cond b x y ≡ y
    go true k =
        let z = k tt in
        let l = ltb→lt 0 n h in
        absurd (omega arith)
    go false k = refl

pub div-rounds : (f : Format) (x y : Float) → T (finite x) → T (positive y) → Rounds f (div f x y) (plus x * den y) (less x * den y) (num y * den x)
unfolding div
div-rounds f nan y p q = absurd p
div-rounds f (inf s) y p q = absurd p
div-rounds f (fin s m e) nan p q = absurd q
div-rounds f (fin s m e) (inf t) p q = absurd q
div-rounds f (fin s m e) (fin true n d) p q = absurd q
div-rounds f (fin false m e) (fin false n d) p q = record { sign = false; size = m * up e * down d; is = pick n _ _ q; value = omega arith }
div-rounds f (fin true m e) (fin false n d) p q = record { sign = true; size = m * up e * down d; is = pick n _ _ q; value = omega arith }

pub num_pos : (x : Float) → T (positive x) → 0 < num x
num_pos nan p = absurd p
num_pos (inf s) p = absurd p
num_pos (fin true m e) p = absurd p
num_pos (fin false m e) p = mul-pos (ltb→lt 0 m p) (up_pos e)

times : (p n d p' n' d' K L : ℕ) → p * d' + n' * d ≤ p' * d + n * d' → p * K * (d' * L) + n' * K * (d * L) ≤ p' * K * (d * L) + n * K * (d' * L)
times p n d p' n' d' K L h =
    let a = simp (add-mul, mul_assoc, mul_comm) at (mul-le-mul_right (K * L) h) in
    simp (mul_assoc, mul_left_comm) (omega (arith, a))

mul-le-finite : (f : Format) (y : Float) → T (positive y) → (x x' : Float) → T (finite x) → T (finite x') → T (le x x') → T (le (mul f x y) (mul f x' y))
mul-le-finite f y q x x' p p' h =
    rounds-le f (mul f x y) (mul f x' y) (plus x * num y) (less x * num y) (den x * den y) (plus x' * num y) (less x' * num y) (den x' * den y)
    (mul-pos (den_pos x) (den_pos y)) (mul-pos (den_pos x') (den_pos y)) (mul-rounds f x y p q) (mul-rounds f x' y p' q)
    (times (plus x) (less x) (den x) (plus x') (less x') (den x') (num y) (den y) (le→cross x x' p p' h))

times' : (p n d p' n' d' K L : ℕ) → p * d' + n' * d ≤ p' * d + n * d' → p * L * (K * d') + n' * L * (K * d) ≤ p' * L * (K * d) + n * L * (K * d')
times' p n d p' n' d' K L h =
    let a = simp (add-mul, mul_assoc, mul_comm) at (mul-le-mul_right (K * L) h) in
    simp (mul_assoc, mul_comm, mul_left_comm) (omega (arith, a))

div-le-finite : (f : Format) (y : Float) → T (positive y) → (x x' : Float) → T (finite x) → T (finite x') → T (le x x') → T (le (div f x y) (div f x' y))
div-le-finite f y q x x' p p' h =
    rounds-le f (div f x y) (div f x' y) (plus x * den y) (less x * den y) (num y * den x) (plus x' * den y) (less x' * den y) (num y * den x')
    (mul-pos (num_pos y q) (den_pos x)) (mul-pos (num_pos y q) (den_pos x')) (div-rounds f x y p q) (div-rounds f x' y p' q)
    (times' (plus x) (less x) (den x) (plus x') (less x') (den x') (num y) (den y) (le→cross x x' p p' h))

-- ---- from the finite values to the infinities: a function that keeps each infinity, gives a number at a finite value, and keeps the order of two finite values
module _ (g : Float → Float) (keeps : (s : Bool) → g (inf s) ≡ inf s) (num_of_contract : (x : Float) → T (finite x) → Number (g x))
    (mono : (x y : Float) → T (finite x) → T (finite y) → T (le x y) → T (le (g x) (g y))) where
  lift_number : (x : Float) → Number x → Number (g x)
  lift_number nan p = absurd p
  lift_number (inf s) p = subst Number (sym (keeps s)) tt
  lift_number (fin s m e) p = num_of_contract (fin s m e) tt

  lift_le : (x y : Float) → T (le x y) → T (le (g x) (g y))
  unfolding le
  lift_le nan y h = absurd h
  lift_le (inf true) y h = subst (λ (z : Float). T (le z (g y))) (sym (keeps true)) (bottom (g y) (lift_number y (le_right (inf true) y h)))
  lift_le (inf false) y h = subst (λ (z : Float). T (le (g (inf false)) (g z))) (sym (only_top y h)) (le_refl (g (inf false)) (lift_number (inf false) tt))
  lift_le (fin s m e) nan h = absurd h
  lift_le (fin s m e) (inf true) h = absurd h
  lift_le (fin s m e) (inf false) h = subst (λ (z : Float). T (le (g (fin s m e)) z)) (sym (keeps false)) (top (g (fin s m e)) (num_of_contract (fin s m e) tt))
  lift_le (fin s m e) (fin t n d) h = mono (fin s m e) (fin t n d) tt tt h

-- ---- the laws
add_inf : (f : Format) (y : Float) → T (finite y) → (s : Bool) → add f (inf s) y ≡ inf s
unfolding add
add_inf f nan q s = absurd q
add_inf f (inf t) q s = absurd q
add_inf f (fin t n d) q s = refl

add-number-finite : (f : Format) (y : Float) → T (finite y) → (x : Float) → T (finite x) → Number (add f x y)
add-number-finite f y q x p = rounds-number f (add f x y) (plus x * den y + plus y * den x) (less x * den y + less y * den x) (den x * den y) (add_rounds f x y p q)

mul_inf : (f : Format) (y : Float) → T (positive y) → (s : Bool) → mul f (inf s) y ≡ inf s
unfolding mul
mul_inf f nan q s = absurd q
mul_inf f (inf t) q s = absurd q
mul_inf f (fin true n d) q s = absurd q
mul_inf f (fin false n d) q true = pick n nan (inf true) q
mul_inf f (fin false n d) q false = pick n nan (inf false) q

mul-number-finite : (f : Format) (y : Float) → T (positive y) → (x : Float) → T (finite x) → Number (mul f x y)
mul-number-finite f y q x p = rounds-number f (mul f x y) (plus x * num y) (less x * num y) (den x * den y) (mul-rounds f x y p q)

div_inf : (f : Format) (y : Float) → T (positive y) → (s : Bool) → div f (inf s) y ≡ inf s
unfolding div
div_inf f nan q s = absurd q
div_inf f (inf t) q s = absurd q
div_inf f (fin true n d) q s = absurd q
div_inf f (fin false n d) q true = refl
div_inf f (fin false n d) q false = refl

div-number-finite : (f : Format) (y : Float) → T (positive y) → (x : Float) → T (finite x) → Number (div f x y)
div-number-finite f y q x p = rounds-number f (div f x y) (plus x * den y) (less x * den y) (num y * den x) (div-rounds f x y p q)

-- x + y, x - y, x * y and x / y as x grows, for a finite y, and for the last two a y above zero
pub add-le : (f : Format) (y : Float) → T (finite y) → (x x' : Float) → T (le x x') → T (le (add f x y) (add f x' y))
add-le f y q =
    lift_le (λ (x : Float). add f x y) (add_inf f y q) (add-number-finite f y q)
    (λ (x x' : Float) (p : T (finite x)) (p' : T (finite x')) (h : T (le x x')). add-le-finite f x y x' y p q p' q h (le_refl y (number_of_finite y q)))

pub sub-le : (f : Format) (y : Float) → T (finite y) → (x x' : Float) → T (le x x') → T (le (sub f x y) (sub f x' y))
unfolding sub
sub-le f y q = add-le f (neg y) (neg-finite y q)

pub mul-le : (f : Format) (y : Float) → T (positive y) → (x x' : Float) → T (le x x') → T (le (mul f x y) (mul f x' y))
mul-le f y q = lift_le (λ (x : Float). mul f x y) (mul_inf f y q) (mul-number-finite f y q) (mul-le-finite f y q)

pub div-le : (f : Format) (y : Float) → T (positive y) → (x x' : Float) → T (le x x') → T (le (div f x y) (div f x' y))
div-le f y q = lift_le (λ (x : Float). div f x y) (div_inf f y q) (div-number-finite f y q) (div-le-finite f y q)

-- a sum grows with both, a difference against the second
pub add-le_both : (f : Format) (x y x' y' : Float) → T (finite x) → T (finite y) → T (finite x') → T (finite y') → T (le x x') → T (le y y') → T (le (add f x y) (add f x' y'))
add-le_both = add-le-finite

pub sub-le_both : (f : Format) (x y x' y' : Float) → T (finite x) → T (finite y) → T (finite x') → T (finite y') → T (le x x') → T (le y' y) → T (le (sub f x y) (sub f x' y'))
unfolding sub
sub-le_both f x y x' y' p q p' q' h k = add-le-finite f x (neg y) x' (neg y') p (neg-finite y q) p' (neg-finite y' q') h (neg_anti y' y k)
