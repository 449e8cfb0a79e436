-- `round` with a sign keeps the order, and so a sum, a difference, a product by a positive value and a quotient by one grow with their first operand.
-- Signs, zeros, subnormal results and overflow to an infinity are included. Assumes nothing.
use Rattle.std.proofs.Common.{◌≡◌, ℕ, zero, suc, ◌+◌, ◌*◌, ◌^◌, ◌<◌, ◌≤◌, Bool, true, false, cond, not, T, ltb, sym, refl, ap, ◌∙◌, subst, le_of_eq, add-mul, zero-mul, arith, pow_pos}
use lib.Ieee.{Float, nan, inf, fin, Format, prec, emax, low, up, down, odd, units, round, neg, le}
use lib.Ieee.Exact.{HasValue, round_exact}
use lib.Ieee.Fits.{round_is}
use lib.Ieee.Order.{round_mono, kept, drop}
use Rattle.numeric.proofs.Order.{Number, le→cross, cross→le, bottom, top, none}

-- ---- the mirror
pub neg-neg : (x : Float) → neg (neg x) ≡ x
unfolding neg
neg-neg nan = refl
neg-neg (inf true) = refl
neg-neg (inf false) = refl
neg-neg (fin true m e) = refl
neg-neg (fin false m e) = refl

odd_neg : (d q k l : ℕ) → odd d true q k l ≡ neg (odd d false q k l)
unfolding odd neg
odd_neg d zero k l = refl
odd_neg d (suc q) k l = refl

units_neg : (f : Format) (q k : ℕ) → units f true q k ≡ neg (units f false q k)
unfolding units neg
units_neg f q k = go (ltb (q * 2 ^ k) (2 ^ (low f + suc (emax f))))
  where
    go : (b : Bool) → cond b (odd (suc (prec f)) true q k (low f)) (inf true) ≡ neg (cond b (odd (suc (prec f)) false q k (low f)) (inf false))
    go true = odd_neg (suc (prec f)) q k (low f)
    go false = refl

pub round-neg : (f : Format) (a c : ℕ) → round f true a c ≡ neg (round f false a c)
round-neg f a c =
    let n = a * 2 ^ low f in
    round_is f true a c ∙ units_neg f (kept (prec f) n c) (drop (prec f) n c) ∙ ap neg (sym (round_is f false a c))

pub neg_anti : (x y : Float) → T (le x y) → T (le (neg y) (neg x))
unfolding le neg
neg_anti nan y h = absurd h
neg_anti (inf s) nan h = absurd h
neg_anti (inf true) (inf true) h = tt
neg_anti (inf true) (inf false) h = tt
neg_anti (inf false) (inf true) h = absurd h
neg_anti (inf false) (inf false) h = tt
neg_anti (inf true) (fin t n d) h = top (fin (not t) n d) tt
neg_anti (inf false) (fin t n d) h = absurd h
neg_anti (fin s m e) nan h = absurd h
neg_anti (fin s m e) (inf true) h = absurd h
neg_anti (fin s m e) (inf false) h = bottom (fin (not s) m e) tt
neg_anti (fin s m e) (fin t n d) h = cross→le (fin (not t) n d) (fin (not s) m e) tt tt (flip s t (m * up e) (n * up d) (down e) (down d) (le→cross (fin s m e) (fin t n d) tt tt h))
  where
    flip : (s t : Bool) (a b c d : ℕ) → cond s 0 a * d + cond t b 0 * c ≤ cond t 0 b * c + cond s a 0 * d
        → cond (not t) 0 b * c + cond (not s) a 0 * d ≤ cond (not s) 0 a * d + cond (not t) b 0 * c
    flip false false a b c d h = omega arith
    flip false true a b c d h = omega arith
    flip true false a b c d h = omega arith
    flip true true a b c d h = omega arith

-- ---- a rounded value is a number, with the sign that was asked
Signed : Bool → Float → Type 0
Signed s nan = ⊥
Signed s (inf t) = t ≡ s
Signed s (fin t m e) = t ≡ s

odd_signed : (d : ℕ) (s : Bool) (q k l : ℕ) → Signed s (odd d s q k l)
unfolding odd Signed
odd_signed d s zero k l = refl
odd_signed d s (suc q) k l = refl

round_signed : (f : Format) (s : Bool) (a c : ℕ) → Signed s (round f s a c)
unfolding units Signed
round_signed f s a c =
    let n = a * 2 ^ low f in
    subst (λ (z : Float). Signed s z) (sym (round_is f s a c)) (go (kept (prec f) n c) (drop (prec f) n c) (ltb (kept (prec f) n c * 2 ^ drop (prec f) n c) (2 ^ (low f + suc (emax f)))))
  where
    go : (q k : ℕ) (b : Bool) → Signed s (cond b (odd (suc (prec f)) s q k (low f)) (inf s))
    go q k true = odd_signed (suc (prec f)) s q k (low f)
    go q k false = refl

pub round_number : (f : Format) (s : Bool) (a c : ℕ) → Number (round f s a c)
unfolding Signed
round_number f s a c = go (round f s a c) (round_signed f s a c)
  where
    go : (z : Float) → Signed s z → Number z
    go nan h = h
    go (inf t) h = tt
    go (fin t m e) h = tt

-- what is not above zero is at most what is not below it
across : (x y : Float) → Signed true x → Signed false y → T (le x y)
unfolding Signed le
across nan y p q = absurd p
across (inf s) nan p q = absurd q
across (inf s) (inf t) p q = subst (λ (u : Bool). T (le (inf u) (inf t))) (sym p) (bottom (inf t) tt)
across (inf s) (fin t n d) p q = subst (λ (u : Bool). T (le (inf u) (fin t n d))) (sym p) tt
across (fin s m e) nan p q = absurd q
across (fin s m e) (inf t) p q = subst (λ (u : Bool). T (le (fin s m e) (inf u))) (sym q) tt
across (fin s m e) (fin t n d) p q =
    subst (λ (u : Bool). T (le (fin u m e) (fin t n d))) (sym p)
    (subst (λ (u : Bool). T (le (fin true m e) (fin u n d))) (sym q)
    (cross→le (fin true m e) (fin false n d) tt tt (easy (m * up e) (n * up d) (down e) (down d))))
  where
    easy : (a b c d : ℕ) → 0 * d + 0 * c ≤ b * c + a * d
    easy a b c d = omega arith

-- ---- zero
zero-value : (f : Format) (s : Bool) (c : ℕ) → 0 < c → HasValue (round f s 0 c) s 0 c
zero-value f s c C = round_exact f s 0 c 0 0 C (pow_pos (prec f)) (pow_pos (low f + suc (emax f))) (zero-mul (2 ^ low f) ∙ sym (zero-mul c))

level-zero : (x y : Float) (c d : ℕ) → 0 < c → 0 < d → HasValue x false 0 c → HasValue y true 0 d → T (le x y)
level-zero nan y c d C D p q = absurd p
level-zero (inf s) y c d C D p q = absurd p
level-zero (fin s m e) nan c d C D p q = absurd q
level-zero (fin s m e) (inf t) c d C D p q = absurd q
level-zero (fin s m e) (fin t n k) c d C D p q =
    let a : m * up e ≡ 0 = none (m * up e) c C (le_of_eq (p.1 ∙ zero-mul (down e))) in
    let b : n * up k ≡ 0 = none (n * up k) d D (le_of_eq (q.1 ∙ zero-mul (down k))) in
    cross→le (fin s m e) (fin t n k) tt tt
    (subst (λ (z : ℕ). cond s 0 z * down k + cond t (n * up k) 0 * down e ≤ cond t 0 (n * up k) * down e + cond s z 0 * down k) (sym a)
    (subst (λ (z : ℕ). cond s 0 0 * down k + cond t z 0 * down e ≤ cond t 0 z * down e + cond s 0 0 * down k) (sym b) (both s t (down e) (down k))))
  where
    both : (s t : Bool) (c d : ℕ) → cond s 0 0 * d + cond t 0 0 * c ≤ cond t 0 0 * c + cond s 0 0 * d
    both false false c d = omega arith
    both false true c d = omega arith
    both true false c d = omega arith
    both true true c d = omega arith

-- ---- the signed fractions ±a / c and ±b / d
pub round-le : (f : Format) (s : Bool) (a c : ℕ) (t : Bool) (b d : ℕ) → 0 < c → 0 < d
    → cond s 0 a * d + cond t b 0 * c ≤ cond t 0 b * c + cond s a 0 * d → T (le (round f s a c) (round f t b d))
round-le f false a c false b d C D h = round_mono f a c b d C D (omega arith)
round-le f true a c false b d C D h = across (round f true a c) (round f false b d) (round_signed f true a c) (round_signed f false b d)
round-le f true a c true b d C D h =
    subst (λ (z : Float). T (le z (round f true b d))) (sym (round-neg f a c))
    (subst (λ (z : Float). T (le (neg (round f false a c)) z)) (sym (round-neg f b d))
    (neg_anti (round f false b d) (round f false a c) (round_mono f b d a c D C (omega arith))))
round-le f false a c true b d C D h =
    let x : a ≡ 0 = none a d D (omega arith) in
    let y : b ≡ 0 = none b c C (omega arith) in
    subst (λ (z : ℕ). T (le (round f false z c) (round f true b d))) (sym x)
    (subst (λ (z : ℕ). T (le (round f false 0 c) (round f true z d))) (sym y)
    (level-zero (round f false 0 c) (round f true 0 d) c d C D (zero-value f false c C) (zero-value f true d D)))

-- ---- z is (p - n) / c, rounded once
pub record Rounds (f : Format) (z : Float) (p n c : ℕ) : Type 0 where
  pub sign : Bool
  pub size : ℕ
  pub is : z ≡ round f sign size c
  pub value : cond sign 0 size + n ≡ cond sign size 0 + p

spread : (P N p n P' N' p' n' c c' : ℕ) → P + n ≡ N + p → P' + n' ≡ N' + p' → p * c' + n' * c ≤ p' * c + n * c' → P * c' + N' * c ≤ P' * c + N * c'
spread P N p n P' N' p' n' c c' e e' h =
    let a = simp add-mul at (ap (λ (z : ℕ). z * c') e) in
    let b = simp add-mul at (ap (λ (z : ℕ). z * c) e') in
    omega (arith, a, b)

pub rounds-le : (f : Format) (z z' : Float) (p n c p' n' c' : ℕ) → 0 < c → 0 < c' → Rounds f z p n c → Rounds f z' p' n' c'
    → p * c' + n' * c ≤ p' * c + n * c' → T (le z z')
rounds-le f z z' p n c p' n' c' C C' r r' h =
    subst (λ (w : Float). T (le w z')) (sym r.is)
    (subst (λ (w : Float). T (le (round f r.sign r.size c) w)) (sym r'.is)
    (round-le f r.sign r.size c r'.sign r'.size c' C C'
    (spread (cond r.sign 0 r.size) (cond r.sign r.size 0) p n (cond r'.sign 0 r'.size) (cond r'.sign r'.size 0) p' n' c c' r.value r'.value h)))

pub rounds-number : (f : Format) (z : Float) (p n c : ℕ) → Rounds f z p n c → Number z
rounds-number f z p n c r = subst Number (sym r.is) (round_number f r.sign r.size c)
