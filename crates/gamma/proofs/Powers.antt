-- A fraction that is no smaller reaches all that the smaller one reaches, and what reaches k + 1 reaches k. Assumes nothing.
use mathlib.Core.Path.{◌≡◌, sym, ap, ap₂, ◌∙◌}
use Prim.Native.Nat.{ℕ, zero, suc, ◌*◌, ◌^◌, ◌≤◌, ◌<◌}
use native.Mathlib.Nat.{le_trans, le_of_eq, pow-suc, one-le-pow, mul_assoc, mul_right_comm, mul-le-mul_left, mul-le-mul_right, le_of_mul-le-mul_right, pow-le-pow_left, mul-mul-mul_comm}
use native.Mathlib.Numerals.{unary_clauses}

pub mul_pow : (a b n : ℕ) → (a * b) ^ n ≡ a ^ n * b ^ n
mul_pow a b zero = simp unary_clauses
mul_pow a b (suc n) =
    pow-suc (a * b) n ∙ ap (λ (z : ℕ). z * (a * b)) (mul_pow a b n) ∙ mul-mul-mul_comm (a ^ n) (b ^ n) a b ∙ sym (ap₂ (λ (y z : ℕ). y * z) (pow-suc a n) (pow-suc b n))

-- a / c ≤ b / d
pub raises : (p q k a c b d : ℕ) → 0 < c → a * d ≤ b * c → k ^ q * c ^ p ≤ 255 ^ q * a ^ p → k ^ q * d ^ p ≤ 255 ^ q * b ^ p
raises p q k a c b d C h r =
    let u : k ^ q * c ^ p * d ^ p ≤ 255 ^ q * a ^ p * d ^ p = mul-le-mul_right (d ^ p) r in
    let v : 255 ^ q * (a * d) ^ p ≤ 255 ^ q * (b * c) ^ p = mul-le-mul_left (255 ^ q) (pow-le-pow_left h p) in
    let e1 : k ^ q * d ^ p * c ^ p ≡ k ^ q * c ^ p * d ^ p = mul_right_comm (k ^ q) (d ^ p) (c ^ p) in
    let e2 : 255 ^ q * a ^ p * d ^ p ≡ 255 ^ q * (a * d) ^ p = mul_assoc (255 ^ q) (a ^ p) (d ^ p) ∙ ap (λ (z : ℕ). 255 ^ q * z) (sym (mul_pow a d p)) in
    let e3 : 255 ^ q * (b * c) ^ p ≡ 255 ^ q * b ^ p * c ^ p = ap (λ (z : ℕ). 255 ^ q * z) (mul_pow b c p) ∙ sym (mul_assoc (255 ^ q) (b ^ p) (c ^ p)) in
    le_of_mul-le-mul_right
    (le_trans (le_of_eq e1) (le_trans u (le_trans (le_of_eq e2) (le_trans v (le_of_eq e3)))))
    (one-le-pow p c C)

-- a smaller k
pub lowers : (p q j k a c : ℕ) → j ≤ k → k ^ q * c ^ p ≤ 255 ^ q * a ^ p → j ^ q * c ^ p ≤ 255 ^ q * a ^ p
lowers p q j k a c h r = le_trans (mul-le-mul_right (c ^ p) (pow-le-pow_left h q)) r
