-- Whole numbers: those that are floats exactly, products that fit, and what a cast to 32 bits gives. Assumes nothing.
use Rattle.std.proofs.Common.{◌≡◌, ℕ, ◌-◌, ◌*◌, ◌/◌, ◌^◌, ◌≤◌, min, true, false, T, pos, refl, mul-le-mul, arith, le→leb}
use lib.Ieee.{Float, nan, inf, fin, binary64, up, down, in_float, to_unsigned}

pub whole_in_float : (n : ℕ) → n ≤ 2 ^ 53 → T (in_float binary64 (pos n))
unfolding in_float
whole_in_float n h = le→leb n (2 ^ 53) h

pub times_most : (a b m n : ℕ) → a ≤ m → b ≤ n → a * b ≤ m * n
times_most a b m n h k = mul-le-mul {n₁ = a} {m₁ = b} {n₂ = m} {m₂ = n} h k

least_cut : (a : ℕ) → min (min a (2 ^ 64 - 1)) (2 ^ 32 - 1) ≡ min a (2 ^ 32 - 1)
least_cut a = omega arith

-- a cast to 32 bits is one to 64, held to 2 ^ 32 - 1
pub cut : (x : Float) → min (to_unsigned 64 x) (2 ^ 32 - 1) ≡ to_unsigned 32 x
unfolding to_unsigned
cut nan = refl
cut (inf true) = refl
cut (inf false) = refl
cut (fin true m e) = refl
cut (fin false m e) = least_cut (m * up e / down e)
