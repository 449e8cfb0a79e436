-- "The square root is the IEEE 754 correctly rounded one": what that says, of every f64. Statements only: the proofs are in proofs/.
use Rattle.std.specs.Prelude.{◌≡◌, ℕ, ◌+◌, ◌-◌, ◌*◌, ◌^◌, ◌<◌, ◌≤◌, false, T, Float}
use Rattle.std.specs.Float.{nan, inf, binary64}
use Rattle.std.specs.Float.Ieee.{lt, eq, fits}
use Rattle.std.specs.Float.Ieee.Exact.{HasValue}
use Rattle.std.specs.Float.Ieee.Positive.{num, den, positive}
use Rattle.spec.specs.Floats.{zero64}
use Rattle.spec.specs.Root.{sqrt_float}

-- a square
abbrev pub square : ℕ → ℕ
square n = n * n

-- r is s * 2^(h - 644) with s of 53 binary digits, and the root of x, which is num x / den x, lies less than half a unit of s from it:
-- ((s - 1/2) * 2^(h - 644))^2 < x < ((s + 1/2) * 2^(h - 644))^2
pub record NearestRoot (x r : Float) : Type 0 where
  pub s : ℕ
  pub h : ℕ
  pub least : 2 ^ 52 ≤ s
  pub most : s < 2 ^ 53
  pub value : HasValue r false (s * 2 ^ h) (2 ^ 644)
  pub above : square ((2 * s - 1) * 2 ^ h) * den x < num x * square (2 ^ 645)
  pub below : num x * square (2 ^ 645) < square ((2 * s + 1) * 2 ^ h) * den x

-- of a finite value above zero, "subnormal .. like any other", the root is the nearest; the other cases are IEEE 754's
pub record CorrectRoot : Type 0 where
  pub nearest : (x : Float) → T (fits binary64 x) → T (positive x) → NearestRoot x (sqrt_float x)
  pub zeros : (x : Float) → T (eq x zero64) → sqrt_float x ≡ x
  pub infinity : sqrt_float (inf false) ≡ inf false
  pub below-zero : (x : Float) → T (lt x zero64) → sqrt_float x ≡ nan
  pub not_a_number : sqrt_float nan ≡ nan
