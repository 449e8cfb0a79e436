-- Document 02, F-1, gamma at eight bits: "the value before the stretch is the largest whole k of 0..255 with k^q ≤ 255^q × t^p, where t is the exact
-- normalised f64 (below 0 counts as 0) and p/q is 4/5, 9/10 or 11/10". Definitions only.
use Rattle.std.specs.Prelude.{ℕ, zero, suc, ◌*◌, ◌^◌, Bool, false, cond, not, leb, Float}
use Rattle.std.specs.Float.{nan, inf, fin}
use Rattle.std.specs.Float.Ieee.{up, down, eq}
use Rattle.spec.specs.Value.{full8, full16, normalized, value_of}
use Rattle.spec.specs.Window.{gamma08, gamma09, gamma11}

-- "k^q ≤ 255^q × t^p" for t = a / c
abbrev pub reaches : ℕ → ℕ → ℕ → ℕ → ℕ → Bool
reaches p q a c k = leb (k ^ q * c ^ p) (255 ^ q * a ^ p)

-- the same for a float: "below 0 counts as 0"; a NaN reaches nothing and plus infinity all, as where `as` truncates and saturates
unfoldable pub reaches_byte : ℕ → ℕ → Float → ℕ → Bool
reaches_byte p q nan k = false
reaches_byte p q (inf s) k = not s
reaches_byte p q (fin s m e) k = reaches p q (cond s 0 (m * up e)) (down e) k

-- "the largest whole k of 0..n with .."
unfoldable pub largest : (ℕ → Bool) → ℕ → ℕ
largest f zero = 0
largest f (suc k) = cond (f (suc k)) (suc k) (largest f k)

unfoldable pub gamma_value : ℕ → ℕ → Float → ℕ
gamma_value p q t = largest (reaches_byte p q t) 255

-- "p/q is 4/5, 9/10 or 11/10": the three in this order, numbered from 0
abbrev pub over : ℕ → ℕ
over zero = 4
over (suc zero) = 9
over (suc (suc g)) = 11

abbrev pub under : ℕ → ℕ
under zero = 5
under (suc g) = 10

-- the number of a gamma; 3 is the straight line of 1.0, and stands for any other
unfoldable pub curve : Float → ℕ
curve gamma = cond (eq gamma gamma08) 0 (cond (eq gamma gamma09) 1 (cond (eq gamma gamma11) 2 3))

-- the value of a valid pixel at U8, by the number of its gamma
unfoldable pub curved : ℕ → Float → Float → Float → Float → ℕ
curved g low high range v = cond (leb 3 g) (value_of full8 low high range v) (gamma_value (over g) (under g) (normalized low high range v))

pub data BitDepth : Type 0 where
  U8 : BitDepth
  U16 : BitDepth

-- 255.0 or 65535.0
abbrev pub full_of : BitDepth → Float
full_of U8 = full8
full_of U16 = full16

-- the value of a valid pixel: "At U8, gammas 0.8, 0.9 and 1.1 are painted"; at U16 they are refused with 6
unfoldable pub grey_value : BitDepth → Float → Float → Float → Float → Float → ℕ
grey_value U8 gamma low high range v = curved (curve gamma) low high range v
grey_value U16 gamma low high range v = value_of full16 low high range v
