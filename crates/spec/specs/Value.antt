-- The grey value of a pixel, before any stretch. Definitions only.
use Rattle.std.specs.Prelude.{ℕ, Float}
use Rattle.std.specs.Float.{binary64}
use Rattle.std.specs.Float.Ieee.{sub, mul, div, of_bits, to_unsigned}
use Rattle.spec.specs.Floats.{zero64, clamp_float}
use Rattle.spec.specs.Pixels.{Pixel, off, on}

-- 255.0, 65535.0
abbrev pub full8 : Float
full8 = of_bits binary64 0x406f_e000_0000_0000

abbrev pub full16 : Float
full16 = of_bits binary64 0x40ef_ffe0_0000_0000

-- "max(v, low), then min with high; minus low; over range"
unfoldable pub normalized : Float → Float → Float → Float → Float
normalized low high range v = div binary64 (sub binary64 (clamp_float low high v) low) range

-- "times 255 or 65535; held to 0..that; truncated"
unfoldable pub value_of : Float → Float → Float → Float → Float → ℕ
value_of full low high range v = to_unsigned 64 (clamp_float zero64 full (mul binary64 (normalized low high range v) full))

-- "Invalid: 0"; a valid pixel by the value of its dB
unfoldable pub paint : (Float → ℕ) → Pixel → ℕ
paint value off = 0
paint value (on v) = value v
