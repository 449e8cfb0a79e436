-- "`round` goes half away from zero": to a float of the same format. Definitions only.
use Rattle.std.specs.Prelude.{ℕ, ◌+◌, ◌*◌, ◌/◌, false, negsuc, from_bits, Float}
use Rattle.std.specs.Float.{nan, inf, fin, Format, binary64}
use Rattle.std.specs.Float.Ieee.{up, down, round, add, sub, to_unsigned}

-- to the nearest whole number, from halfway to the larger, with x's sign
unfoldable pub round_float : Format → Float → Float
round_float f nan = nan
round_float f (inf s) = inf s
round_float f (fin s m e) = round f s ((m * up e * 2 + down e) / (down e * 2)) 1

-- 0.5, in either format
abbrev pub half : Float
half = fin false 1 (negsuc 0)

-- 4503599627370496.0, 2^52
abbrev pub big64 : Float
big64 = from_bits binary64 0x4330_0000_0000_0000

-- the whole number that 2^52 added and taken off leaves
unfoldable pub nearest_small : Float → ℕ
nearest_small x = to_unsigned 64 (sub binary64 (add binary64 x big64) big64)
