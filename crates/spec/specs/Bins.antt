-- The histogram of 4,096 bins. Definitions only.
use Rattle.std.specs.Prelude.{ℕ, min, cond, List, map, Float}
use Rattle.std.specs.Float.{binary64}
use Rattle.std.specs.Float.Ieee.{sub, mul, div, of_bits, to_unsigned}
use Rattle.types.specs.declared.Moments.{Moments}
use Rattle.spec.specs.Floats.{zero64, one64, clamp_float}
use Rattle.spec.specs.Lists.{counts}
use Rattle.spec.specs.Moments.{span_of, is_flat}

-- 4096.0
abbrev pub bins64 : Float
bins64 = of_bits binary64 0x40b0_0000_0000_0000

-- "bin = trunc(t × 4096) with t = (v - min) × inv held to 0..1; 4096 becomes 4095"
unfoldable pub bin_of : Float → Float → Float → ℕ
bin_of least inv v = min (to_unsigned 64 (mul binary64 (clamp_float zero64 one64 (mul binary64 (sub binary64 v least) inv)) bins64)) 4095

-- how many of the values stand in each bin
unfoldable pub histogram : List ℕ → List ℕ
histogram bins = counts 4096 bins

-- the counts of values with these moments: "inv = 1/span". A flat scene has "no histogram"; its curve has all values in bin 0, as their percentiles have it.
unfoldable pub bins_of : Moments → List Float → List ℕ
bins_of s vs =
    let flat = histogram (map (λ v. 0) vs) in
    let spread = histogram (map (bin_of s.min_db (div binary64 one64 (span_of s))) vs) in
    cond (is_flat s) flat spread
