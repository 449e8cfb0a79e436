-- "Pass one: min, max and Welford mean and m2 in raster order". Definitions only.
use Rattle.std.specs.Prelude.{◌+◌, Bool, cond, ◌||◌, List, [], ◌∷◌, eqb, Float}
use Rattle.std.specs.Float.{binary64}
use Rattle.std.specs.Float.Ieee.{add, sub, mul, div, lt, of_bits}
use Rattle.types.specs.declared.Moments.{Moments}
use Rattle.spec.specs.Floats.{zero64, of_count}

-- before the first value
unfoldable pub no_moments : Moments
no_moments = record { count = 0; min_db = zero64; max_db = zero64; mean = zero64; m2 = zero64 }

-- one more value: "the least and greatest are the first met", so the tests are strict
unfoldable pub with_value : Moments → Float → Moments
with_value s v =
    let n = s.count + 1 in
    let first = eqb s.count 0 in
    let delta = sub binary64 v s.mean in
    let mean' = add binary64 s.mean (div binary64 delta (of_count n)) in
    let delta2 = sub binary64 v mean' in
    record {
      count = n;
      min_db = cond (first || lt v s.min_db) v s.min_db;
      max_db = cond (first || lt s.max_db v) v s.max_db;
      mean = mean';
      m2 = add binary64 s.m2 (mul binary64 delta delta2);
    }

unfoldable pub moments_from : Moments → List Float → Moments
moments_from s [] = s
moments_from s (v ∷ vs) = moments_from (with_value s v) vs

unfoldable pub span_of : Moments → Float
span_of s = sub binary64 s.max_db s.min_db

-- 2^-52
abbrev pub flat64 : Float
flat64 = of_bits binary64 0x3cb0_0000_0000_0000

-- "max - min < 2^-52". The moments of no value are zeros, and flat.
unfoldable pub is_flat : Moments → Bool
is_flat s = lt (span_of s) flat64
