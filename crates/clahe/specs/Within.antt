-- Values from 0.0 to 1.0, which need not be held to them. Definitions only.
use Rattle.std.specs.Prelude.{ℕ, ◌<◌, T, slice_index_or, Float}
use Rattle.std.specs.Float.{nan, binary64}
use Rattle.std.specs.Float.Ieee.{sub, div, lt, le}
use Rattle.spec.specs.Floats.{zero64, one64}
use Rattle.clahe.specs.declared.sampling.Row.{Row}

-- a value from 0.0 to 1.0
abbrev pub InUnit : Float → Type 0
InUnit x = T (le zero64 x) × T (le x one64)

-- equal as numbers, as 0.0 and -0.0 are
abbrev pub Alike : Float → Float → Type 0
Alike x y = T (le x y) × T (le y x)

-- a window by which every value is normalised to one from 0.0 to 1.0
abbrev pub Plain : Float → Float → Float → Type 0
Plain low high range = T (le low high) × T (lt zero64 range) × T (le (div binary64 (sub binary64 high low) range) one64)

-- a row whose sums are such values
abbrev pub Units : Row → Type 0
Units row = (i : ℕ) → i < 2048 → InUnit (slice_index_or row.top.now i nan) × InUnit (slice_index_or row.bottom.now i nan)
