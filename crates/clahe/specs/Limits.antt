-- What a tile's counts are clipped at, and what is left to share. Definitions and statements only.
use Rattle.std.specs.Prelude.{◌≡◌, ℕ, ◌*◌, ◌/◌, ◌%◌, ◌^◌, ◌≤◌, T, List, Float}
use Rattle.std.specs.Float.{binary64}
use Rattle.std.specs.Float.Ieee.{sub, mul, div, le, to_unsigned}
use Rattle.spec.specs.Floats.{zero64, of_count, round_as_u64}
use Rattle.spec.specs.Lists.{sum_of}
use Rattle.spec.specs.Pixels.{Pixel}
use Rattle.spec.specs.Clahe.{tile_size, tile_pixels, tile_counts, levels64, threshold, excess, clip_at, tile_table}

-- the pixels of tile k, and the valid ones among them
abbrev pub all_in : ℕ → ℕ → ℕ → ℕ
all_in rows cols k = tile_size rows (k / 8) * tile_size cols (k % 8)

abbrev pub valid_in : ℕ → ℕ → List Pixel → ℕ → ℕ
valid_in rows cols px k = sum_of (tile_counts (tile_pixels rows cols px (k / 8) (k % 8)))

-- "Threshold = max(tile pixels/128, 1), invalid pixels counted"
unfoldable pub InvalidCounted : Type 0
InvalidCounted = (rows cols : ℕ) (px : List Pixel) (k : ℕ) → tile_table rows cols px k ≡ clip_at (threshold (all_in rows cols k)) (tile_counts (tile_pixels rows cols px (k / 8) (k % 8)))

unfoldable pub ValidFewer : Type 0
ValidFewer = (rows cols : ℕ) (px : List Pixel) (k : ℕ) → valid_in rows cols px k ≤ all_in rows cols k

-- "the rounded rest one by one from bin 0": no more than once round the bins
unfoldable pub RestOnce : Type 0
RestOnce = (limit : Float) → T (le zero64 limit) → (hs : List ℕ) → sum_of hs ≤ 2 ^ 44
    → let over = excess limit zero64 hs in round_as_u64 (sub binary64 over (mul binary64 (of_count (to_unsigned 64 (div binary64 over levels64))) levels64)) ≤ 256
