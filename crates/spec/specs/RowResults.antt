-- Document 02, F-3: "the row's position, its two tile indices and its weight are to be worked out once a row, before the column loop. Each row's results
-- in 0..1 are shown to follow from these four, its marks, its normalised pixels and the tile sums alone". The pixels here are normalised. Definitions only.
use Rattle.std.specs.Prelude.{ℕ, ◌+◌, ◌*◌, ◌/◌, ◌%◌, length, get_or, take, drop, Float}
use mathlib.Core.List.{List, [], map, zip_with}
use Rattle.std.specs.Float.{nan, binary64}
use Rattle.std.specs.Float.Ieee.{mul, to_unsigned}
use Rattle.types.specs.declared.TilePosition.{TilePosition}
use Rattle.spec.specs.Floats.{zero64, one64, clamp_float}
use Rattle.spec.specs.Lists.{places}
use Rattle.spec.specs.Pixels.{Pixel, off, on}
use Rattle.spec.specs.Clahe.{tile_side, tile_position, level_of, blend, sample, sum_at, tile_tables}

-- "results in 0..1": document 01's "result held to 0..1" of the pixel at place i, before it is scaled; invalid: 0
unfoldable pub result_at : ℕ → ℕ → List (List ℕ) → ℕ → Pixel → Float
result_at rows cols tables i off = zero64
result_at rows cols tables i (on u) =
    clamp_float zero64 one64 (sample tables (tile_position (tile_side rows) (i / cols)) (tile_position (tile_side cols) (i % cols)) (level_of u))

unfoldable pub clahe_results : ℕ → ℕ → List Pixel → List Float
clahe_results rows cols px = zip_with (result_at rows cols (tile_tables rows cols px)) (places (length px)) px

-- "scaled, truncated"
abbrev pub scaled : Float → Float → ℕ
scaled full x = to_unsigned 64 (mul binary64 x full)

-- "the tile sums": 256 of each of the 64 tiles
unfoldable pub tile_sums : ℕ → ℕ → List Pixel → List (List Float)
tile_sums rows cols px = map (λ t. map (sum_at t) (places 256)) (tile_tables rows cols px)

-- row r of a list of rows
abbrev pub row_at : {A : Type 0} → ℕ → ℕ → List A → List A
row_at cols r xs = take cols (drop (r * cols) xs)

-- the result of a pixel from the tile sums, its row's four and its column's
unfoldable pub result_of : List (List Float) → TilePosition → TilePosition → Pixel → Float
result_of sums y x off = zero64
result_of sums y x (on u) =
    let at : ℕ → ℕ → Float = λ ty tx. get_or (get_or sums (ty * 8 + tx) []) (level_of u) nan in
    clamp_float zero64 one64
    (blend y.weight
    (blend x.weight (at y.first x.first) (at y.first x.second))
    (blend x.weight (at y.second x.first) (at y.second x.second)))

-- a row's results from its four, the tile sums, its marks and its normalised pixels; the number of columns is the row's length
unfoldable pub row_results : TilePosition → List (List Float) → List Pixel → List Float
row_results y sums row = zip_with (λ c p. result_of sums y (tile_position (tile_side (length row)) c) p) (places (length row)) row
