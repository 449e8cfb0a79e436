-- The 64 tiles' running sums in one flat list of 16,384 floats. Definitions only.
use Rattle.std.specs.Prelude.{◌≡◌, ℕ, ◌+◌, ◌*◌, ◌<◌, ◌≤◌, List, [], take, drop, slice_index_or, Float}
use Rattle.std.specs.Float.{nan}
use Rattle.types.specs.declared.TilePosition.{TilePosition}
use Rattle.spec.specs.Clahe.{sum_at, blend}
use Rattle.clahe.specs.declared.columns.Column.{Column}

-- the sums of a row of tiles, 2,048
abbrev pub tiles_row : List Float → ℕ → List Float
tiles_row work ty = take 2048 (drop (ty * 2048) work)

-- the sum at bin b of the tile whose sums begin at a place of such a row
abbrev pub sum_in : List Float → ℕ → ℕ → Float
sum_in tiles at b = slice_index_or tiles (at + b) nan

-- the work list holds the running sums of these tables
pub record Holds (tables : List (List ℕ)) (work : List Float) : Type 0 where
  pub at : (k b : ℕ) → k < 64 → b < 256 → slice_index_or work (k * 256 + b) nan ≡ sum_at (slice_index_or tables k []) b

-- `sample` from the two rows of tiles around a row, and the weight of the second
unfoldable pub sampled : List Float → List Float → Float → Column → ℕ → Float
sampled top bottom weight x b =
    blend weight
    (blend x.weight (sum_in top x.first b) (sum_in top x.second b))
    (blend x.weight (sum_in bottom x.first b) (sum_in bottom x.second b))

-- both tiles of a position are among the eight
abbrev pub Among : TilePosition → Type 0
Among p = (p.first < 8) × (p.second < 8)

-- the sums of both tiles of a column begin in a row of tiles, and end there
abbrev pub ColumnAmong : Column → Type 0
ColumnAmong x = (x.first ≤ 1792) × (x.second ≤ 1792)
