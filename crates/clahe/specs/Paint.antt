-- Values from the work list and the levels, and the positions of all columns. Definitions only.
use Rattle.std.specs.Prelude.{ℕ, zero, suc, ◌*◌, ◌/◌, ◌%◌, List, map, length, slice_index, slice_index_or, Float}
use Rattle.std.specs.Float.{nan, binary64}
use Rattle.std.specs.Float.Ieee.{mul, to_unsigned}
use Rattle.types.specs.declared.TilePosition.{TilePosition}
use Rattle.spec.specs.Floats.{zero64, one64, clamp_float}
use Rattle.spec.specs.Lists.{places}
use Rattle.spec.specs.Clahe.{tile_side, tile_position}
use Rattle.clahe.specs.declared.columns.Column.{Column}
use Rattle.clahe.specs.Work.{tiles_row, sampled}

-- the value of a level at a row's place among the tiles and a column's
unfoldable pub shade : Float → List Float → List Float → Float → Column → ℕ → ℕ
shade full top bottom weight x b = to_unsigned 64 (mul binary64 (clamp_float zero64 one64 (sampled top bottom weight x b)) full)

-- a value under its mark: an invalid pixel's is 0
unfoldable pub marked : ℕ → ℕ → ℕ
marked zero v = 0
marked (suc m) v = v

-- the column at a position
abbrev pub at_position : TilePosition → Column
at_position p = record { first = p.first * 256; second = p.second * 256; weight = p.weight }

-- the position of column c of so many
abbrev pub column_of : ℕ → ℕ → Column
column_of cols c = at_position (tile_position (tile_side cols) c)

-- the positions of all columns
unfoldable pub columns_of : ℕ → List Column
columns_of cols = map (column_of cols) (places cols)

-- what stands where there is no column
abbrev pub no_column : Column
no_column = record { first = 0; second = 0; weight = nan }

-- the value of column c of a part of a row, from the part's marks, columns and levels
abbrev pub shade_at : Float → List Float → List Float → Float → List ℕ → List Column → List ℕ → ℕ → ℕ
shade_at full top bottom weight marks columns bs c = marked (slice_index marks c) (shade full top bottom weight (slice_index_or columns c no_column) (slice_index bs c))

-- the values of such a part
unfoldable pub part_shades : Float → List Float → List Float → Float → List ℕ → List Column → List ℕ → List ℕ
part_shades full top bottom weight marks columns bs = map (shade_at full top bottom weight marks columns bs) (places (length bs))

-- the value of the pixel at place i of a picture, from its marks and levels
abbrev pub place_shade : Float → List Float → ℕ → ℕ → List ℕ → List ℕ → ℕ → ℕ
place_shade full work rows cols marks bs i =
    let y = tile_position (tile_side rows) (i / cols) in
    marked (slice_index marks i) (shade full (tiles_row work y.first) (tiles_row work y.second) y.weight (column_of cols (i % cols)) (slice_index bs i))

-- `clahe_values` from the work list and the levels
unfoldable pub shades : Float → List Float → ℕ → ℕ → List ℕ → List ℕ → List ℕ
shades full work rows cols marks bs = map (place_shade full work rows cols marks bs) (places (length bs))
