-- `vectors::tiles::equalised` meets its contract: the tiles of a position are among the eight. Assumes nothing.
use Rattle.clahe.proofs.Positions.{among_of, column_among_of}
use Rattle.vectors.proofs.tiles.equalised.Goals as goal

pub row_at-requires : goal.row_at-requires
row_at-requires c = among_of _ _ _ c.tile_position-y.ensures

pub column_at-requires : goal.column_at-requires
column_at-requires c = among_of _ _ _ c.tile_position-x.ensures

pub sample-requires : goal.sample-requires
sample-requires c = column_among_of _ _ _ _ c.tile_position-x.ensures c.column_at.ensures
