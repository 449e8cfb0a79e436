-- `clahe::tiles::tile_side` meets its contract. Assumes nothing.
use Rattle.std.proofs.Common.{arith}
use Rattle.clahe.proofs.tiles.tile_side.Goals as goal

pub returns : goal.returns
returns c = omega arith
