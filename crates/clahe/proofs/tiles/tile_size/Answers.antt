-- `clahe::tiles::tile_size` meets its contract: the lesser of a side and of what is left. Assumes nothing.
use Rattle.std.proofs.Common.{arith}
use Rattle.spec.specs.Clahe.{tile_size, tile_side}
use Rattle.lists.proofs.Places.{next_times}
use Rattle.clahe.proofs.tiles.tile_size.Goals as goal

pub returns : goal.returns
unfolding tile_size
returns c = let a = c.args in omega (arith, next_times a.k (tile_side a.s))
