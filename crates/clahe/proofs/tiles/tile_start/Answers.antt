-- `clahe::tiles::tile_start` meets its contract: both factors are small, so the product fits. Assumes nothing.
use Rattle.std.proofs.Common.{ℕ, ◌*◌, ap, arith}
use Rattle.clahe.proofs.Whole.{times_most}
use Rattle.clahe.proofs.tiles.tile_start.Goals as goal

pub overflow_mul-result : goal.overflow_mul-result
overflow_mul-result c = omega (arith, times_most c.args.k c.tile_side.result 8 512 (omega arith) (omega arith))

pub returns : goal.returns
returns c = ap (λ (m : ℕ). c.args.k * m) c.tile_side.ensures
