-- `clahe::sampling::tile_position` meets its contract: the two tiles are the smaller of k and 7, and of k + 1 and 7. Assumes nothing.
use Rattle.std.proofs.Common.{arith}
use Rattle.clahe.proofs.Positions.{position_of}
use Rattle.clahe.proofs.Whole.{whole_in_float}
use Rattle.clahe.proofs.sampling.tile_position.Goals as goal

pub int_to_float-position : goal.int_to_float-position
int_to_float-position c = whole_in_float c.args.i (omega arith)

pub int_to_float-position-2 : goal.int_to_float-position-2
int_to_float-position-2 c = whole_in_float c.args.side (omega arith)

pub returns : goal.returns
returns c =
    let a = c.args in
    position_of a.side a.i c.as_u64-k.result _ _ _ _ c.as_u64-k.ensures.value (omega arith) (omega arith) c.nearest_u64_to_f64.ensures c.past.ensures
