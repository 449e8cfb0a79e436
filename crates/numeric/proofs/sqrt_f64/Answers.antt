-- `numeric::sqrt_f64` meets its contract: of a NaN, and below zero, the root is the NaN. Assumes nothing.
use lib.Ieee.{div, of_bits}
use Rattle.numeric.proofs.Rooted.{other_root}
use Rattle.numeric.proofs.sqrt_f64.Goals as goal

pub returns : goal.returns
unfolding div of_bits
returns c = other_root c.args.x c.if-x.false c.if-x-2.false
