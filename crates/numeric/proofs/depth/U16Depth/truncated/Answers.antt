-- `numeric::depth::U16Depth::truncated` meets its contract: what is at most 65535.0 is truncated to at most 65535. Assumes nothing.
use Rattle.std.proofs.Common.{◌≤◌, arith}
use lib.Ieee.{to_unsigned, of_bits}
use Rattle.spec.specs.Value.{full16}
use Rattle.numeric.proofs.Picks.{to_unsigned-le}
use Rattle.numeric.proofs.depth.U16Depth.truncated.Goals as goal

most : (x : _) → to_unsigned 64 x ≤ to_unsigned 64 full16 → to_unsigned 64 x ≤ 65535
unfolding to_unsigned of_bits
most x h = h

pub overflow_cast-result : goal.overflow_cast-result
overflow_cast-result c = omega (arith, c.trunc_small.ensures, most c.args.x (to_unsigned-le 64 c.args.x full16 c.requires.fact_2))
