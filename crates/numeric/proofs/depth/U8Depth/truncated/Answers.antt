-- `numeric::depth::U8Depth::truncated` meets its contract: what is at most 255.0 is truncated to at most 255. Assumes nothing.
use Rattle.std.proofs.Common.{◌≤◌, arith}
use lib.Ieee.{to_unsigned, of_bits, le}
use Rattle.spec.specs.Value.{full8, full16}
use Rattle.numeric.proofs.Order.{le_trans as le_trans'}
use Rattle.numeric.proofs.Picks.{to_unsigned-le}
use Rattle.numeric.proofs.depth.U8Depth.truncated.Goals as goal

pub trunc_small-requires-clause-fact_2 : goal.trunc_small-requires-clause-fact_2
unfolding le of_bits
trunc_small-requires-clause-fact_2 c = le_trans' c.args.x full8 full16 c.requires.fact_2 tt

most : (x : _) → to_unsigned 64 x ≤ to_unsigned 64 full8 → to_unsigned 64 x ≤ 255
unfolding to_unsigned of_bits
most x h = h

pub overflow_cast-result : goal.overflow_cast-result
overflow_cast-result c = omega (arith, c.trunc_small.ensures, most c.args.x (to_unsigned-le 64 c.args.x full8 c.requires.fact_2))
