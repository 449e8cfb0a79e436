-- `numeric::round_small` meets its contract: where x reaches the nearest whole number and a half, it rounds to the next one. Assumes nothing.
use Rattle.std.proofs.Common.{arith}
use Rattle.numeric.proofs.Small.{nearly, few, reached, short}
use Rattle.numeric.proofs.round_small.Goals as goal

pub overflow_add-result : goal.overflow_add-result
overflow_add-result c = record { fits = omega (arith, few (nearly _ _ (c.requires.fact_1, c.requires.fact_2) c.near-nearest.ensures.0) c.near-nearest.ensures.1) }

pub returns-else-nearest-x : goal.returns-else-nearest-x
returns-else-nearest-x c = short (nearly _ _ (c.requires.fact_1, c.requires.fact_2) c.near-nearest.ensures.0) c.near-nearest.ensures.1 c.if-nearest-x.false

pub returns-then-nearest-x : goal.returns-then-nearest-x
returns-then-nearest-x c = reached (nearly _ _ (c.requires.fact_1, c.requires.fact_2) c.near-nearest.ensures.0) c.near-nearest.ensures.1 c.if-nearest-x.true
