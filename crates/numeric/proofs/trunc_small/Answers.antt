-- `numeric::trunc_small` meets its contract: where the nearest whole number is above x, it is one more than the whole part. Assumes nothing.
use Rattle.numeric.proofs.Small.{nearly, above_x, not_above}
use Rattle.numeric.proofs.trunc_small.Goals as goal

pub overflow_sub-result : goal.overflow_sub-result
overflow_sub-result c = (above_x (nearly _ _ (c.requires.fact_1, c.requires.fact_2) c.near-nearest.ensures.0) c.near-nearest.ensures.1 c.if-nearest-x.true).0

pub returns-then-nearest-x : goal.returns-then-nearest-x
returns-then-nearest-x c = (above_x (nearly _ _ (c.requires.fact_1, c.requires.fact_2) c.near-nearest.ensures.0) c.near-nearest.ensures.1 c.if-nearest-x.true).1

pub returns-else-nearest-x : goal.returns-else-nearest-x
returns-else-nearest-x c = not_above (nearly _ _ (c.requires.fact_1, c.requires.fact_2) c.near-nearest.ensures.0) c.near-nearest.ensures.1 c.if-nearest-x.false
