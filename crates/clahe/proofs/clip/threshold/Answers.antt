-- `clahe::clip::threshold` meets its contract. Assumes nothing.
use Rattle.std.proofs.Common.{arith}
use Rattle.spec.specs.Clahe.{threshold}
use Rattle.clahe.proofs.Whole.{whole_in_float}
use Rattle.clahe.proofs.clip.threshold.Goals as goal

pub int_to_float-area : goal.int_to_float-area
int_to_float-area c = whole_in_float c.args.area (omega arith)

pub returns : goal.returns
unfolding threshold
returns c = c.max_f64.ensures
