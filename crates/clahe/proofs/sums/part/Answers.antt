-- `clahe::sums::part` meets its contract. Assumes nothing.
use Rattle.std.proofs.Common.{arith}
use Rattle.clahe.proofs.Whole.{whole_in_float}
use Rattle.clahe.proofs.sums.part.Goals as goal

pub int_to_float-sum : goal.int_to_float-sum
int_to_float-sum c = whole_in_float c.args.sum (omega arith)
