-- `gamma::all_thresholds` meets its contract: one test, computed over all 765 thresholds. Assumes nothing.
use Rattle.gamma.proofs.Sills.{rows_right}
use lib.Ieee.{of_bits, to_bits, mul, add, sub, neg, lt, to_unsigned}
use Rattle.gamma.specs.Thresholds.{cell_of}
use Rattle.numeric.specs.Round.{nearest_small}
use Rattle.gamma.proofs.all_thresholds.Goals as goal

pub returns : goal.returns
unfolding of_bits to_bits mul lt to_unsigned cell_of nearest_small sub add neg
returns c = rows_right _ tt
