-- `colour_tables::blue_above_thresholds` meets its contract: by one test, computed over all thresholds. Assumes nothing.
use native.Mathlib.Omega.{arith}
use Rattle.colour_tables.proofs.Places.{thresholds_right}
use Rattle.colour_tables.proofs.blue_above_thresholds.Goals as goal

pub returns-clause-right : goal.returns-clause-right
returns-clause-right c = thresholds_right 918 8 66 _ (omega arith) (omega arith) tt
