-- `colour_tables::ColourTables::plain` meets its contract: for each table one test, computed over the whole of it. Assumes nothing.
use Prim.Native.Nat.{ℕ, ◌*◌, ◌^◌}
use native.Mathlib.Omega.{arith}
use Rattle.spec.specs.Colour.{red, green}
use Rattle.colour_tables.proofs.Near.{table_right}
use Rattle.colour_tables.proofs.Places.{thresholds_right}
use Rattle.colour_tables.proofs.ColourTables.plain.Goals as goal

pub returns-clause-red : goal.returns-clause-red
unfolding red
returns-clause-red c = table_right 10 (255 ^ 7) (λ (v : ℕ). 510 ^ 10 * v ^ 7) _ tt

pub returns-clause-green : goal.returns-clause-green
unfolding green
returns-clause-green c = table_right 10 (255 ^ 9) (λ (v : ℕ). 510 ^ 10 * v ^ 9) _ tt

pub returns-clause-blue : goal.returns-clause-blue
returns-clause-blue c = thresholds_right 1224 0 108 _ (omega arith) (omega arith) tt
