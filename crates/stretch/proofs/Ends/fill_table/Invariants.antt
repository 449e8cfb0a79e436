-- `stretch::Ends::fill_table` meets its contract. The invariant: the entries before i are filled. Assumes nothing.
use mathlib.Core.Path.{◌≡◌}
use lib.ListN.{length}
use Rattle.stretch.specs.Tables.{Stretches}
use Rattle.stretch.proofs.Ends.fill_table.Given as goal

abbrev pub invariant-loop-i : goal.invariant-loop-i
invariant-loop-i g l = (length l.value-items ≡ l.n) × Stretches l.self.lo l.self.hi l.i l.value-items
