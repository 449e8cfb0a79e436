-- `stretch::Ends::stretch_each` meets its contract. The invariant: the bytes before i are those of the values before i. Assumes nothing.
use Rattle.spec.specs.Stretch.{stretch_byte}
use Rattle.lists.proofs.Rows.{Done}
use Rattle.stretch.proofs.Ends.stretch_each.Given as goal

abbrev pub invariant-loop-i : goal.invariant-loop-i
invariant-loop-i l = Done (stretch_byte l.self.lo l.self.hi) 0 l.data l.out l.i
