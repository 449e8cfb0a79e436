-- `stretch::look_up` meets its contract. The invariant: the bytes before i are the entries of the values before i. Assumes nothing.
use lib.ListN.{get_or}
use Rattle.lists.proofs.Rows.{Done}
use Rattle.stretch.proofs.look_up.Given as goal

abbrev pub invariant-loop-i : goal.invariant-loop-i
invariant-loop-i l = Done (λ x. get_or l.table x 0) 0 l.data l.out l.i
