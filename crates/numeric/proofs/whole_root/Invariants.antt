-- `numeric::whole_root` meets its contract: each turn gives one digit more, and 54 give the root. Assumes nothing.
use Rattle.numeric.proofs.Root.{Under}
use Rattle.numeric.proofs.whole_root.Given as goal

abbrev pub invariant-loop : goal.invariant-loop
invariant-loop l = Under l.digits l.s.root l.s.rest l.s.digits l.counter
