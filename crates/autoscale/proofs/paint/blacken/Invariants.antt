-- `autoscale::paint::blacken` meets its contract. The invariant: the values before this one are black. Assumes nothing.
use lib.ListN.{length}
use Rattle.lists.proofs.Fill.{Filled}
use Rattle.autoscale.proofs.paint.blacken.Given as goal

abbrev pub invariant-loop-value : goal.invariant-loop-value
invariant-loop-value g l = Filled (g.D.Depth.of 0) (length l.initial.out) l.out l.value-index
