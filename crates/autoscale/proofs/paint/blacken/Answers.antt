-- `autoscale::paint::blacken` meets its contract. The invariant: the values before this one are black. Assumes nothing.
use lib.ListN.{length}
use native.Mathlib.Omega.{arith}
use Rattle.lists.proofs.Fill.{step, finish}
use Rattle.autoscale.proofs.paint.blacken.Goals as goal

pub loop-value-preserved : goal.loop-value-preserved
loop-value-preserved g c =
    let l = c.loop-value in
    rw c.black.ensures (step (g.D.Depth.of 0) (length c.args.out.now) l.out l.value-index (omega arith) l.invariant)

pub returns : goal.returns
returns g c = finish (g.D.Depth.of 0) (length c.args.out.now) c.loop-value.out c.loop-value.value-index c.loop-value.invariant (omega arith)
