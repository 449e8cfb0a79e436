-- `ops::fill` meets its contract: whatever rule the step keeps, the values before i are those of the rule. Assumes nothing.
use lib.Ieee.{Float, nan}
use Rattle.ops.specs.Chosen.{Keeps}
use Rattle.lists.proofs.Zip.{Done}
use Rattle.ops.proofs.fill.Given as goal

abbrev pub invariant-loop-i : goal.invariant-loop-i
invariant-loop-i g l =
    goal.F-IsAlwaysCallable g l.step
    × ((rule : Float → Float → Float) → Keeps (goal.F-post g l.step) rule → Done rule nan nan l.a l.b l.out l.i)
