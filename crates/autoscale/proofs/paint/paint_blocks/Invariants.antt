-- `autoscale::paint::paint_blocks` meets its contract. The invariant: the values before `at` are those of the pixels before `at`. Assumes nothing.
use mathlib.Core.Path.{◌≡◌}
use mathlib.Core.List.{map}
use Prim.Native.Nat.{◌-◌}
use lib.ListN.{length, take}
use Rattle.spec.specs.Pixels.{pixels}
use Rattle.autoscale.specs.Painted.{straight}
use Rattle.autoscale.proofs.paint.paint_blocks.Given as goal

abbrev pub invariant-loop-at : goal.invariant-loop-at
invariant-loop-at g l = take l.at l.out ≡ map (straight g.D.Depth.of g.D.Depth.depth l.window) (take l.at (pixels l.band.valid_mask.now l.band.db.now))

abbrev pub decreases-loop-at : goal.decreases-loop-at
decreases-loop-at g l = length l.initial.out - l.at
