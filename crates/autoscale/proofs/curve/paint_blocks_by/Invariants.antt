-- `autoscale::curve::paint_blocks_by` meets its contract. The invariant: the values before `at` are those of the pixels before `at`. Assumes nothing.
use Prim.Native.Nat.{◌-◌}
use lib.ListN.{length, take}
use Rattle.spec.specs.Pixels.{pixels}
use Rattle.autoscale.specs.Painted.{CurvePainted}
use Rattle.autoscale.proofs.curve.paint_blocks_by.Given as goal

abbrev pub invariant-loop-at : goal.invariant-loop-at
invariant-loop-at l = CurvePainted l.curve.thresholds.now l.window (take l.at (pixels l.band.valid_mask.now l.band.db.now)) (take l.at l.out)

abbrev pub decreases-loop-at : goal.decreases-loop-at
decreases-loop-at l = length l.initial.out - l.at
