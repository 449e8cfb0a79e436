-- `autoscale::paint::paint_some` meets its contract. The invariant: the values before i are those of the pixels before i, and `place` is valid. Assumes nothing.
use Prim.Native.Nat.{◌<◌}
use lib.ListN.{length, get_or, take}
use Rattle.spec.specs.Pixels.{pixels}
use Rattle.autoscale.specs.Painted.{PaintedBy}
use Rattle.autoscale.proofs.paint.paint_some.Given as goal

abbrev pub invariant-loop-i : goal.invariant-loop-i
invariant-loop-i g l =
    PaintedBy g.D.Depth.of (goal.F-post g l.value) (take l.i (pixels l.band.valid_mask.now l.band.db.now)) (take l.i l.out) × ((l.place < length l.band.valid_mask.now) × (0 < get_or l.band.valid_mask.now l.place 0))
