-- `autoscale::paint::paint_valid` meets its contract. The invariant: the values before i are those of the pixels before i. Assumes nothing.
use mathlib.Core.Path.{◌≡◌}
use mathlib.Core.List.{map}
use lib.ListN.{take}
use Rattle.spec.specs.Pixels.{pixels}
use Rattle.autoscale.specs.Painted.{straight}
use Rattle.autoscale.proofs.paint.paint_valid.Given as goal

abbrev pub invariant-loop-i : goal.invariant-loop-i
invariant-loop-i g l = take l.i l.out ≡ map (straight g.D.Depth.of g.D.Depth.depth l.window) (take l.i (pixels l.band.valid_mask.now l.band.db.now))
