-- `clahe::paint::shades` meets its contract. The invariant: the pixels of the rows before r have their values, the others their levels. Assumes nothing.
use Rattle.std.proofs.Common.{◌*◌, ◌≤◌}
use Rattle.spec.specs.Gamma.{full_of}
use Rattle.clahe.proofs.InPlace.{Turned}
use Rattle.clahe.proofs.Painted.{painted}
use Rattle.clahe.proofs.paint.shades.Given as goal

abbrev pub invariant-loop-r : goal.invariant-loop-r
invariant-loop-r g l =
    (l.r ≤ l.raster.sides.rows) × Turned (g.D.Depth.of 0) (painted l.raster g.D.Depth.of g.D.Depth.level (full_of g.D.Depth.depth) l.work l.initial.out) l.initial.out (l.r * l.raster.sides.cols) l.out
