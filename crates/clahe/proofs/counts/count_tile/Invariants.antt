-- `clahe::counts::count_tile` meets its contract. The invariant: the rows that are left, added to the counts so far, give the whole tile; the levels of the
-- rows before r are in their places. Assumes nothing.
use Rattle.std.proofs.Common.{◌≡◌, ◌*◌, ◌≤◌}
use Rattle.spec.specs.Lists.{stored}
use Rattle.spec.specs.Clahe.{tile_pixels}
use Rattle.clahe.specs.Band.{normal_pixels, levels}
use Rattle.clahe.proofs.Rows.{Most}
use Rattle.clahe.proofs.Tiling.{Rest, row_of}
use Rattle.clahe.proofs.Filled.{Filled}
use Rattle.clahe.proofs.counts.count_tile.Given as goal

abbrev pub invariant-loop-r : goal.invariant-loop-r
invariant-loop-r g l =
    (l.r ≤ l.height) × Most (l.r * 4096) l.hist
    × (stored l.initial.hist (levels (tile_pixels l.raster.sides.rows l.raster.sides.cols (normal_pixels l.window l.raster.band) l.ty l.tx))
    ≡ Rest (row_of l.raster.sides.cols (normal_pixels l.window l.raster.band) l.left l.width) l.top l.height l.hist l.r)
    × Filled l.raster.sides.rows l.raster.sides.cols l.ty l.tx g.D.Depth.of (normal_pixels l.window l.raster.band) l.initial.out l.r l.out
