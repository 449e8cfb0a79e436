-- `clahe::sums::write_tables` meets its contract. The invariant: the sums of the tiles before k are written, and the levels of their pixels. Assumes nothing.
use Rattle.std.proofs.Common.{◌≡◌, ℕ, ◌+◌, ◌*◌, ◌<◌, ◌≤◌, length, get_or}
use lib.Ieee.{nan}
use Rattle.spec.specs.Clahe.{sum_at, tile_table}
use Rattle.clahe.specs.Band.{normal_pixels}
use Rattle.clahe.proofs.Filled.{Before}
use Rattle.clahe.proofs.sums.write_tables.Given as goal

abbrev pub invariant-loop-k : goal.invariant-loop-k
invariant-loop-k g l =
    (l.k ≤ 64) × (length l.work ≡ 16384)
    × ((j b : ℕ) → j < l.k → b < 256 → get_or l.work (j * 256 + b) nan ≡ sum_at (tile_table l.raster.sides.rows l.raster.sides.cols (normal_pixels l.window l.raster.band) j) b)
    × Before l.raster.sides.rows l.raster.sides.cols g.D.Depth.of (normal_pixels l.window l.raster.band) l.k l.out
