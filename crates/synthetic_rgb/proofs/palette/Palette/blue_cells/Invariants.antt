-- `synthetic_rgb::palette::Palette::blue_cells` meets its contract: each cell before i has its blue, and within a row the place before is reached. Assumes nothing.
use mathlib.Core.Path.{◌≡◌}
use Prim.Native.Nat.{ℕ, ◌/◌, ◌%◌, ◌≤◌, ◌<◌}
use lib.ListN.{length, get_or}
use Rattle.synthetic_rgb.specs.Palette.{blue_of}
use Rattle.synthetic_rgb.proofs.Rules.{Placed}
use Rattle.synthetic_rgb.proofs.palette.Palette.blue_cells.Given as goal

abbrev pub invariant-loop-i : goal.invariant-loop-i
invariant-loop-i l =
    (l.i ≤ 65536) × (length l.cells ≡ 65536) × Placed l.self.kind l.self.tables.thresholds.now l.i l.place
    × ((k : ℕ) → k < l.i → get_or l.cells k 0 ≡ blue_of l.self.kind (k % 256) (k / 256))
