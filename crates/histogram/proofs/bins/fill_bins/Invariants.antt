-- `histogram::bins::fill_bins` meets its contract. Assumes nothing.
use mathlib.Core.Path.{◌≡◌}
use Prim.Native.Nat.{ℕ, ◌+◌, ◌≤◌}
use lib.ListN.{length, drop, get_or}
use Rattle.spec.specs.Bins.{bin_of}
use Rattle.spec.specs.Pixels.{pixels}
use Rattle.histogram.proofs.Filling.{filled}
use Rattle.histogram.proofs.bins.fill_bins.Given as goal

abbrev pub invariant-loop-i : goal.invariant-loop-i
invariant-loop-i l =
    (length l.hist ≡ 4096) × ((k : ℕ) → get_or l.hist k 0 ≤ get_or l.initial.hist k 0 + l.i)
    × (filled (bin_of l.min_db l.inv_span) l.initial.hist (pixels l.band.valid_mask.now l.band.db.now) ≡ filled (bin_of l.min_db l.inv_span) l.hist (drop l.i (pixels l.band.valid_mask.now l.band.db.now)))
