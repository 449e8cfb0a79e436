-- `clahe::counts::count_row` meets its contract. The invariant: the levels of the columns before c are kept; those of the other columns, added to the
-- counts so far, give the whole. Assumes nothing.
use Rattle.std.proofs.Common.{◌≡◌, ℕ, ◌+◌, ◌≤◌, length, get_or}
use Rattle.spec.specs.Lists.{stored}
use Rattle.clahe.specs.Band.{normal_pixels, levels}
use Rattle.clahe.proofs.Levels.{Left, Kept}
use Rattle.clahe.proofs.counts.count_row.Given as goal

abbrev pub invariant-loop-c : goal.invariant-loop-c
invariant-loop-c g l =
    (l.c ≤ length l.band.db.now) × (length l.out ≡ length l.band.db.now)
    × ((k : ℕ) → get_or l.hist k 0 ≤ 16777216 + l.c)
    × (stored l.initial.hist (levels (normal_pixels l.window l.band)) ≡ Left l.window l.band l.c l.hist)
    × Kept l.window l.band g.D.Depth.of l.c l.out
