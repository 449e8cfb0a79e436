-- `clahe::paint::part_shades` meets its contract. The invariant: the columns before c have their values, the others their levels. Assumes nothing.
use Rattle.std.proofs.Common.{◌≤◌, length}
use Rattle.spec.specs.Gamma.{full_of}
use Rattle.clahe.proofs.InPlace.{Turned}
use Rattle.clahe.proofs.Shades.{turn}
use Rattle.clahe.proofs.paint.part_shades.Given as goal

abbrev pub invariant-loop-c : goal.invariant-loop-c
invariant-loop-c g l =
    (l.c ≤ length l.initial.out)
    × Turned (g.D.Depth.of 0) (turn (full_of g.D.Depth.depth) l.row g.D.Depth.of g.D.Depth.level l.valid_mask l.columns l.initial.out) l.initial.out l.c l.out
