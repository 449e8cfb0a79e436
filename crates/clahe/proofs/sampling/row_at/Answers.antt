-- `clahe::sampling::row_at` meets its contract: a row of tiles has 2,048 sums. Assumes nothing.
use Rattle.std.proofs.Common.{◌≡◌, ℕ, ◌<◌, List, length, ap, ◌∙◌, arith, length-take, length-drop}
use lib.Ieee.{Float}
use Rattle.clahe.specs.Work.{tiles_row}
use Rattle.clahe.proofs.sampling.row_at.Goals as goal

long : (work : List Float) (ty : ℕ) → length work ≡ 16384 → ty < 8 → length (tiles_row work ty) ≡ 2048
long work ty n h = simp (length-take, length-drop) (omega (arith, n))

pub invariant_of-result : goal.invariant_of-result
invariant_of-result c = record {
  long = (
    ap length c.tiles_row.ensures ∙ long c.args.work.now c.args.y.first c.told-work c.requires.0,
    ap length c.tiles_row-2.ensures ∙ long c.args.work.now c.args.y.second c.told-work c.requires.1,
  );
}
