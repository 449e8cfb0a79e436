-- `gamma::cell_of` meets its contract. Assumes nothing.
use mathlib.Core.Path.{subst}
use Prim.Native.Nat.{ℕ, ◌<◌}
use Rattle.gamma.specs.Thresholds.{cell_of}
use Rattle.gamma.proofs.Cells.{cell_small, cell_lt}
use Rattle.gamma.proofs.cell_of.Goals as goal

pub nearest_small-requires : goal.nearest_small-requires
nearest_small-requires c = record { fact_1 = rw c.clamp_f64.ensures ((cell_small _).0); fact_2 = rw c.clamp_f64.ensures ((cell_small _).1) }

pub returns : goal.returns
unfolding cell_of
returns c = record {
  fact_1 = cc;
  fact_2 = subst (λ (n : ℕ). n < 1024) (cc) (cell_lt c.args.t);
}
