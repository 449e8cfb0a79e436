-- `histogram::percentile::estimate_percentile` meets its contract. Assumes nothing.
use mathlib.Core.Path.{sym, ◌∙◌}
use native.Mathlib.Omega.{arith}
use Rattle.histogram.proofs.FindBin.{target-most, found_bin, found_rank, percentile_flat, percentile_spread}
use Rattle.histogram.proofs.percentile.estimate_percentile.Goals as goal

pub returns-then-is_flat : goal.returns-then-is_flat
returns-then-is_flat c = c.flat_percentile.ensures ∙ percentile_flat _ _ _ (sym c.is_flat.ensures ∙ c.if-is_flat.true)

pub find_bin-found-requires : goal.find_bin-found-requires
find_bin-found-requires c = omega (arith, target-most _ _ _ c.target_of-target.ensures)

pub spread_percentile-requires : goal.spread_percentile-requires
spread_percentile-requires c =
    let e = c.find_bin-found.ensures in
    (omega (arith, found_bin _ _ _ e (omega arith)), omega (arith, found_rank _ _ _ e, target-most _ _ _ c.target_of-target.ensures))

pub returns-else-is_flat : goal.returns-else-is_flat
returns-else-is_flat c =
    percentile_spread _ _ _ (sym c.is_flat.ensures ∙ c.if-is_flat.false) _ _ _ c.target_of-target.ensures c.find_bin-found.ensures c.spread_percentile.ensures
