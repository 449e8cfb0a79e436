-- `autoscale::band::band_stats` meets its contract. Assumes nothing.
use mathlib.Core.Path.{sym, ◌∙◌}
use Rattle.autoscale.proofs.Windows.{pass_count, stats-refused, stats-passed}
use Rattle.autoscale.proofs.band.band_stats.Goals as goal

pub returns-in_default : goal.returns-in_default
returns-in_default c = stats-refused _ _ (sym c.strategy_pass.ensures ∙ c.in_default.is)

pub summary-requires : goal.summary-requires
summary-requires c = pass_count _ _ _ (sym c.strategy_pass.ensures ∙ c.in-Some.is)

pub returns : goal.returns
returns c = stats-passed _ _ _ _ (sym c.strategy_pass.ensures ∙ c.in-Some.is) c.summary.ensures
