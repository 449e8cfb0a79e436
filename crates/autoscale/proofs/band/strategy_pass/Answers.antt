-- `autoscale::band::strategy_pass` meets its contract. Assumes nothing.
use mathlib.Core.Path.{sym, ◌∙◌}
use Rattle.autoscale.proofs.band.strategy_pass.Goals as goal

pub returns-then-reads_mean : goal.returns-then-reads_mean
returns-then-reads_mean c = rw (sym c.reads_mean.ensures ∙ c.if-reads_mean.true) c.first_pass.ensures

pub returns-else-reads_mean : goal.returns-else-reads_mean
returns-else-reads_mean c = rw (sym c.reads_mean.ensures ∙ c.if-reads_mean.false) c.extremes.ensures
