-- `histogram::summary` meets its contract. Assumes nothing.
use mathlib.Core.Path.{◌∙◌}
use Rattle.spec.specs.Statistics.{summary}
use Rattle.histogram.proofs.summary.Goals as goal

pub returns : goal.returns
unfolding summary
returns c = c.stats_from_bins.ensures ∙ rw c.count_bins.ensures
