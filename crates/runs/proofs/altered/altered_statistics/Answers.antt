-- `runs::altered::altered_statistics` meets its contract: equal answers of the call. Assumes nothing.
use mathlib.Core.Path.{sym, ◌∙◌}
use Rattle.demands.proofs.Alteration.{alteration}
use Rattle.runs.proofs.Runs.{read-same}
use Rattle.runs.proofs.altered.altered_statistics.Goals as goal

pub returns : goal.returns
returns c =
    let first = c.compute_histogram_stats-first.ensures in
    let second = c.compute_histogram_stats-second.ensures in
    record {
      statistics = λ a. read-same _ _ (first ∙ alteration.statistics _ _ _ _ _ a ∙ sym second);
    }
