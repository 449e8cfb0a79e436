-- `runs::altered::altered_histogram` meets its contract: equal answers of the call. Assumes nothing.
use Rattle.runs.proofs.Runs.{same-counts}
use Rattle.runs.proofs.altered.altered_histogram.Goals as goal

pub returns : goal.returns
returns c = record {
  counts = λ a o. same-counts _ _ _ _ _ a _ _ _ _ _ _ o (c.compute_histogram-first.ensures.result_value, c.compute_histogram-first.ensures.hist_after) (c.compute_histogram-second.ensures.result_value, c.compute_histogram-second.ensures.hist_after);
}
