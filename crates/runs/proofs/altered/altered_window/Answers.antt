-- `runs::altered::altered_window` meets its contract: equal answers of the call. Assumes nothing.
use mathlib.Core.Path.{sym, ◌∙◌}
use Rattle.demands.proofs.Alteration.{alteration}
use Rattle.runs.proofs.Runs.{read-window-same}
use Rattle.runs.proofs.altered.altered_window.Goals as goal

pub returns : goal.returns
returns c =
    let first = c.autoscale_window-first.ensures in
    let second = c.autoscale_window-second.ensures in
    record {
      window = λ a. read-window-same _ _ (first ∙ alteration.window _ _ _ _ _ _ a ∙ sym second);
    }
