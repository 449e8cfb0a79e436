-- `runs::altered::altered_windows` meets its contract: equal answers of the call. Assumes nothing.
use mathlib.Core.Path.{sym, ◌∙◌}
use Rattle.demands.proofs.Alteration.{alteration}
use Rattle.runs.proofs.Runs.{read-same}
use Rattle.runs.proofs.altered.altered_windows.Goals as goal

pub returns : goal.returns
returns c =
    let first = c.synthetic_rgb_windows-first.ensures in
    let second = c.synthetic_rgb_windows-second.ensures in
    record {
      windows = λ a b. read-same _ _ (first ∙ alteration.windows _ _ _ _ _ _ _ _ _ _ a b ∙ sym second);
    }
