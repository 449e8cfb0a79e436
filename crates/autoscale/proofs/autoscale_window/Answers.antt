-- `autoscale::autoscale_window` meets its contract. Assumes nothing.
use mathlib.Core.Path.{sym, ap, ◌∙◌}
use Rattle.spec.specs.Answer.{refused}
use Rattle.spec.specs.Window.{read_window, read_opened}
use Rattle.autoscale.proofs.Windows.{read_answered}
use Rattle.autoscale.proofs.autoscale_window.Goals as goal

pub returns-in-Ok : goal.returns-in-Ok
unfolding read_opened
returns-in-Ok c = ap read_window c.of.ensures ∙ read_answered _ ∙ sym (ap read_opened c.in-Ok.is) ∙ c.accepted_window.ensures

pub returns-in-Err : goal.returns-in-Err
unfolding read_window read_opened
returns-in-Err c = ap refused c.from.ensures ∙ sym (ap read_opened c.in-Err.is) ∙ c.accepted_window.ensures
