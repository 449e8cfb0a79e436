-- `autoscale::curve::curve_value` meets its contract. Assumes nothing.
use mathlib.Core.Path.{ap, ◌∙◌}
use Rattle.spec.specs.Gamma.{gamma_value}
use Rattle.autoscale.proofs.curve.curve_value.Goals as goal

pub returns : goal.returns
returns c p q row = c.value.ensures p q row ∙ ap (gamma_value p q) c.normalized-t.ensures
