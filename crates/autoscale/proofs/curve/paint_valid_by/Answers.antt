-- `autoscale::curve::paint_valid_by` meets its contract. Assumes nothing.
use mathlib.Core.Path.{ap, ◌∙◌}
use mathlib.Core.List.{map}
use lib.ListN.{length, length-map}
use Rattle.spec.specs.Gamma.{gamma_value}
use Rattle.spec.specs.Value.{normalized}
use Rattle.autoscale.proofs.Painting.{paint_all}
use Rattle.autoscale.proofs.curve.paint_valid_by.Goals as goal

pub values_of-requires : goal.values_of-requires
values_of-requires c =
    let a = c.args in
    ap length c.normalize_valid.ensures ∙ length-map a.band.now.db.now (normalized a.window.low a.window.high a.window.range) ∙ c.requires.fact_1

pub returns : goal.returns
returns c p q row =
    let a = c.args in
    c.values_of.ensures p q row ∙ ap (map (gamma_value p q)) c.normalize_valid.ensures
    ∙ paint_all (normalized a.window.low a.window.high a.window.range) (gamma_value p q) a.band.now.valid_mask.now a.band.now.db.now a.band.now.alike c.requires.fact_3
