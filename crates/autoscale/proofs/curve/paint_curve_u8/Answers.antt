-- `autoscale::curve::paint_curve_u8` meets its contract. Assumes nothing.
use mathlib.Core.Path.{◌∙◌}
use Rattle.spec.specs.Gamma.{over, under}
use Rattle.spec.specs.Pixels.{pixels}
use Rattle.gamma.specs.Curved.{number}
use Rattle.gamma.proofs.Curved.{number-lt}
use Rattle.autoscale.proofs.Painting.{curve-painted}
use Rattle.autoscale.proofs.curve.paint_curve_u8.Goals as goal

pub returns : goal.returns
returns c =
    let a = c.args in
    c.paint_blocks_by.ensures (over (number a.gamma)) (under (number a.gamma)) c.new-curve.ensures
    ∙ curve-painted a.window.low a.window.high a.window.range (pixels a.band.now.valid_mask.now a.band.now.db.now) (number a.gamma) (number-lt a.gamma)
