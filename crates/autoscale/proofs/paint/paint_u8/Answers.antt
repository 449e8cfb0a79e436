-- `autoscale::paint::paint_u8` meets its contract. Assumes nothing.
use mathlib.Core.Path.{◌∙◌}
use native.Mathlib.Omega.{arith}
use Rattle.spec.specs.Pixels.{pixels}
use Rattle.gamma.specs.Curved.{number}
use Rattle.autoscale.proofs.Painting.{straight_painted, gamma_painted}
use Rattle.autoscale.proofs.paint.paint_u8.Goals as goal

pub returns-in-Some : goal.returns-in-Some
returns-in-Some c =
    let w = c.args.window in
    c.paint_curve_u8.ensures ∙ gamma_painted w.low w.high w.range (pixels c.args.band.now.valid_mask.now c.args.band.now.db.now) (number c.in-Some.gamma) w.gamma c.in-Some.ensures

pub returns-in-None : goal.returns-in-None
returns-in-None c =
    let w = c.args.window in
    let px = pixels c.args.band.now.valid_mask.now c.args.band.now.db.now in
    c.paint_blocks.ensures ∙ straight_painted w.low w.high w.range px 3 (omega arith) ∙ gamma_painted w.low w.high w.range px 3 w.gamma c.in-None.ensures
