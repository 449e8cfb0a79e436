-- `synthetic_rgb::palette::Palette::colour_in` meets its contract: the tables and the cells show the colour. Assumes nothing.
use native.Mathlib.Omega.{arith}
use Rattle.synthetic_rgb.proofs.Rules.{tint_is}
use Rattle.synthetic_rgb.proofs.palette.Palette.colour_in.Goals as goal

pub returns : goal.returns
returns c =
    let a = c.args in
    let p = a.self.now.fits in
    rw (c.from-v1.ensures, c.from-v2.ensures)
    (tint_is a.self.now.kind a.v1 a.v2 (p.reds.right a.v1 (omega arith)) (p.greens.right a.v2 (omega arith)) (c.requires.right a.v1 a.v2 (omega arith) (omega arith)))
