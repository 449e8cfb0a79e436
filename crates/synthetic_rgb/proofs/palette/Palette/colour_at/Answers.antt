-- `synthetic_rgb::palette::Palette::colour_at` meets its contract: red and green by their tables, blue by its place. Assumes nothing.
use native.Mathlib.Omega.{arith}
use Rattle.synthetic_rgb.proofs.Rules.{colour_is}
use Rattle.synthetic_rgb.proofs.palette.Palette.colour_at.Goals as goal

pub returns : goal.returns
returns c =
    let a = c.args in
    let p = a.self.now in
    let e1 = c.from.ensures in
    let e2 = c.from-2.ensures in
    rw (e1, e2)
    (colour_is p.kind p.tables.red.now p.tables.green.now p.tables.thresholds.now a.v1 a.v2 c.place_from-place.result c.blue_at-b.result (omega arith) (omega arith) p.fits (rw (e1, e2) at c.place_from-place.ensures) c.blue_at-b.ensures)
