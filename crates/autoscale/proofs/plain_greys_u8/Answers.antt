-- `autoscale::plain_greys_u8` meets its contract. Assumes nothing.
use mathlib.Core.Path.{◌≡◌, sym, ap, ◌∙◌}
use borrow.Author.Rules.{rules}
use lib.ListN.{length, replicate}
use Rattle.spec.specs.Pixels.{pixels}
use Rattle.raster.proofs.Bands.{pixels-length}
use Rattle.spec.specs.Gamma.{U8}
use Rattle.spec.specs.Stretch.{stretch}
use Rattle.stretch.proofs.Loops.{of_levels}
use Rattle.stretch.proofs.Calls.{stretch_by}
use Rattle.autoscale.proofs.Painted.{plain-window, left_stretched}
use Rattle.autoscale.proofs.plain_greys_u8.Goals as goal

pub returns-in_default : goal.returns-in_default
returns-in_default c =
    let a = c.args in
    let m = a.band.now.valid_mask.now in
    let d = a.band.now.db.now in
    let blank : c.fill.new.self ≡ replicate (length a.out.now) 0 = search rules in
    blank ∙ left_stretched U8 a.window (pixels m d) (length a.out.now) c.in_default.not-Some (pixels-length m d a.band.now.alike ∙ c.requires.fact_1)

pub returns : goal.returns
returns c =
    let plain = plain-window c.args.window c.in-Some.window c.in-Some.is U8 (pixels c.args.band.now.valid_mask.now c.args.band.now.db.now) in
    let e = of_levels _ c.of.ensures in
    stretch_by _ _ _ _ e.0 e.1 c.stretch_bytes.ensures ∙ ap stretch (c.paint_u8.ensures ∙ sym plain)
