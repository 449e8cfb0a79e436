-- `autoscale::plain_values_u16` meets its contract. Assumes nothing.
use mathlib.Core.Path.{◌≡◌, sym, ◌∙◌}
use borrow.Author.Rules.{rules}
use lib.ListN.{length, replicate}
use Rattle.spec.specs.Pixels.{pixels}
use Rattle.raster.proofs.Bands.{pixels-length}
use Rattle.spec.specs.Gamma.{U16}
use Rattle.autoscale.proofs.Painted.{plain-window_16, left_plain}
use Rattle.autoscale.proofs.plain_values_u16.Goals as goal

pub returns-in_default : goal.returns-in_default
returns-in_default c =
    let a = c.args in
    let m = a.band.now.valid_mask.now in
    let d = a.band.now.db.now in
    let blank : c.fill.new.self ≡ replicate (length a.out.now) 0 = search rules in
    blank ∙ left_plain U16 a.window (pixels m d) (length a.out.now) c.in_default.not-Some (pixels-length m d a.band.now.alike ∙ c.requires.fact_1)

pub returns : goal.returns
returns c =
    c.paint_blocks.ensures ∙ sym (plain-window_16 c.args.window c.in-Some.straight_window c.in-Some.is (pixels c.args.band.now.valid_mask.now c.args.band.now.db.now))
