-- `autoscale::paint::paint_block` meets its contract. Assumes nothing.
use mathlib.Core.Path.{sym, ◌∙◌}
use native.Mathlib.Omega.{arith}
use borrow.Author.Rules.{rules}
use lib.ListN.{length}
use Rattle.spec.specs.Gamma.{full_of}
use Rattle.spec.specs.Value.{value_of}
use Rattle.autoscale.proofs.Painting.{lowest-under, first-valid, none-valid, paint-none}
use Rattle.autoscale.proofs.paint.paint_block.Goals as goal

pub paint_valid-requires-clause-fact_2 : goal.paint_valid-requires-clause-fact_2
paint_valid-requires-clause-fact_2 g c = λ k h. omega (arith, c.least_mark.ensures, c.if-least_mark-ne0.true, lowest-under 255 c.args.band.now.valid_mask.now k h)

pub paint_some-requires-clause-fact_2 : goal.paint_some-requires-clause-fact_2
paint_some-requires-clause-fact_2 g c =
    let some = first-valid c.args.band.now.valid_mask.now c.in-Some.first (sym c.first_valid.ensures ∙ c.in-Some.is) in
    (omega (arith, some.0), some.1)

pub returns-in-Some : goal.returns-in-Some
returns-in-Some g c =
    let w = c.args.window in
    c.paint_some.ensures (value_of (full_of g.D.Depth.depth) w.low w.high w.range) (λ v r h. search rules)

pub returns-in_default : goal.returns-in_default
returns-in_default g c =
    let a = c.args in
    c.blacken.ensures
    ∙ paint-none g.D.Depth.of (value_of (full_of g.D.Depth.depth) a.window.low a.window.high a.window.range) a.band.now.valid_mask.now a.band.now.db.now (length a.out.now) (omega arith) (omega arith)
    (none-valid a.band.now.valid_mask.now (sym c.first_valid.ensures ∙ c.in_default.is))
