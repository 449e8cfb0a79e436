-- `autoscale::curve::paint_block_by` meets its contract. Assumes nothing.
use mathlib.Core.Path.{◌≡◌, sym, ◌∙◌}
use native.Mathlib.Omega.{arith}
use borrow.Author.Rules.{rules}
use lib.ListN.{length, replicate}
use Rattle.spec.specs.Gamma.{gamma_value}
use Rattle.spec.specs.Value.{normalized}
use Rattle.autoscale.proofs.Painting.{lowest-under, first-valid, none-valid, paint-none}
use Rattle.autoscale.proofs.curve.paint_block_by.Goals as goal

pub paint_valid_by-requires-clause-fact_3 : goal.paint_valid_by-requires-clause-fact_3
paint_valid_by-requires-clause-fact_3 c = λ k h. omega (arith, c.least_mark.ensures, c.if-least_mark-ne0.true, lowest-under 255 c.args.band.now.valid_mask.now k h)

pub paint_some-requires-clause-fact_2 : goal.paint_some-requires-clause-fact_2
paint_some-requires-clause-fact_2 c =
    let some = first-valid c.args.band.now.valid_mask.now c.in-Some.first (sym c.first_valid.ensures ∙ c.in-Some.is) in
    (omega (arith, some.0), some.1)

pub returns-in-Some : goal.returns-in-Some
returns-in-Some c p q row =
    let w = c.args.window in
    c.paint_some.ensures (λ v. gamma_value p q (normalized w.low w.high w.range v)) (λ v r h. search rules)

pub returns-in_default : goal.returns-in_default
returns-in_default c p q row =
    let w = c.args.window in
    let black : c.fill.new.self ≡ replicate (length c.args.out.now) 0 = search rules in
    black
    ∙ paint-none (λ n. n) (λ v. gamma_value p q (normalized w.low w.high w.range v)) c.args.band.now.valid_mask.now c.args.band.now.db.now (length c.args.out.now) (omega arith) (omega arith)
    (none-valid c.args.band.now.valid_mask.now (sym c.first_valid.ensures ∙ c.in_default.is))
