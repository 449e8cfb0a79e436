-- `autoscale::curve::paint_blocks_by` meets its contract. The invariant: the values before `at` are those of the pixels before `at`. Assumes nothing.
use mathlib.Core.Path.{refl, sym, ap, ◌∙◌}
use Prim.Native.Nat.{◌+◌, ◌-◌}
use native.Mathlib.Omega.{arith}
use lib.ListN.{length}
use lib.Seq.{length-take-le}
use Rattle.spec.specs.Gamma.{gamma_value}
use Rattle.spec.specs.Value.{normalized, paint}
use Rattle.autoscale.proofs.Painting.{part_length, block_painted, block_last, painted-all}
use Rattle.autoscale.proofs.curve.paint_blocks_by.Goals as goal

pub loop-at-init : goal.loop-at-init
loop-at-init c = λ p q row. refl

pub paint_block_by-requires : goal.paint_block_by-requires
paint_block_by-requires c =
    let a = c.args in
    let at = c.loop-at.at in
    let end = c.block_end-end.result in
    let o = part_length at end c.loop-at.out (omega (arith, c.block_end-end.ensures)) (omega (arith, c.block_end-end.ensures)) in record {
      fact_1 = ap length c.part.ensures.0 ∙ part_length at end a.band.now.db.now (omega (arith, c.block_end-end.ensures)) (omega (arith, c.block_end-end.ensures)) ∙ sym o;
      fact_2 = omega (arith, length-take-le (end - at - 0) c.loop-at.normal (omega (arith, c.block_end-end.ensures)), o);
    }

pub loop-at-preserved : goal.loop-at-preserved
loop-at-preserved c = λ p q row.
    let w = c.args.window in
    let l = c.loop-at in
    block_painted (paint (λ v. gamma_value p q (normalized w.low w.high w.range v))) c.args.band.now.valid_mask.now c.args.band.now.db.now l.at c.block_end-end.result (l.at + 128) l.out c.paint_block_by.new.out
    (omega (arith, c.block_end-end.ensures)) (omega (arith, c.block_end-end.ensures)) (omega (arith, c.block_end-end.ensures)) (omega arith) (omega arith) c.part.ensures (c.paint_block_by.ensures p q row) (l.invariant p q row)

pub returns-2 : goal.returns-2
returns-2 c p q row =
    let w = c.args.window in
    let l = c.loop-at in
    block_last (paint (λ v. gamma_value p q (normalized w.low w.high w.range v))) c.args.band.now.valid_mask.now c.args.band.now.db.now l.at c.block_end-end.result l.out c.paint_block_by.new.out
    (omega (arith, c.block_end-end.ensures)) (omega (arith, c.block_end-end.ensures)) (omega arith) (omega arith) c.part.ensures (c.paint_block_by.ensures p q row) (l.invariant p q row)

pub returns : goal.returns
returns c p q row =
    let w = c.args.window in
    let l = c.loop-at in
    painted-all (paint (λ v. gamma_value p q (normalized w.low w.high w.range v))) c.args.band.now.valid_mask.now c.args.band.now.db.now l.out (omega arith) (omega arith) l.at (omega arith) (l.invariant p q row)
