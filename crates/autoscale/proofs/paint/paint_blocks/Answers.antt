-- `autoscale::paint::paint_blocks` meets its contract. The invariant: the values before `at` are those of the pixels before `at`. Assumes nothing.
use mathlib.Core.Path.{sym, ap, ◌∙◌}
use Prim.Native.Nat.{◌+◌}
use native.Mathlib.Omega.{arith}
use lib.ListN.{length}
use Rattle.autoscale.specs.Painted.{straight}
use Rattle.autoscale.proofs.Painting.{part_length, block_painted, block_last, painted-all}
use Rattle.autoscale.proofs.paint.paint_blocks.Goals as goal

pub paint_block-requires : goal.paint_block-requires
paint_block-requires g c =
    let a = c.args in
    let at = c.loop-at.at in
    let end = c.block_end-end.result in
    let o = part_length at end c.loop-at.out (omega (arith, c.block_end-end.ensures)) (omega (arith, c.block_end-end.ensures)) in
    ap length c.part.ensures.0 ∙ part_length at end a.band.now.db.now (omega (arith, c.block_end-end.ensures)) (omega (arith, c.block_end-end.ensures)) ∙ sym o

pub loop-at-preserved : goal.loop-at-preserved
loop-at-preserved g c =
    let l = c.loop-at in
    let a = c.args in
    block_painted (straight g.D.Depth.of g.D.Depth.depth a.window) a.band.now.valid_mask.now a.band.now.db.now l.at c.block_end-end.result (l.at + 128) l.out c.paint_block.new.out
    (omega (arith, c.block_end-end.ensures)) (omega (arith, c.block_end-end.ensures)) (omega (arith, c.block_end-end.ensures)) (omega arith) (omega arith) c.part.ensures c.paint_block.ensures l.invariant

pub returns-2 : goal.returns-2
returns-2 g c =
    let l = c.loop-at in
    let a = c.args in
    block_last (straight g.D.Depth.of g.D.Depth.depth a.window) a.band.now.valid_mask.now a.band.now.db.now l.at c.block_end-end.result l.out c.paint_block.new.out
    (omega (arith, c.block_end-end.ensures)) (omega (arith, c.block_end-end.ensures)) (omega arith) (omega arith) c.part.ensures c.paint_block.ensures l.invariant

pub returns : goal.returns
returns g c =
    let a = c.args in
    painted-all (straight g.D.Depth.of g.D.Depth.depth a.window) a.band.now.valid_mask.now a.band.now.db.now c.loop-at.out (omega arith) (omega arith) c.loop-at.at (omega arith) c.loop-at.invariant
