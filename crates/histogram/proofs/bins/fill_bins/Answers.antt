-- `histogram::bins::fill_bins` meets its contract. Assumes nothing.
use mathlib.Core.Path.{sym, ◌∙◌}
use Prim.Native.Nat.{◌+◌}
use native.Mathlib.Omega.{arith}
use lib.ListN.{get_or, length-set}
use Rattle.lists.proofs.Counts.{added-most}
use Rattle.spec.specs.Bins.{bin_of}
use Rattle.histogram.proofs.Filling.{filled, filled_end, filled_skip, filled_one}
use Rattle.histogram.proofs.bins.fill_bins.Goals.{then-valid_mask-i-ne0, else-valid_mask-i-ne0}
use Rattle.histogram.proofs.bins.fill_bins.Goals as goal

pub loop-i-preserved : goal.loop-i-preserved
loop-i-preserved c =
    let a = c.args in
    let f = bin_of a.min_db a.inv_span in
    let h = c.loop-i.hist in
    let i = c.loop-i.i in
    elim c.if-valid_mask-i-ne0.branch [
      | then-valid_mask-i-ne0 w ↦ rw w.hist-is (
        simp length-set (omega arith),
        λ k. omega (arith, added-most h w.bin_of.result (λ j. get_or a.hist.now j 0 + i) c.loop-i.invariant.1 k),
        c.loop-i.invariant.2 ∙ filled_one f h a.band.now.valid_mask.now a.band.now.db.now i (omega arith) (omega arith) w.if-valid_mask-i-ne0.true w.bin_of.result w.bin_of.ensures.0,
      )
      | else-valid_mask-i-ne0 w ↦ rw w.hist-is (
        omega arith,
        λ k. omega (arith, c.loop-i.invariant.1 k),
        c.loop-i.invariant.2 ∙ filled_skip f h a.band.now.valid_mask.now a.band.now.db.now i (omega arith) (omega arith) w.if-valid_mask-i-ne0.false,
      )
    ]

pub returns : goal.returns
unfolding filled
returns c =
    let a = c.args in
    sym (c.loop-i.invariant.2 ∙ filled_end (bin_of a.min_db a.inv_span) c.loop-i.hist a.band.now.valid_mask.now a.band.now.db.now c.loop-i.i (omega arith))
