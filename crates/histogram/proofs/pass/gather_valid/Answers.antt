-- `histogram::pass::gather_valid` meets its contract. Assumes nothing.
use Rattle.std.proofs.Common.{rules}
use Rattle.histogram.proofs.Passes.{begin, finish, skip, may_call, bad, take}
use Rattle.histogram.proofs.pass.gather_valid.Goals.{then-valid_mask-i-ne0+else-decibel_refused, else-valid_mask-i-ne0}
use Rattle.histogram.proofs.pass.gather_valid.Goals as goal

pub loop-i-init : goal.loop-i-init
loop-i-init g c = begin c.requires

pub returns-then-decibel_refused : goal.returns-then-decibel_refused
returns-then-decibel_refused g c =
    bad c.loop-i.invariant c.args.band.now.alike c.loop-i-test.true c.if-valid_mask-i-ne0.true c.decibel_refused.ensures c.if-decibel_refused.true

pub step-gathered-requires : goal.step-gathered-requires
step-gathered-requires g c =
    let may = may_call c.loop-i.invariant c.args.band.now.alike c.loop-i-test.true c.if-valid_mask-i-ne0.true in
    search rules

pub loop-i-preserved : goal.loop-i-preserved
loop-i-preserved g c =
    elim c.if-valid_mask-i-ne0.branch [
      | then-valid_mask-i-ne0+else-decibel_refused w ↦
          rw w.gathered-is (take c.loop-i.invariant c.args.band.now.alike c.loop-i-test.true w.if-valid_mask-i-ne0.true w.decibel_refused.ensures w.if-decibel_refused.false w.step-gathered.ensures)
      | else-valid_mask-i-ne0 w ↦ rw w.gathered-is (skip c.loop-i.invariant c.args.band.now.alike c.loop-i-test.true w.if-valid_mask-i-ne0.false)
    ]

pub returns : goal.returns
returns g c = finish c.loop-i.invariant c.loop-i-test.false
