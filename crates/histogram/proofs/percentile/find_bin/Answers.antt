-- `histogram::percentile::find_bin` meets its contract. Assumes nothing.
use mathlib.Core.Path.{refl, sym, ◌∙◌}
use native.Mathlib.Omega.{arith}
use Rattle.histogram.proofs.FindBin.{find_bin-here, find_bin-last, find_bin_next}
use Rattle.histogram.proofs.percentile.find_bin.Goals as goal

pub loop-size-init : goal.loop-size-init
loop-size-init c = (omega arith, omega arith, refl)

pub loop-size-preserved : goal.loop-size-preserved
loop-size-preserved c =
    let a = c.args in
    rw c.from.ensures (
      omega arith,
      omega (arith, c.from.ensures, c.if-target-next.false),
      c.loop-size.invariant.2 ∙ find_bin_next a.target c.loop-size.before a.hist.now c.loop-size.bin (omega arith) (omega arith) (omega (arith, c.from.ensures, c.if-target-next.false)),
    )

pub returns-then-target-next : goal.returns-then-target-next
returns-then-target-next c =
    let a = c.args in
    sym (c.loop-size.invariant.2 ∙ find_bin-here a.target c.loop-size.before a.hist.now c.loop-size.bin (omega arith) (omega (arith, c.from.ensures, c.if-target-next.true)))

pub returns-then-bin-eq4095 : goal.returns-then-bin-eq4095
returns-then-bin-eq4095 c =
    let a = c.args in
    sym (c.loop-size.invariant.2 ∙ find_bin-last a.target c.loop-size.before a.hist.now c.loop-size.bin (omega arith) (omega arith))
