-- `autoscale::curve::values_of` meets its contract. The invariant: the values before i are those of the normalised pixels before i. Assumes nothing.
use mathlib.Core.Path.{refl}
use native.Mathlib.Omega.{arith}
use lib.Ieee.{nan}
use Rattle.spec.specs.Gamma.{gamma_value}
use Rattle.lists.proofs.Rows.{step, finish}
use Rattle.autoscale.proofs.curve.values_of.Goals as goal

pub loop-i-init : goal.loop-i-init
loop-i-init c = λ p q row. refl

pub loop-i-preserved : goal.loop-i-preserved
loop-i-preserved c = λ p q row.
    let l = c.loop-i in
    step (gamma_value p q) nan c.args.normal.now l.out l.i c.value.result (omega arith) (omega arith) (c.value.ensures p q row) (l.invariant p q row)

pub returns : goal.returns
returns c p q row =
    let l = c.loop-i in
    finish (gamma_value p q) nan c.args.normal.now l.out l.i (omega arith, omega arith, l.invariant p q row) (omega arith)
