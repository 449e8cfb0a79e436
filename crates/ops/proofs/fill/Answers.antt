-- `ops::fill` meets its contract: whatever rule the step keeps, the values before i are those of the rule. Assumes nothing.
use mathlib.Core.Path.{refl}
use mathlib.Core.List.{zip_with}
use native.Mathlib.Omega.{arith}
use lib.Ieee.{nan}
use Rattle.lists.proofs.Zip.{step, finish}
use Rattle.ops.proofs.fill.Goals as goal

pub loop-i-init : goal.loop-i-init
unfolding zip_with
loop-i-init g c = (c.requires.callable, λ rule keeps. (omega arith, c.requires.sized.0, refl))

pub loop-i-preserved : goal.loop-i-preserved
loop-i-preserved g c = (
  c.requires.callable,
  λ rule keeps. step _ nan nan _ _ _ _ _ c.requires.sized.1 (omega arith) (keeps _ _ _ c.step.ensures) (c.loop-i.invariant.1 rule keeps),
)

pub returns : goal.returns
returns g c = λ rule keeps. finish _ nan nan _ _ _ _ c.requires.sized.1 (c.loop-i.invariant.1 rule keeps) (omega arith)
