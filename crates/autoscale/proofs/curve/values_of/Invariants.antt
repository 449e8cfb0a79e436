-- `autoscale::curve::values_of` meets its contract. The invariant: the values before i are those of the normalised pixels before i. Assumes nothing.
use lib.ListN.{take}
use Rattle.autoscale.specs.Painted.{CurveValues}
use Rattle.autoscale.proofs.curve.values_of.Given as goal

abbrev pub invariant-loop-i : goal.invariant-loop-i
invariant-loop-i l = CurveValues l.curve.thresholds.now (take l.i l.normal) (take l.i l.out)
