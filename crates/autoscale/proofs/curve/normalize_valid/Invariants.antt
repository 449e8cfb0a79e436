-- `autoscale::curve::normalize_valid` meets its contract. The invariant: what stands before i are the dB before i, normalised. Assumes nothing.
use lib.Ieee.{nan}
use Rattle.spec.specs.Value.{normalized}
use Rattle.lists.proofs.Rows.{Done}
use Rattle.autoscale.proofs.curve.normalize_valid.Given as goal

abbrev pub invariant-loop-i : goal.invariant-loop-i
invariant-loop-i l = Done (normalized l.window.low l.window.high l.window.range) nan l.band.db.now l.normal l.i
