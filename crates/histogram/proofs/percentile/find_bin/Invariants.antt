-- `histogram::percentile::find_bin` meets its contract. Assumes nothing.
use mathlib.Core.Path.{◌≡◌}
use Prim.Native.Nat.{◌-◌, ◌≤◌, ◌<◌}
use lib.ListN.{drop}
use Rattle.spec.specs.Percentile.{find_bin}
use Rattle.histogram.proofs.percentile.find_bin.Given as goal

abbrev pub invariant-loop-size : goal.invariant-loop-size
invariant-loop-size l = (l.bin < 4096) × (l.before ≤ l.target) × (find_bin l.target 0 0 l.hist ≡ find_bin l.target l.before l.bin (drop l.bin l.hist))

abbrev pub decreases-loop-size : goal.decreases-loop-size
decreases-loop-size l = 4096 - l.bin
