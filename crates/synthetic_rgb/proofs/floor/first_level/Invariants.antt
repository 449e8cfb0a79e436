-- `synthetic_rgb::floor::first_level` meets its contract: the levels left, from the count so far, give the answer. Assumes nothing.
use mathlib.Core.Path.{◌≡◌}
use Prim.Native.Nat.{◌*◌, ◌≤◌}
use lib.ListN.{drop}
use Rattle.spec.specs.Colour.{first_level}
use Rattle.synthetic_rgb.proofs.floor.first_level.Given as goal

abbrev pub invariant-loop-level : goal.invariant-loop-level
invariant-loop-level l =
    (l.reached ≤ l.level * 4294967295) × (first_level l.target 0 0 l.histogram ≡ first_level l.target l.reached l.level (drop l.level l.histogram))
