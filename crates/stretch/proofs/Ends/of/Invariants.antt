-- `stretch::Ends::of` meets its contract. The invariant: the ends of what is left, from those so far, are the whole list's. Assumes nothing.
use mathlib.Core.Path.{◌≡◌}
use mathlib.Core.List.{map}
use Prim.Native.Nat.{◌≤◌}
use lib.ListN.{length, drop}
use Rattle.spec.specs.Lists.{lowest, highest}
use Rattle.stretch.proofs.Ends.of.Given as goal

abbrev pub invariant-loop-value : goal.invariant-loop-value
invariant-loop-value g l =
    let xs = map g.T.Level.level l.values in
    (l.value-index ≤ length l.values) × (lowest l.lo (drop l.value-index xs) ≡ lowest 65535 xs) × (highest l.hi (drop l.value-index xs) ≡ highest 0 xs)
