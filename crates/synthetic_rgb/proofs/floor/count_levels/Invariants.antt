-- `synthetic_rgb::floor::count_levels` meets its contract: the counts so far, with the bytes left, make the counts of all. Assumes nothing.
use mathlib.Core.Path.{◌≡◌}
use Prim.Native.Nat.{ℕ, ◌+◌, ◌≤◌}
use lib.ListN.{length, drop, get_or}
use Rattle.spec.specs.Lists.{stored}
use Rattle.synthetic_rgb.proofs.floor.count_levels.Given as goal

abbrev pub invariant-loop-v : goal.invariant-loop-v
invariant-loop-v l =
    (l.v-index ≤ length l.band) × (length l.histogram ≡ 256) × ((k : ℕ) → get_or l.histogram k 0 ≤ 16777216 + l.v-index)
    × (stored l.initial.histogram l.band ≡ stored l.histogram (drop l.v-index l.band))
