-- `gamma::guesses_of` meets its contract. The invariant: the guesses before the cell are right, and `below` is nearly the next. Assumes nothing.
use mathlib.Core.Path.{◌≡◌}
use Prim.Native.Nat.{ℕ, ◌≤◌, ◌<◌}
use lib.ListN.{length, get_or}
use Rattle.gamma.specs.Thresholds.{Guess, Nearly}
use Rattle.gamma.proofs.guesses_of.Given as goal

abbrev pub invariant-loop-cell : goal.invariant-loop-cell
invariant-loop-cell l =
    (l.cell ≤ 1024) × (length l.guess-items ≡ 1024) × Nearly l.thresholds l.cell l.below × ((k : ℕ) → k < l.cell → Guess l.thresholds k (get_or l.guess-items k 0))
