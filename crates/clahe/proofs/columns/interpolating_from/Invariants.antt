-- `clahe::columns::interpolating_from` meets its contract. The invariant: from `from` on no column before c has another weight, and the one before it has. Assumes nothing.
use Rattle.std.proofs.Common.{◌≡◌, ℕ, ◌+◌, ◌<◌, ◌≤◌, false, ◌&&◌, length, get_or}
use lib.Ieee.{le}
use Rattle.spec.specs.Floats.{zero64, one64}
use Rattle.clahe.specs.Within.{InUnit}
use Rattle.clahe.specs.Paint.{no_column}
use Rattle.clahe.proofs.columns.interpolating_from.Given as goal

abbrev pub invariant-loop-c : goal.invariant-loop-c
invariant-loop-c l = (l.from ≤ l.c) × (l.c ≤ length l.columns) × ((j : ℕ) → j < l.c → l.from ≤ j → InUnit (get_or l.columns j no_column).weight)
    × ((j : ℕ) → j + 1 ≡ l.from → (le zero64 (get_or l.columns j no_column).weight && le (get_or l.columns j no_column).weight one64) ≡ false)
