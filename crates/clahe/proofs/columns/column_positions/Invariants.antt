-- `clahe::columns::column_positions` meets its contract. The invariant: the positions of the columns before c are written. Assumes nothing.
use Rattle.std.proofs.Common.{◌≡◌, ℕ, ◌<◌, ◌≤◌, length, get_or}
use Rattle.clahe.specs.Paint.{column_of, no_column}
use Rattle.clahe.proofs.columns.column_positions.Given as goal

abbrev pub invariant-loop-c : goal.invariant-loop-c
invariant-loop-c l =
    (l.c ≤ length l.columns) × (length l.columns ≡ length l.initial.columns) × ((j : ℕ) → j < l.c → get_or l.columns j no_column ≡ column_of (length l.initial.columns) j)
