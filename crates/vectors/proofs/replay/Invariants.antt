-- `vectors::replay` is safe: it counts no more records than turns. Assumes nothing.
use Rattle.std.proofs.Common.{◌≤◌}
use Rattle.vectors.proofs.replay.Given as goal

abbrev pub invariant-loop : goal.invariant-loop
invariant-loop l = (l.records ≤ l.counter) × (l.differ ≤ l.records)
