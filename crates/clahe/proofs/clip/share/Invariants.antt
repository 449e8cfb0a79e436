-- `clahe::clip::share` meets its contract. The invariant: the bins before b have their share, the others are as they were. Assumes nothing.
use Rattle.std.proofs.Common.{◌+◌, ◌≤◌, cond, ltb}
use Rattle.clahe.proofs.InPlace.{Turned}
use Rattle.clahe.proofs.clip.share.Given as goal

abbrev pub invariant-loop-b : goal.invariant-loop-b
invariant-loop-b l = (l.b ≤ 256) × Turned 0 (λ k h. h + l.each + cond (ltb k l.rest) 1 0) l.initial.hist l.b l.hist
