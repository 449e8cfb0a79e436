-- `clahe::clip::clip_bins` meets its contract. The invariant: the bins before b are clipped, the others as they were. Assumes nothing.
use Rattle.std.proofs.Common.{◌≤◌}
use Rattle.spec.specs.Clahe.{clipped}
use Rattle.clahe.proofs.InPlace.{Turned}
use Rattle.clahe.proofs.clip.clip_bins.Given as goal

abbrev pub invariant-loop-h : goal.invariant-loop-h
invariant-loop-h l = (l.h-index ≤ 256) × Turned 0 (λ k h. clipped l.limit h) l.initial.hist l.h-index l.hist
