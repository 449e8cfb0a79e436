-- `histogram::pass::gather_valid` meets its contract. Assumes nothing.
use Rattle.histogram.proofs.Passes.{Along}
use Rattle.histogram.proofs.pass.gather_valid.Given as goal

abbrev pub invariant-loop-i : goal.invariant-loop-i
invariant-loop-i g l = Along (goal.F-pre g l.step) (goal.F-post g l.step) l.fn.start l.band.valid_mask.now l.band.db.now l.gathered l.i
