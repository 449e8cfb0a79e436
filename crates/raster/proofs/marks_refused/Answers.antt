-- `raster::marks_refused` meets its contract. Assumes nothing.
use mathlib.Core.Path.{ap, ◌∙◌}
use lib.Dec.{ltb}
use Rattle.spec.specs.Refusals.{marks_refused}
use Rattle.raster.proofs.Passes.{any-highest}
use Rattle.raster.proofs.marks_refused.Goals as goal

pub returns : goal.returns
unfolding marks_refused
returns c = ap (ltb 1) c.greatest_mark.ensures ∙ any-highest 1 0 c.args.valid_mask.now
