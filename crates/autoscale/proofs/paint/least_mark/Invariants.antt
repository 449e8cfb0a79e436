-- `autoscale::paint::least_mark` meets its contract. The invariant: the least of what is left, from the one so far, is the whole list's. Assumes nothing.
use mathlib.Core.Path.{◌≡◌}
use lib.ListN.{drop}
use Rattle.spec.specs.Lists.{lowest}
use Rattle.autoscale.proofs.paint.least_mark.Given as goal

abbrev pub invariant-loop-mark : goal.invariant-loop-mark
invariant-loop-mark l = lowest l.least (drop l.mark-index l.valid_mask) ≡ lowest 255 l.valid_mask
