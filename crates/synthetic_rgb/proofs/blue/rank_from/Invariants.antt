-- `synthetic_rgb::blue::rank_from` meets its contract: the place so far is reached, and the next is tested. Assumes nothing.
use Rattle.synthetic_rgb.specs.Palette.{Reached}
use Rattle.synthetic_rgb.proofs.blue.rank_from.Given as goal

abbrev pub invariant-loop-k : goal.invariant-loop-k
invariant-loop-k l = Reached l.thresholds l.r l.g l.k
