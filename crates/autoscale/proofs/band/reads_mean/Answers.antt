-- `autoscale::band::reads_mean` meets its contract. Assumes nothing.
use mathlib.Core.Path.{sym, ap}
use Rattle.autoscale.specs.Bands.{reads_mean}
use Rattle.autoscale.proofs.Unread.{not_adaptive}
use Rattle.autoscale.proofs.band.reads_mean.Goals as goal

pub returns-in-Adaptive : goal.returns-in-Adaptive
unfolding reads_mean
returns-in-Adaptive c = sym (ap reads_mean c.in-Adaptive.is)

pub returns-in_default : goal.returns-in_default
returns-in_default c = not_adaptive c.args.strategy c.in_default.not-Adaptive
