-- `pipeline::strategies::is_tamed` meets its contract. Assumes nothing.
use Rattle.spec.specs.Strategies.{is_tamed}
use Rattle.pipeline.proofs.Apart.{not_tamed}
use Rattle.pipeline.proofs.strategies.is_tamed.Goals as goal

pub returns-in-Tamed : goal.returns-in-Tamed
unfolding is_tamed
returns-in-Tamed c = rw c.in-Tamed.is

pub returns-in_default : goal.returns-in_default
returns-in_default c = not_tamed c.args.strategy c.in_default.not-Tamed
