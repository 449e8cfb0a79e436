-- `pipeline::strategies::is_clahe` meets its contract. Assumes nothing.
use Rattle.spec.specs.Strategies.{is_clahe}
use Rattle.pipeline.proofs.Apart.{not_clahe}
use Rattle.pipeline.proofs.strategies.is_clahe.Goals as goal

pub returns-in-Clahe : goal.returns-in-Clahe
unfolding is_clahe
returns-in-Clahe c = rw c.in-Clahe.is

pub returns-in_default : goal.returns-in_default
returns-in_default c = not_clahe c.args.strategy c.in_default.not-Clahe
