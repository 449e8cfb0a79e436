-- `runs::swapped::other_band` meets its contract. Assumes nothing.
use Rattle.demands.specs.Copol.{other_band}
use Rattle.runs.proofs.swapped.other_band.Goals as goal

pub returns-in-Band1 : goal.returns-in-Band1
unfolding other_band
returns-in-Band1 c = rw c.in-Band1.is

pub returns-in-Band2 : goal.returns-in-Band2
unfolding other_band
returns-in-Band2 c = rw c.in-Band2.is
