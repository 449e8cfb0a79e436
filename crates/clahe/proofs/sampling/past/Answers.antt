-- `clahe::sampling::past` meets its contract: the weight keeps its sign. Assumes nothing.
use Rattle.std.proofs.Common.{refl}
use Rattle.clahe.proofs.sampling.past.Goals as goal

pub returns : goal.returns
returns c = refl
