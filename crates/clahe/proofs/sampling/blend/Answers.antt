-- `clahe::sampling::blend` meets its contract. Assumes nothing.
use Rattle.std.proofs.Common.{refl}
use Rattle.spec.specs.Clahe.{blend}
use Rattle.clahe.proofs.sampling.blend.Goals as goal

pub returns : goal.returns
unfolding blend
returns c = refl
