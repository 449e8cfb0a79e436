-- `clahe::clip::above` meets its contract: the fraction is kept. Assumes nothing.
use Rattle.std.proofs.Common.{refl}
use Rattle.clahe.proofs.clip.above.Goals as goal

pub returns : goal.returns
returns c = refl
