-- `clahe::clip::each_of` meets its contract. Assumes nothing.
use Rattle.clahe.proofs.clip.each_of.Goals as goal

pub returns : goal.returns
returns c = c.as_u64.ensures.value
