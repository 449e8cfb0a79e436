-- `clahe::clip::rest_of` meets its contract. Assumes nothing.
use Rattle.clahe.proofs.clip.rest_of.Goals as goal

pub returns : goal.returns
returns c = c.round_as_u64.ensures
