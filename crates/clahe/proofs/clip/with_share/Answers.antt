-- `clahe::clip::with_share` meets its contract. Assumes nothing.
use Rattle.std.proofs.Common.{arith, le-ltb, lt-ltb}
use Rattle.clahe.proofs.clip.with_share.Goals as goal

pub returns-then-b-rest : goal.returns-then-b-rest
returns-then-b-rest c = simp (lt-ltb _ _ c.if-b-rest.true)

pub returns-else-b-rest : goal.returns-else-b-rest
returns-else-b-rest c = simp (le-ltb _ _ c.if-b-rest.false) (omega arith)
