-- `clahe::clip::with_excess` meets its contract. Assumes nothing.
use Rattle.std.proofs.Common.{ap}
use lib.Ieee.{binary64, add}
use Rattle.clahe.proofs.clip.with_excess.Goals as goal

pub returns-then-size-limit : goal.returns-then-size-limit
returns-then-size-limit c =
    let e = c.from-size.ensures in
    let t = rw e at c.if-size-limit.true in
    simp t (ap (add binary64 c.args.sum) (rw e at c.above.ensures))

pub returns-else-size-limit : goal.returns-else-size-limit
returns-else-size-limit c =
    let t = rw c.from-size.ensures at c.if-size-limit.false in
    simp t
