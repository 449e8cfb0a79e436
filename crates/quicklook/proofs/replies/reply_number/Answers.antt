-- `quicklook::replies::reply_number` meets its contract. Assumes nothing.
use Rattle.spec.specs.Answer.{reply_number}
use Rattle.quicklook.proofs.replies.reply_number.Goals as goal

pub returns-in-Ok : goal.returns-in-Ok
unfolding reply_number
returns-in-Ok c = rw c.in-Ok.is

pub returns-in-Err : goal.returns-in-Err
unfolding reply_number
returns-in-Err c = rw c.in-Err.is c.from.ensures
