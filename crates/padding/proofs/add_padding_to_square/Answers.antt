-- `padding::add_padding_to_square` meets its contract: refused by number, or the rows in a square of zeros. Assumes nothing.
use native.Mathlib.Omega.{arith}
use Rattle.spec.specs.Answer.{reply_number}
use Rattle.spec.specs.Padding.{add_padding_to_square}
use Rattle.lists.proofs.Replies.{when_refused, when_done, passed_on, refusal-above}
use Rattle.padding.proofs.add_padding_to_square.Goals as goal

pub returns-in_err-refusal : goal.returns-in_err-refusal
unfolding add_padding_to_square reply_number
returns-in_err-refusal g c =
    let e = c.in_err-refusal in
    let r = when_refused _ _ _ _ _ e.ensures (refusal-above _) in record {
      reply = rw (passed_on c.from_residual.result e.field-0.0 c.from_residual.ensures.1) r.0;
      square = r.1;
    }

pub returns : goal.returns
unfolding add_padding_to_square reply_number
returns g c =
    let r = when_done _ _ _ _ _ _ c.in_ok-refusal.ensures (omega arith) c.place_rows.ensures in record {
      reply = r.0;
      square = r.1;
    }
