-- `stretch::scale_u16_to_u8` meets its contract. Assumes nothing.
use native.Mathlib.Omega.{arith}
use Rattle.types.specs.Replies.{refusal_number}
use Rattle.spec.specs.Answer.{reply_number}
use Rattle.stretch.proofs.Loops.{of_levels}
use Rattle.stretch.proofs.Calls.{long_refused, unlike-refused, stretched}
use Rattle.stretch.proofs.scale_u16_to_u8.Goals as goal

pub returns-then-data-gt16777216 : goal.returns-then-data-gt16777216
unfolding reply_number refusal_number
returns-then-data-gt16777216 c =
    let a = c.args in let r = long_refused a.«data».now a.out.now (omega arith) in record {
      result_value = r.0;
      out_after = r.1;
    }

pub returns-then-out-data : goal.returns-then-out-data
unfolding reply_number refusal_number
returns-then-out-data c =
    let a = c.args in let r = unlike-refused a.«data».now a.out.now (λ e. omega arith) in record {
      result_value = r.0;
      out_after = r.1;
    }

pub returns-then-data-lt65536 : goal.returns-then-data-lt65536
unfolding reply_number refusal_number
returns-then-data-lt65536 c =
    let a = c.args in let e = c.of-ends in let r = stretched e.result.lo e.result.hi a.«data».now a.out.now _ (omega arith) (omega arith) (of_levels a.«data».now e.ensures) c.stretch_each.ensures in record {
      result_value = r.0;
      out_after = r.1;
    }

pub returns-else-data-lt65536 : goal.returns-else-data-lt65536
unfolding reply_number refusal_number
returns-else-data-lt65536 c =
    let a = c.args in let e = c.of-ends in let r = stretched e.result.lo e.result.hi a.«data».now a.out.now _ (omega arith) (omega arith) (of_levels a.«data».now e.ensures) c.stretch_by_table.ensures in record {
      result_value = r.0;
      out_after = r.1;
    }
