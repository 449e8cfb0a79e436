-- `quicklook::copol::quicklook_picture_windows` meets its contract. Assumes nothing.
use mathlib.Core.Path.{sym, ap, ◌∙◌}
use Rattle.spec.specs.Answer.{read}
use Rattle.quicklook.specs.Numbers.{blanks_of, floats_of_both}
use Rattle.quicklook.proofs.Answers.{refused_two, done_two}
use Rattle.quicklook.proofs.Named.{named_call, unnamed_call}
use Rattle.quicklook.proofs.copol.quicklook_picture_windows.Goals as goal

pub returns-in_default : goal.returns-in_default
returns-in_default c = let r = refused_two blanks_of floats_of_both _ _ _ _ (unnamed_call _ _ _ _ c.try_from.ensures _ c.in_default.is) in record {
  reply = r.0;
  blank = r.1.0;
  floats = r.1.1;
}

pub returns-in_default-try_from : goal.returns-in_default-try_from
returns-in_default-try_from c =
    let r = refused_two blanks_of floats_of_both _ _ _ _
    (named_call _ _ _ _ c.try_from.ensures _ c.in-Ok.is ∙ unnamed_call _ _ _ _ c.try_from-2.ensures _ c.in_default-try_from.is) in record {
      reply = r.0;
      blank = r.1.0;
      floats = r.1.1;
    }

pub returns-in-Ok-synthetic_rgb_windows : goal.returns-in-Ok-synthetic_rgb_windows
unfolding read
returns-in-Ok-synthetic_rgb_windows c =
    let c = done_two blanks_of floats_of_both _ _ _ _ _ _
    (named_call _ _ _ _ c.try_from.ensures _ c.in-Ok.is ∙ named_call _ _ _ _ c.try_from-2.ensures _ c.in-Ok-try_from.is
    ∙ sym c.synthetic_rgb_windows.ensures ∙ ap read c.in-Ok-synthetic_rgb_windows.is)
    c.put_both.ensures in record {
      reply = c.0;
      blank = c.1.0;
      floats = c.1.1;
    }

pub returns-in-Err : goal.returns-in-Err
unfolding read
returns-in-Err c =
    let r = refused_two blanks_of floats_of_both _ _ _ _
    (named_call _ _ _ _ c.try_from.ensures _ c.in-Ok.is ∙ named_call _ _ _ _ c.try_from-2.ensures _ c.in-Ok-try_from.is
    ∙ sym c.synthetic_rgb_windows.ensures ∙ ap read c.in-Err.is) in record {
      reply = c.from.ensures ∙ r.0;
      blank = r.1.0;
      floats = r.1.1;
    }
