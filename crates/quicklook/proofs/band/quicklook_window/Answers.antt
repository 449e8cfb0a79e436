-- `quicklook::band::quicklook_window` meets its contract. Assumes nothing.
use Rattle.quicklook.proofs.Answers.{refused_numbers, same_numbers}
use Rattle.quicklook.proofs.Named.{named_call, unnamed_call}
use Rattle.quicklook.proofs.band.quicklook_window.Goals as goal

pub returns-in_default : goal.returns-in_default
returns-in_default c = let r = refused_numbers _ _ _ _ _ _ (unnamed_call _ _ _ _ c.try_from.ensures _ c.in_default.is) in record {
  reply = r.0;
  blank = r.1.0;
  floats = r.1.1;
}

pub returns : goal.returns
returns c =
    let r = same_numbers _ _ _ _ _ _ _ _ _ (named_call _ _ _ _ c.try_from.ensures _ c.in-Ok.is) (c.put_window.ensures.reply, (c.put_window.ensures.blank, c.put_window.ensures.floats)) in record {
      reply = r.0;
      blank = r.1.0;
      floats = r.1.1;
    }
