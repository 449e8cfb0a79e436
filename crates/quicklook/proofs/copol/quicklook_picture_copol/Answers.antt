-- `quicklook::copol::quicklook_picture_copol` meets its contract. Assumes nothing.
use mathlib.Core.Path.{◌∙◌}
use Rattle.quicklook.proofs.Answers.{refused_lists, same_lists}
use Rattle.quicklook.proofs.Named.{named_call, unnamed_call, named_work, unchanged}
use Rattle.quicklook.proofs.copol.quicklook_picture_copol.Goals as goal

pub returns-in_default : goal.returns-in_default
returns-in_default c = let r = refused_lists _ _ _ _ _ _ _ _ _ (unnamed_call _ _ _ _ c.try_from.ensures _ c.in_default.is) (unchanged _ _) in record {
  reply = r.0;
  grey1 = r.1.0;
  grey2 = r.1.1.0;
  colours = r.1.1.1.0;
  work = r.1.1.1.1;
}

pub returns-in_default-try_from : goal.returns-in_default-try_from
returns-in_default-try_from c =
    let r = refused_lists _ _ _ _ _ _ _ _ _
    (named_call _ _ _ _ c.try_from.ensures _ c.in-Ok.is ∙ unnamed_call _ _ _ _ c.try_from-2.ensures _ c.in_default-try_from.is)
    (unchanged _ _) in record {
      reply = r.0;
      grey1 = r.1.0;
      grey2 = r.1.1.0;
      colours = r.1.1.1.0;
      work = r.1.1.1.1;
    }

pub returns-in_default-try_from-2 : goal.returns-in_default-try_from-2
returns-in_default-try_from-2 c =
    let r = refused_lists _ _ _ _ _ _ _ _ _
    (named_call _ _ _ _ c.try_from.ensures _ c.in-Ok.is ∙ named_call _ _ _ _ c.try_from-2.ensures _ c.in-Ok-try_from.is
    ∙ unnamed_call _ _ _ _ c.try_from-3.ensures _ c.in_default-try_from-2.is)
    (unchanged _ _) in record {
      reply = r.0;
      grey1 = r.1.0;
      grey2 = r.1.1.0;
      colours = r.1.1.1.0;
      work = r.1.1.1.1;
    }

pub returns : goal.returns
returns c =
    let found = c.try_from.ensures in
    let named =
    named_call _ _ _ _ found _ c.in-Ok.is ∙ named_call _ _ _ _ c.try_from-2.ensures _ c.in-Ok-try_from.is
    ∙ named_call _ _ _ _ c.try_from-3.ensures _ c.in-Ok-try_from-2.is in
    let c = same_lists _ _ _ _ _ _ _ _ _ _ _ _ _ _ _ named c.reply_number.ensures (c.synthetic_rgb_picture_copol.ensures.reply, (c.synthetic_rgb_picture_copol.ensures.grey1, (c.synthetic_rgb_picture_copol.ensures.grey2, (c.synthetic_rgb_picture_copol.ensures.rgb, c.synthetic_rgb_picture_copol.ensures.work)))) (named_work _ _ _ found _ c.in-Ok.is _ _ named _ _ c.synthetic_rgb_picture_copol.ensures.work) in record {
      reply = c.0;
      grey1 = c.1.0;
      grey2 = c.1.1.0;
      colours = c.1.1.1.0;
      work = c.1.1.1.1;
    }
