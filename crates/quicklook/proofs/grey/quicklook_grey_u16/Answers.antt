-- `quicklook::grey::quicklook_grey_u16` meets its contract. Assumes nothing.
use Rattle.quicklook.proofs.Answers.{refused_list, same_list, beside}
use Rattle.quicklook.proofs.Named.{named_call, unnamed_call, named_work, unchanged}
use Rattle.quicklook.proofs.grey.quicklook_grey_u16.Goals as goal

pub returns-in_default : goal.returns-in_default
returns-in_default c = let r = beside (refused_list _ _ _ _ (unnamed_call _ _ _ _ c.try_from.ensures _ c.in_default.is)) (unchanged _ _) in record {
  reply = r.0;
  greys = r.1.0;
  work = r.1.1;
}

pub returns : goal.returns
returns c =
    let found = c.try_from.ensures in
    let r = beside
    (same_list _ _ _ _ _ _ _ (named_call _ _ _ _ found _ c.in-Ok.is) c.reply_number.ensures c.autoscale_db_image_to_u16-reply.ensures.reply c.autoscale_db_image_to_u16-reply.ensures.greys)
    (named_work _ _ _ found _ c.in-Ok.is _ _ (named_call _ _ _ _ found _ c.in-Ok.is) _ _ c.autoscale_db_image_to_u16-reply.ensures.work) in record {
      reply = r.0;
      greys = r.1.0;
      work = r.1.1;
    }
