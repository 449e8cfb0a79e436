-- `runs::ranked::ranked_grey_u8` meets its contract: the call's greys, if done, are ranked. Assumes nothing.
use Rattle.runs.proofs.Runs.{ranked_u8}
use Rattle.runs.proofs.ranked.ranked_grey_u8.Goals as goal

pub returns : goal.returns
returns c = record {
  greys_u8 = λ n. ranked_u8 _ n _ _ _ _ _ _ _ _ _ c.autoscale_db_image_to_u8.ensures.reply c.autoscale_db_image_to_u8.ensures.greys;
}
