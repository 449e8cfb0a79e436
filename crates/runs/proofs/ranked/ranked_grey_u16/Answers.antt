-- `runs::ranked::ranked_grey_u16` meets its contract: the call's greys, if done, are ranked. Assumes nothing.
use Rattle.runs.proofs.Runs.{ranked_u16}
use Rattle.runs.proofs.ranked.ranked_grey_u16.Goals as goal

pub returns : goal.returns
returns c = record {
  greys_u16 = λ n. ranked_u16 _ n _ _ _ _ _ _ _ _ _ c.autoscale_db_image_to_u16.ensures.reply c.autoscale_db_image_to_u16.ensures.greys;
}
