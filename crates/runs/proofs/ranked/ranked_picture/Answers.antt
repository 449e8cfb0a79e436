-- `runs::ranked::ranked_picture` meets its contract: the call's greys, if done, are ranked. Assumes nothing.
use Rattle.runs.proofs.Runs.{ranked_picture}
use Rattle.runs.proofs.ranked.ranked_picture.Goals as goal

pub returns : goal.returns
returns c = record {
  picture = λ n. ranked_picture _ n _ _ _ _ _ _ _ _ _ _ _ _ _ _ (c.synthetic_rgb_picture_copol.ensures.reply, c.synthetic_rgb_picture_copol.ensures.grey1, c.synthetic_rgb_picture_copol.ensures.grey2, c.synthetic_rgb_picture_copol.ensures.rgb);
}
