-- `runs::altered::altered_picture` meets its contract: equal answers of the call. Assumes nothing.
use Rattle.runs.proofs.Runs.{altered_pictures}
use Rattle.runs.proofs.altered.altered_picture.Goals as goal

pub returns : goal.returns
returns c = record {
  picture = λ a b e1 e2 ec.
      altered_pictures _ _ _ _ _ _ _ _ _ a b _ _ _ _ _ _ _ _ e1 e2 ec c.synthetic_rgb_picture_copol-first.ensures.work.size _ _ _ _ _ _ _ _
      (c.synthetic_rgb_picture_copol-first.ensures.reply, c.synthetic_rgb_picture_copol-first.ensures.grey1, c.synthetic_rgb_picture_copol-first.ensures.grey2, c.synthetic_rgb_picture_copol-first.ensures.rgb) (c.synthetic_rgb_picture_copol-second.ensures.reply, c.synthetic_rgb_picture_copol-second.ensures.grey1, c.synthetic_rgb_picture_copol-second.ensures.grey2, c.synthetic_rgb_picture_copol-second.ensures.rgb);
}
