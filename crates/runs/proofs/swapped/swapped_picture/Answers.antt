-- `runs::swapped::swapped_picture` meets its contract: swapped answers of the call. Assumes nothing.
use Rattle.runs.proofs.Runs.{swapped_pictures}
use Rattle.runs.proofs.swapped.swapped_picture.Goals as goal

pub returns : goal.returns
returns c = record {
  picture = λ l1 l2 lc.
      swapped_pictures _ _ _ _ c.other_band.ensures _ _ _ _ _ _ _ _ _ _ _ _ _ _ l1 l2 lc c.synthetic_rgb_picture_copol-first.ensures.work.size _ _ _ _ _ _ _ _ _ _ _ _ _ _
      (c.synthetic_rgb_picture_copol-first.ensures.reply, c.synthetic_rgb_picture_copol-first.ensures.grey1, c.synthetic_rgb_picture_copol-first.ensures.grey2, c.synthetic_rgb_picture_copol-first.ensures.rgb) (c.synthetic_rgb_picture_copol-second.ensures.reply, c.synthetic_rgb_picture_copol-second.ensures.grey1, c.synthetic_rgb_picture_copol-second.ensures.grey2, c.synthetic_rgb_picture_copol-second.ensures.rgb);
}
