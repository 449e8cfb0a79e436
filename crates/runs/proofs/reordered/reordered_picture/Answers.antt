-- `runs::reordered::reordered_picture` meets its contract: moved answers of the call. That decibels fit binary64 is what a lent `&[f64]` tells.
use Rattle.runs.proofs.Runs.{reordered_pictures}
use Rattle.runs.proofs.reordered.reordered_picture.Goals as goal

pub returns : goal.returns
returns c = record {
  picture = λ n ps b1 b2 l1 l2 lc.
      reordered_pictures _ n _ _ _ _ _ _ _ _ _ _ (λ i h. c.type_inv.db1 i) (λ i h. c.type_inv.db2 i) ps b1 b2
      _ _ _ _ _ _ _ _ l1 l2 lc c.synthetic_rgb_picture_copol-first.ensures.work.size _ _ _ _ _ _ _ _ _ _ _ _ _ _
      (c.synthetic_rgb_picture_copol-first.ensures.reply, c.synthetic_rgb_picture_copol-first.ensures.grey1, c.synthetic_rgb_picture_copol-first.ensures.grey2, c.synthetic_rgb_picture_copol-first.ensures.rgb) (c.synthetic_rgb_picture_copol-second.ensures.reply, c.synthetic_rgb_picture_copol-second.ensures.grey1, c.synthetic_rgb_picture_copol-second.ensures.grey2, c.synthetic_rgb_picture_copol-second.ensures.rgb);
}
