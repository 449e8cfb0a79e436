-- `pipeline::synthetic_rgb_picture` meets its contract: the call that is told the co-pol band, told band 1. Assumes nothing.
use Rattle.pipeline.proofs.synthetic_rgb_picture.Goals as goal

pub returns : goal.returns
returns c = record {
  reply = c.synthetic_rgb_picture_copol.ensures.reply;
  grey1 = c.synthetic_rgb_picture_copol.ensures.grey1;
  grey2 = c.synthetic_rgb_picture_copol.ensures.grey2;
  rgb = c.synthetic_rgb_picture_copol.ensures.rgb;
  work = c.synthetic_rgb_picture_copol.ensures.work;
}
