-- `runs::altered::altered_grey_u8` meets its contract: equal answers of the call. Assumes nothing.
use Rattle.spec.specs.Grey.{autoscale_db_image_to_u8}
use Rattle.demands.proofs.Alteration.{alteration}
use Rattle.runs.proofs.Runs.{same_greys}
use Rattle.runs.proofs.altered.altered_grey_u8.Goals as goal

pub returns : goal.returns
returns c = record {
  greys_u8 = λ a o. same_greys (autoscale_db_image_to_u8 _ _ _ _) _ _ (λ out work. alteration.at_8_bits _ _ _ _ _ _ out work a) _ _ _ _ _ _ _ _ o c.autoscale_db_image_to_u8-first.ensures.work.size c.autoscale_db_image_to_u8-first.ensures.reply c.autoscale_db_image_to_u8-first.ensures.greys c.autoscale_db_image_to_u8-second.ensures.reply c.autoscale_db_image_to_u8-second.ensures.greys;
}
