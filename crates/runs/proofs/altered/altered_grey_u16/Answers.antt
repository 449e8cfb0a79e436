-- `runs::altered::altered_grey_u16` meets its contract: equal answers of the call. Assumes nothing.
use Rattle.spec.specs.Grey.{autoscale_db_image_to_u16}
use Rattle.demands.proofs.Alteration.{alteration}
use Rattle.runs.proofs.Runs.{same_greys}
use Rattle.runs.proofs.altered.altered_grey_u16.Goals as goal

pub returns : goal.returns
returns c = record {
  greys_u16 = λ a o. same_greys (autoscale_db_image_to_u16 _ _ _ _) _ _ (λ out work. alteration.at_16_bits _ _ _ _ _ _ out work a) _ _ _ _ _ _ _ _ o c.autoscale_db_image_to_u16-first.ensures.work.size c.autoscale_db_image_to_u16-first.ensures.reply c.autoscale_db_image_to_u16-first.ensures.greys c.autoscale_db_image_to_u16-second.ensures.reply c.autoscale_db_image_to_u16-second.ensures.greys;
}
