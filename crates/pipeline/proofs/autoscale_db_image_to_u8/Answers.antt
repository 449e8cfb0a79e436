-- `pipeline::autoscale_db_image_to_u8` meets its contract: refused by number, or the greys. Assumes nothing.
use mathlib.Core.Path.{refl}
use Rattle.spec.specs.Answer.{reply_number}
use Rattle.spec.specs.Grey.{grey_tests, autoscale_db_image_to_u8}
use Rattle.lists.proofs.Replies.{when_err, passed_on, refusal-not_zero}
use Rattle.autoscale.specs.Painted.{opens}
use Rattle.raster.specs.declared.band.Raster.{Raster}
use Rattle.pipeline.proofs.Accepted.{ready_in}
use Rattle.pipeline.proofs.Greys.{greys_by, first_refused, later_refused, all_done, grey_err, grey_ok, grey-opens}
use Rattle.pipeline.proofs.autoscale_db_image_to_u8.Goals as goal

pub returns-in_err-raster : goal.returns-in_err-raster
unfolding autoscale_db_image_to_u8 grey_tests reply_number
returns-in_err-raster c =
    let a = c.args in
    let e = c.in_err-raster in
    let r = first_refused a.strategy _ _ _ _ _ (greys_by a.strategy) _ _ (when_err Raster _ _ e.ensures.reply) (refusal-not_zero _) in record {
      reply = rw (passed_on c.from_residual.result e.field-0.0 c.from_residual.ensures.1) r.0;
      greys = r.1.0;
      work = r.1.1;
    }

pub returns-in_err-window : goal.returns-in_err-window
unfolding autoscale_db_image_to_u8 grey_tests reply_number
returns-in_err-window c =
    let a = c.args in
    let raster = c.in_ok-raster in
    let e = c.in_err-window in
    let r = later_refused a.strategy _ _ _ _ _ (greys_by a.strategy) _ raster.ensures.reply _ (grey_err _ _ _ _ raster.raster raster.ensures.raster.0 _ e.ensures _ refl) in record {
      reply = rw (passed_on c.from_residual-in_err-window.result e.field-0.0 c.from_residual-in_err-window.ensures.1) r.0;
      greys = r.1.0;
      work = r.1.1;
    }

-- a blank window opens too; that it is this band's window is asked where the call returns
pub greys_u8-requires : goal.greys_u8-requires
unfolding opens
greys_u8-requires c =
    let h = c.in_ok-raster.ensures.raster in record {
      fact_1 = ready_in _ _ _ _ _ h.0.2 h.1;
      fact_2 = search (grey-opens _ _ _ _ c.in_ok-raster.raster h.0 _ c.in_ok-window.ensures _ refl);
    }

pub returns : goal.returns
unfolding autoscale_db_image_to_u8 grey_tests reply_number
returns c =
    let a = c.args in
    let raster = c.in_ok-raster in
    let h = raster.ensures.raster.0 in
    let window = grey_ok _ _ _ _ raster.raster h _ c.in_ok-window.ensures _ refl in
    let r = all_done a.strategy _ _ _ _ _ (greys_by a.strategy) _ raster.ensures.reply _ window raster.raster h _ _ c.greys_u8.ensures.out_after c.greys_u8.ensures.kept in record {
      reply = r.0;
      greys = r.1.0;
      work = r.1.1;
    }
