-- `pipeline::rasters::grey_raster` meets its contract: what is accepted is ready to be painted. Assumes nothing.
use mathlib.Core.Path.{sym, ◌∙◌}
use Rattle.pipeline.proofs.Accepted.{work_length, length_held}
use Rattle.pipeline.proofs.rasters.grey_raster.Goals as goal

pub returns-clause-raster : goal.returns-clause-raster
returns-clause-raster c =
    let h = c.in_ok-raster.ensures.raster in (
      h,
      record {
        out_length = c.if-out-db.false ∙ length_held _ _ _ c.in_ok-raster.raster h;
        work_length = work_length _ _ (sym c.work_refused.ensures ∙ c.if-work_refused.false);
      },
    )
