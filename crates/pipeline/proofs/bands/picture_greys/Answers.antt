-- `pipeline::bands::picture_greys` meets its contract. Assumes nothing.
use mathlib.Core.Path.{refl, sym, ◌∙◌}
use Rattle.raster.specs.Bands.{pixels_of}
use Rattle.autoscale.specs.Painted.{opens}
use Rattle.pipeline.proofs.Pictures.{greys_tamed, greys_stretched}
use Rattle.pipeline.proofs.bands.picture_greys.Goals as goal

pub autoscale_db_image_tamed_synrgb_u8-requires : goal.autoscale_db_image_tamed_synrgb_u8-requires
unfolding opens
autoscale_db_image_tamed_synrgb_u8-requires c = record {
  fact_1 = c.args.raster.now.sized ∙ sym c.requires.fact_1.out_length;
  fact_2 = search c.requires.fact_2;
}

pub returns-then-is_tamed : goal.returns-then-is_tamed
returns-then-is_tamed c =
    let a = c.args in
    let sides = a.raster.now.sides in record {
      out_after = c.autoscale_db_image_tamed_synrgb_u8.ensures
          ∙ greys_tamed a.strategy sides.rows sides.cols (pixels_of a.raster.now.band) a.window (sym c.is_tamed.ensures ∙ c.if-is_tamed.true);
      kept = record { size = refl; same = λ _. refl };
    }

pub returns : goal.returns
returns c =
    let a = c.args in
    let sides = a.raster.now.sides in record {
      out_after = c.greys_u8.ensures.out_after
          ∙ greys_stretched a.strategy sides.rows sides.cols (pixels_of a.raster.now.band) a.window (sym c.is_tamed.ensures ∙ c.if-is_tamed.false);
      kept = c.greys_u8.ensures.kept;
    }
