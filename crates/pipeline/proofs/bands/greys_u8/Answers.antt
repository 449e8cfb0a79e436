-- `pipeline::bands::greys_u8` meets its contract: by Clahe, or outside it. Assumes nothing.
use mathlib.Core.Path.{sym, ap, ◌∙◌}
use Rattle.std.proofs.lemmas.List.{map-id}
use Rattle.spec.specs.Stretch.{stretch}
use Rattle.spec.specs.Gamma.{U8}
use Rattle.raster.specs.Bands.{pixels_of}
use Rattle.autoscale.specs.Painted.{opens, plain_values}
use Rattle.autoscale.proofs.Painted.{values_outside}
use Rattle.pipeline.proofs.Greys.{values-none, values_tiles}
use Rattle.pipeline.proofs.bands.greys_u8.Goals as goal
use Rattle.pipeline.proofs.bands.greys_u8.Goals.{in_default-via-in-Some+else-is_clahe, in_default-via-in_default}

pub clahe_values-requires : goal.clahe_values-requires
clahe_values-requires c = (c.requires.fact_1.work_length (sym c.is_clahe.ensures ∙ c.if-is_clahe.true), c.requires.fact_1.out_length)

pub returns-in-Some-clause-out_after : goal.returns-in-Some-clause-out_after
returns-in-Some-clause-out_after c =
    let a = c.args in
    let sides = a.raster.now.sides in
    let tiles = c.clahe_values.ensures ∙ map-id _ ∙ values_tiles U8 a.strategy sides.rows sides.cols (pixels_of a.raster.now.band) a.window c.in-Some.window c.in-Some.is (sym c.is_clahe.ensures ∙ c.if-is_clahe.true) in
    c.scale_bytes.ensures ∙ ap stretch tiles

pub plain_greys_u8-requires : goal.plain_greys_u8-requires
unfolding opens
plain_greys_u8-requires c = record {
  fact_1 = c.args.raster.now.sized ∙ sym c.requires.fact_1.out_length;
  fact_2 = elim c.in_default.branch [ in_default-via-in-Some+else-is_clahe w ↦ rw (w.window-is ∙ sym w.in-Some.is) c.requires.fact_2 | in_default-via-in_default w ↦ rw w.window-is c.requires.fact_2 ];
}

pub returns-in_default-clause-out_after : goal.returns-in_default-clause-out_after
returns-in_default-clause-out_after c =
    let a = c.args in
    let sides = a.raster.now.sides in
    let px = pixels_of a.raster.now.band in
    c.plain_greys_u8.ensures ∙ elim c.in_default.branch [
      | in_default-via-in-Some+else-is_clahe w ↦
          ap (λ v. stretch (plain_values U8 px v)) (w.window-is ∙ sym w.in-Some.is)
          ∙ sym (ap stretch (values_outside U8 a.strategy sides.rows sides.cols px a.window (sym w.is_clahe.ensures ∙ w.if-is_clahe.false)))
      | in_default-via-in_default w ↦
          ap (λ v. stretch (plain_values U8 px v)) w.window-is
          ∙ ap stretch (values-none U8 a.strategy sides.rows sides.cols px a.window w.in_default.not-Some)
    ]
