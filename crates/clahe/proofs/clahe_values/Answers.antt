-- `clahe::clahe_values` meets its contract: the work list holds the tables, so that the values from it are `clahe_values`. Assumes nothing.
use Rattle.std.proofs.Common.{ap, ◌∙◌, arith}
use Rattle.std.proofs.lemmas.List.{length-take-le}
use Rattle.spec.specs.Gamma.{full_of}
use Rattle.clahe.specs.Band.{normal_pixels}
use Rattle.clahe.specs.Paint.{columns_of}
use Rattle.clahe.proofs.Within.{units_held}
use Rattle.clahe.proofs.Painted.{levels_kept, shades_are}
use Rattle.clahe.proofs.clahe_values.Goals as goal

pub shades-requires : goal.shades-requires
shades-requires g c = record {
  columns = c.column_positions.ensures ∙ ap columns_of (length-take-le _ _ (omega (arith, c.args.raster.now.small)));
  units = units_held _ _ c.write_tables.ensures.sums;
  sized = omega (arith, c.write_tables.auto.out, c.requires.1);
}

pub returns : goal.returns
returns g c =
    let s = c.args.raster.now in
    let px = normal_pixels c.args.window s.band in
    let kept = levels_kept g.D.Depth.of g.D.Depth.level g.met.D.Depth.level_law px c.write_tables.ensures.levels in
    cc (c.shades.ensures, shades_are (full_of g.D.Depth.depth) s.sides.rows s.sides.cols c.args.window s.band _ _ c.write_tables.ensures.sums kept)
