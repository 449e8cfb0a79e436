-- `clahe::paint::shades` meets its contract. The invariant: the pixels of the rows before r have their values, the others their levels. Assumes nothing.
use Rattle.std.proofs.Common.{ℕ, ◌*◌, ◌≡◌, ap, sym, ◌∙◌, arith}
use Rattle.spec.specs.Gamma.{full_of}
use Rattle.clahe.proofs.Positions.{among_of}
use Rattle.clahe.proofs.Within.{row_units}
use Rattle.clahe.proofs.Parts.{part_length}
use Rattle.clahe.proofs.Painted.{row_fits, columns_many, columns_among, before_next, before_all}
use Rattle.clahe.proofs.paint.shades.Goals as goal

pub row_at-row-requires : goal.row_at-row-requires
row_at-row-requires g c = among_of _ _ _ c.tile_position.ensures

pub unheld_from-from-requires : goal.unheld_from-from-requires
unheld_from-from-requires g c = omega (arith, c.interpolating_from-inner.ensures.end, columns_many c.args.raster.now c.args.columns.now c.requires.columns)

pub row_shades-requires-clause-sized : goal.row_shades-requires-clause-sized
row_shades-requires-clause-sized g c =
    let a = c.args in
    let s = a.raster.now in
    let at = c.loop-r.r * s.sides.cols in
    let fits = row_fits s c.loop-r.r c.loop-r-test.true in
    let h = part_length at s.sides.cols c.loop-r.out (omega (arith, fits, c.requires.sized, c.loop-r.invariant.1.size)) in
    let k = part_length at s.sides.cols s.band.valid_mask.now (omega (arith, fits)) in
    (k ∙ sym h, omega (arith, h, columns_many s a.columns.now c.requires.columns), omega (arith, h, c.unheld_from-from.ensures.end))

pub row_shades-requires-clause-among : goal.row_shades-requires-clause-among
row_shades-requires-clause-among g c = columns_among c.args.raster.now c.args.columns.now c.requires.columns

pub row_shades-requires-clause-within : goal.row_shades-requires-clause-within
row_shades-requires-clause-within g c =
    let p = among_of _ _ _ c.tile_position.ensures in
    let many = columns_many c.args.raster.now c.args.columns.now c.requires.columns in
    λ c' l h.
    let u = c.unheld_from-from.ensures.within (omega (arith, many)) in
    (row_units c.row_at-row.result c.args.work.now c.tile_position.result c.row_at-row.ensures p c.requires.units, u.0, c.interpolating_from-inner.ensures.within c' (omega (arith, u.1)) h)

pub loop-r-preserved : goal.loop-r-preserved
loop-r-preserved g c =
    let a = c.args in (
      omega arith,
      before_next a.raster.now g.D.Depth.of g.D.Depth.level (full_of g.D.Depth.depth) a.work.now a.out.now c.requires.sized c.loop-r.r _ c.loop-r-test.true (omega arith) c.loop-r.out c.loop-r.invariant.1
          c.tile_side-side.result _ c.tile_side-side.ensures c.tile_position.ensures c.row_at-row.result c.row_at-row.ensures a.columns.now c.requires.columns _ c.row_shades.ensures,
    )

pub returns : goal.returns
returns g c =
    let a = c.args in
    let e : c.loop-r.r ≡ a.raster.now.sides.rows = omega arith in
    before_all a.raster.now g.D.Depth.of g.D.Depth.level (full_of g.D.Depth.depth) a.work.now a.out.now c.requires.sized (c.loop-r.r * a.raster.now.sides.cols) c.loop-r.out (ap (λ (n : ℕ). n * a.raster.now.sides.cols) e) c.loop-r.invariant.1
