-- `clahe::counts::count_tile` meets its contract. The invariant: the rows that are left, added to the counts so far, give the whole tile; the levels of the
-- rows before r are in their places. Assumes nothing.
use Rattle.std.proofs.Common.{rules, ℕ, ◌+◌, ◌*◌, ◌≤◌, List, map, length, get_or, take, drop, sym, ap, ◌∙◌, subst, arith}
use Rattle.spec.specs.Lists.{stored}
use Rattle.spec.specs.Pixels.{Pixel}
use Rattle.spec.specs.Clahe.{tile_size}
use Rattle.clahe.specs.Band.{normal_pixels, levels, level_at}
use Rattle.clahe.proofs.Tiling.{Rest, row_of, row_most, rest_next, rest_end, tile_start_of, tile_narrow, tile_counts_lem, row_within}
use Rattle.clahe.proofs.Levels.{pixels_length}
use Rattle.clahe.proofs.Filled.{here, row_levels, filled_none, filled_next, filled_all}
use Rattle.clahe.proofs.Parts.{part_length, band_length, part_pixels}
use Rattle.clahe.proofs.counts.count_tile.Goals as goal

pub returns-then-width-eq0-clause-counts : goal.returns-then-width-eq0-clause-counts
returns-then-width-eq0-clause-counts g c =
    let a = c.args in
    let s = a.raster.now in
    let px = normal_pixels a.window s.band in
    sym (tile_narrow s.sides.rows s.sides.cols px a.ty a.tx a.hist.now _ _ _ _ c.tile_start-top.ensures c.tile_size-height.ensures
    c.tile_start-left.ensures c.tile_size-width.ensures c.if-width-eq0.true)
    ∙ tile_counts_lem s.sides.rows s.sides.cols px a.ty a.tx a.hist.now (omega arith) c.requires.empty

pub returns-then-width-eq0-clause-levels : goal.returns-then-width-eq0-clause-levels
returns-then-width-eq0-clause-levels g c =
    let a = c.args in
    let s = a.raster.now in
    let px = normal_pixels a.window s.band in
    let of = g.D.Depth.of in
    filled_all s.sides.rows s.sides.cols a.ty a.tx of px a.out.now c.requires.tile.1 0 a.out.now c.requires.sized (filled_none s.sides.rows s.sides.cols a.ty a.tx of px a.out.now c.requires.tile.1)
    (λ i h e. let p = here s.sides.rows s.sides.cols a.ty a.tx c.requires.tile.1 i h e in absurd (omega (arith, p, c.tile_size-width.ensures, c.if-width-eq0.true)))

pub loop-r-init : goal.loop-r-init
loop-r-init g c =
    let a = c.args in
    let s = a.raster.now in
    let px = normal_pixels a.window s.band in (
      omega arith,
      (λ k. omega (arith, c.requires.empty k)),
      tile_start_of s.sides.rows s.sides.cols px a.ty a.tx a.hist.now _ _ _ _ c.tile_start-top.ensures c.tile_size-height.ensures
          c.tile_start-left.ensures c.tile_size-width.ensures,
      filled_none s.sides.rows s.sides.cols a.ty a.tx g.D.Depth.of px a.out.now c.requires.tile.1,
    )

pub overflow_add-at : goal.overflow_add-at
overflow_add-at g c = omega (arith, row_within c.args.raster.now c.args.ty c.args.tx c.loop-r.r c.tile_start-top.ensures c.tile_size-height.ensures c.tile_start-left.ensures c.tile_size-width.ensures c.loop-r-test.true c.if-width-eq0.false)

pub overflow_mul-at : goal.overflow_mul-at
overflow_mul-at g c = omega (arith, row_within c.args.raster.now c.args.ty c.args.tx c.loop-r.r c.tile_start-top.ensures c.tile_size-height.ensures c.tile_start-left.ensures c.tile_size-width.ensures c.loop-r-test.true c.if-width-eq0.false)

pub overflow_add-at-in-loop-r : goal.overflow_add-at-in-loop-r
overflow_add-at-in-loop-r g c = omega (arith, row_within c.args.raster.now c.args.ty c.args.tx c.loop-r.r c.tile_start-top.ensures c.tile_size-height.ensures c.tile_start-left.ensures c.tile_size-width.ensures c.loop-r-test.true c.if-width-eq0.false)

pub overflow_add-end : goal.overflow_add-end
overflow_add-end g c = omega (arith, row_within c.args.raster.now c.args.ty c.args.tx c.loop-r.r c.tile_start-top.ensures c.tile_size-height.ensures c.tile_start-left.ensures c.tile_size-width.ensures c.loop-r-test.true c.if-width-eq0.false)

pub part-row-requires : goal.part-row-requires
part-row-requires g c = let h = row_within c.args.raster.now c.args.ty c.args.tx c.loop-r.r c.tile_start-top.ensures c.tile_size-height.ensures c.tile_start-left.ensures c.tile_size-width.ensures c.loop-r-test.true c.if-width-eq0.false in (omega arith, omega (arith, h))

pub offset_bounds-out-at : goal.offset_bounds-out-at
offset_bounds-out-at g c =
    let h = row_within c.args.raster.now c.args.ty c.args.tx c.loop-r.r c.tile_start-top.ensures c.tile_size-height.ensures c.tile_start-left.ensures c.tile_size-width.ensures c.loop-r-test.true c.if-width-eq0.false in
    let b : (c.tile_start-top.result + c.loop-r.r) * c.args.raster.now.sides.cols + c.tile_start-left.result ≤ length c.loop-r.out = omega (arith, h, c.requires.sized, c.loop-r.invariant.3.size) in search rules

pub slice_bounds-count_row-end : goal.slice_bounds-count_row-end
slice_bounds-count_row-end g c =
    let h = row_within c.args.raster.now c.args.ty c.args.tx c.loop-r.r c.tile_start-top.ensures c.tile_size-height.ensures c.tile_start-left.ensures c.tile_size-width.ensures c.loop-r-test.true c.if-width-eq0.false in
    let b : (c.tile_start-top.result + c.loop-r.r) * c.args.raster.now.sides.cols + c.tile_start-left.result + c.tile_size-width.result ≤ length c.loop-r.out = omega (arith, h, c.requires.sized, c.loop-r.invariant.3.size) in search rules

pub count_row-requires-clause-sized : goal.count_row-requires-clause-sized
count_row-requires-clause-sized g c =
    let h = row_within c.args.raster.now c.args.ty c.args.tx c.loop-r.r c.tile_start-top.ensures c.tile_size-height.ensures c.tile_start-left.ensures c.tile_size-width.ensures c.loop-r-test.true c.if-width-eq0.false in
    let at = (c.tile_start-top.result + c.loop-r.r) * c.args.raster.now.sides.cols + c.tile_start-left.result in
    let n = band_length at c.tile_size-width.result c.args.raster.now.band c.part-row.result c.part-row.ensures (omega (arith, h)) in
    (omega (arith, h, n), part_length at c.tile_size-width.result c.loop-r.out (omega (arith, h, c.requires.sized, c.loop-r.invariant.3.size)) ∙ sym n)

pub count_row-requires-clause-few : goal.count_row-requires-clause-few
count_row-requires-clause-few g c = let h = row_within c.args.raster.now c.args.ty c.args.tx c.loop-r.r c.tile_start-top.ensures c.tile_size-height.ensures c.tile_start-left.ensures c.tile_size-width.ensures c.loop-r-test.true c.if-width-eq0.false in λ k. omega (arith, h, c.loop-r.invariant.1 k)

pub loop-r-preserved : goal.loop-r-preserved
loop-r-preserved g c =
    let a = c.args in
    let s = a.raster.now in
    let px = normal_pixels a.window s.band in
    let top = c.tile_start-top.result in
    let height = c.tile_size-height.result in
    let left = c.tile_start-left.result in
    let width = c.tile_size-width.result in
    let r = c.loop-r.r in
    let at = (top + r) * s.sides.cols + left in
    let f = row_of s.sides.cols px left width in
    let in_raster = row_within c.args.raster.now c.args.ty c.args.tx c.loop-r.r c.tile_start-top.ensures c.tile_size-height.ensures c.tile_start-left.ensures c.tile_size-width.ensures c.loop-r-test.true c.if-width-eq0.false in
    let row = part_pixels a.window at width s.band c.part-row.result c.part-row.ensures in
    let new = c.count_row.ensures.counts ∙ ap (λ (ps : List Pixel). stored c.loop-r.hist (levels ps)) row in
    let n = tile_size s.sides.cols a.tx in
    let kept = c.count_row.ensures.levels ∙ ap (λ (ps : List Pixel). map g.D.Depth.of (map level_at ps)) (row ∙ ap (λ (m : ℕ). take m (drop at px)) c.tile_size-width.ensures) in (
      omega arith,
      (λ k. subst (λ (h : List ℕ). get_or h k 0 ≤ (r + 1) * 4096) (sym new)
          (omega (arith, row_most c.loop-r.hist (r * 4096) width (drop at px) in_raster.3 c.loop-r.invariant.1 k))),
      c.loop-r.invariant.2 ∙ rest_next f top height c.loop-r.hist r (omega arith) ∙ ap (λ (h : List ℕ). Rest f top height h (r + 1)) (sym new),
      filled_next s.sides.rows s.sides.cols a.ty a.tx g.D.Depth.of px a.out.now c.requires.tile.1 r (omega (arith, c.tile_size-height.ensures)) at _ c.loop-r.out _ c.loop-r.invariant.3 c.requires.sized
          (cc (c.tile_start-top.ensures, c.tile_start-left.ensures)) (omega (arith, c.tile_size-width.ensures)) (omega (arith, in_raster, c.tile_size-width.ensures))
          (row_levels s.sides.rows s.sides.cols a.ty a.tx g.D.Depth.of px a.out.now at _ (omega (arith, in_raster, c.tile_size-width.ensures, pixels_length a.window s.band)) kept),
    )

pub returns-clause-counts : goal.returns-clause-counts
returns-clause-counts g c =
    let a = c.args in
    let s = a.raster.now in
    let px = normal_pixels a.window s.band in
    let f = row_of s.sides.cols px c.tile_start-left.result c.tile_size-width.result in
    sym (rest_end f c.tile_start-top.result c.tile_size-height.result c.loop-r.hist c.loop-r.r (omega arith))
    ∙ sym c.loop-r.invariant.2 ∙ tile_counts_lem s.sides.rows s.sides.cols px a.ty a.tx a.hist.now (omega arith) c.requires.empty

pub returns-clause-levels : goal.returns-clause-levels
returns-clause-levels g c =
    let a = c.args in
    let s = a.raster.now in
    let px = normal_pixels a.window s.band in
    filled_all s.sides.rows s.sides.cols a.ty a.tx g.D.Depth.of px a.out.now c.requires.tile.1 c.loop-r.r c.loop-r.out c.requires.sized c.loop-r.invariant.3
    (λ i h e. let p = here s.sides.rows s.sides.cols a.ty a.tx c.requires.tile.1 i h e in omega (arith, p, c.tile_size-height.ensures))
