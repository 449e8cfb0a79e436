-- `clahe::sums::tile_sums` meets its contract: counted, clipped and summed is what `tile_table` says. Assumes nothing.
use Rattle.std.proofs.Common.{◌≡◌, ℕ, ◌+◌, ◌*◌, ◌/◌, ◌%◌, ◌^◌, ◌<◌, ◌≤◌, T, List, map, sym, ap, ◌∙◌, subst, arith}
use lib.Ieee.{Float, le}
use Rattle.raster.specs.declared.band.Raster.{Raster}
use Rattle.spec.specs.Lists.{sum_of, places}
use Rattle.spec.specs.Floats.{zero64}
use Rattle.spec.specs.Clahe.{tile_size, threshold, sum_at}
use Rattle.clahe.specs.Band.{normal_pixels, tile_levels}
use Rattle.clahe.specs.Limits.{all_in}
use Rattle.clahe.proofs.Shares.{table_of}
use Rattle.clahe.proofs.Bounds.{threshold_low}
use Rattle.clahe.proofs.Tiling.{area_most, tile_sum-most, no_counts}
use Rattle.clahe.proofs.sums.tile_sums.Goals as goal

-- the tile's area, which is no more than 4,096 by 4,096
area : (s : Raster) (k height width : ℕ) → height ≡ tile_size s.sides.rows (k / 8) → width ≡ tile_size s.sides.cols (k % 8)
    → (height * width ≡ all_in s.sides.rows s.sides.cols k) × (all_in s.sides.rows s.sides.cols k ≤ 16777216)
area s k height width a b = (cc, area_most s.sides.rows s.sides.cols (k / 8) (k % 8) s.small.0 s.small.1)

pub count_tile-requires : goal.count_tile-requires
count_tile-requires g c = record {
  tile = (omega arith, omega arith);
  empty = no_counts 256;
  sized = c.requires.sized;
}

pub overflow_mul-tile_size : goal.overflow_mul-tile_size
overflow_mul-tile_size g c = omega (arith, area c.args.raster.now c.args.k _ _ c.tile_size.ensures c.tile_size-2.ensures)

pub threshold-limit-requires : goal.threshold-limit-requires
threshold-limit-requires g c = omega (arith, area c.args.raster.now c.args.k _ _ c.tile_size.ensures c.tile_size-2.ensures)

pub clip_at-requires : goal.clip_at-requires
clip_at-requires g c =
    let a = c.args in
    let s = a.raster.now in
    let px = normal_pixels a.window s.band in (
      subst (λ (h : List ℕ). sum_of h < 2 ^ 31) (sym c.count_tile.ensures.counts) (omega (arith, tile_sum-most s.sides.rows s.sides.cols px (a.k / 8) (a.k % 8) s.small.0 s.small.1)),
      subst (λ (x : Float). T (le zero64 x)) (sym c.threshold-limit.ensures) (threshold_low _),
    )

pub returns-clause-sums : goal.returns-clause-sums
returns-clause-sums g c =
    let a = c.args in
    let s = a.raster.now in
    let px = normal_pixels a.window s.band in
    c.write_sums.ensures
    ∙ ap (λ (h : List ℕ). map (sum_at h) (places 256))
    (table_of s.sides.rows s.sides.cols px a.k c.threshold-limit.result _ _ (c.threshold-limit.ensures ∙ ap threshold (area c.args.raster.now c.args.k _ _ c.tile_size.ensures c.tile_size-2.ensures).0) c.count_tile.ensures.counts c.clip_at.ensures)

pub returns-clause-levels : goal.returns-clause-levels
returns-clause-levels g c =
    let a = c.args in
    let s = a.raster.now in
    let px = normal_pixels a.window s.band in
    let k : a.k / 8 * 8 + a.k % 8 ≡ a.k = omega arith in
    c.count_tile.ensures.levels ∙ ap (λ (n : ℕ). tile_levels g.D.Depth.of s.sides.rows s.sides.cols px n a.out.now) k
