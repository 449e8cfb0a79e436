-- `clahe::sums::write_tables` meets its contract. The invariant: the sums of the tiles before k are written, and the levels of their pixels. Assumes nothing.
use Rattle.std.proofs.Common.{◌≡◌, ℕ, ◌*◌, List, [], length, sym, ap, ◌∙◌, arith, length-append, length-take, length-drop}
use Rattle.spec.specs.Clahe.{sum_at, tile_table, tile_tables}
use Rattle.clahe.specs.Band.{normal_pixels}
use Rattle.clahe.proofs.Parts.{put_table}
use Rattle.clahe.proofs.Levels.{pixels_length}
use Rattle.clahe.proofs.Filled.{before_none, before_next, before_all}
use Rattle.lists.proofs.Places.{places-at}
use Rattle.clahe.proofs.sums.write_tables.Goals as goal

pub loop-k-init : goal.loop-k-init
loop-k-init g c =
    let s = c.args.raster.now in
    (omega arith, omega arith, (λ j b h g. absurd (omega arith)), before_none s.sides.rows s.sides.cols g.D.Depth.of (normal_pixels c.args.window s.band) c.args.out.now c.requires)

pub tile_sums-requires : goal.tile_sums-requires
tile_sums-requires g c = record { tile = omega arith; sized = c.loop-k.invariant.3.size }

pub loop-k-preserved : goal.loop-k-preserved
loop-k-preserved g c =
    let s = c.args.raster.now in
    let px = normal_pixels c.args.window s.band in (
      omega arith,
      simp (length-append, length-take, length-drop) (omega arith),
      put_table (λ j b. sum_at (tile_table s.sides.rows s.sides.cols px j) b) c.loop-k.work _ _ c.loop-k.k (omega arith) (c.copy_from_slice.ensures.after ∙ c.tile_sums.ensures.sums) c.loop-k.invariant.2,
      before_next s.sides.rows s.sides.cols g.D.Depth.of px c.loop-k.k c.loop-k.out _ c.loop-k.invariant.3 c.tile_sums.ensures.levels,
    )

pub returns-clause-sums : goal.returns-clause-sums
unfolding tile_tables
returns-clause-sums g c =
    let s = c.args.raster.now in
    let px = normal_pixels c.args.window s.band in
    record { at = λ k b h g. c.loop-k.invariant.2 k b (omega arith) g ∙ ap (λ (t : List ℕ). sum_at t b) (sym (places-at (tile_table s.sides.rows s.sides.cols px) [] 64 k h)) }

pub returns-clause-levels : goal.returns-clause-levels
returns-clause-levels g c =
    let s = c.args.raster.now in
    let px = normal_pixels c.args.window s.band in
    let n : length px ≡ s.sides.rows * s.sides.cols = pixels_length c.args.window s.band ∙ s.sized in
    before_all s.sides.rows s.sides.cols g.D.Depth.of px c.loop-k.k c.loop-k.out n (omega arith) c.loop-k.invariant.3
