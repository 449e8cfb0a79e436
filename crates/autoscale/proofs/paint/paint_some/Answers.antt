-- `autoscale::paint::paint_some` meets its contract. The invariant: the values before i are those of the pixels before i, and `place` is valid. Assumes nothing.
use mathlib.Core.Path.{refl}
use native.Mathlib.Omega.{arith}
use lib.ListN.{get_or}
use Rattle.spec.specs.Value.{paint}
use Rattle.autoscale.proofs.Painting.{paint-read, read-valid, painted_next, painted-all}
use Rattle.autoscale.proofs.paint.paint_some.Goals as goal

pub loop-i-init : goal.loop-i-init
loop-i-init g c = ((λ f h. refl), (omega arith, c.requires.fact_2.1))

pub valid_db-requires : goal.valid_db-requires
valid_db-requires g c =
    let m = c.args.band.now.valid_mask.now in
    let v = read-valid (get_or m c.loop-i.i 0) c.loop-i.i c.loop-i.place c.read_place-place.result m c.read_place-place.ensures refl (omega arith) c.loop-i.invariant.1 in
    (omega (arith, v), v.1)

pub loop-i-preserved : goal.loop-i-preserved
loop-i-preserved g c =
    let m = c.args.band.now.valid_mask.now in
    let d = c.args.band.now.db.now in
    let i = c.loop-i.i in
    let x = c.masked.result in
    let of = g.D.Depth.of in (
      (λ f h. painted_next (λ p. of (paint f p)) m d c.loop-i.out (omega arith) (omega arith) i x (omega arith)
          (paint-read of f (get_or m i 0) i c.loop-i.place c.read_place-place.result c.value-painted.result x c.valid_db.result d
          c.read_place-place.ensures c.valid_db.ensures (h _ _ c.value-painted.ensures) c.masked.ensures)
          (c.loop-i.invariant.0 f h)),
      read-valid (get_or m i 0) i c.loop-i.place c.read_place-place.result m c.read_place-place.ensures refl (omega arith) c.loop-i.invariant.1,
    )

pub returns : goal.returns
returns g c f h =
    let a = c.args in
    painted-all (λ p. g.D.Depth.of (paint f p)) a.band.now.valid_mask.now a.band.now.db.now c.loop-i.out (omega arith) (omega arith) c.loop-i.i (omega arith) (c.loop-i.invariant.0 f h)
