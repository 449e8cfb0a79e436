-- `autoscale::paint::paint_valid` meets its contract. The invariant: the values before i are those of the pixels before i. Assumes nothing.
use mathlib.Core.Path.{ap, ◌∙◌}
use native.Mathlib.Omega.{arith}
use lib.Ieee.{Float, nan}
use lib.ListN.{get_or}
use Rattle.spec.specs.Gamma.{full_of}
use Rattle.spec.specs.Value.{value_of}
use Rattle.autoscale.specs.Painted.{straight}
use Rattle.autoscale.proofs.Painting.{paint-valid, painted_next, painted-all}
use Rattle.autoscale.proofs.paint.paint_valid.Goals as goal

pub valid_db-requires : goal.valid_db-requires
valid_db-requires g c =
    (omega arith, c.requires.fact_2 c.loop-i.i (omega arith))

pub loop-i-preserved : goal.loop-i-preserved
loop-i-preserved g c =
    let a = c.args in
    let m = a.band.now.valid_mask.now in
    let d = a.band.now.db.now in
    let i = c.loop-i.i in
    let of = g.D.Depth.of in
    let depth = g.D.Depth.depth in
    let value = value_of (full_of depth) a.window.low a.window.high a.window.range in
    painted_next (straight of depth a.window) m d c.loop-i.out (omega arith) (omega arith) i c.value_of.result (omega arith)
    (c.value_of.ensures ∙ ap (λ (v : Float). of (value v)) c.valid_db.ensures ∙ paint-valid of value (get_or m i 0) (get_or d i nan) (c.requires.fact_2 i (omega arith)))
    c.loop-i.invariant

pub returns : goal.returns
returns g c =
    let a = c.args in
    painted-all (straight g.D.Depth.of g.D.Depth.depth a.window) a.band.now.valid_mask.now a.band.now.db.now c.loop-i.out (omega arith) (omega arith) c.loop-i.i (omega arith) c.loop-i.invariant
