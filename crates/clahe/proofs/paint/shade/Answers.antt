-- `clahe::paint::shade` meets its contract: a value in 0..1, scaled, lies between 0 and the scale. Assumes nothing.
use Rattle.std.proofs.Common.{T, sym, ap, ◌∙◌, subst, arith}
use lib.Ieee.{Float, binary64, mul, le}
use Rattle.spec.specs.Gamma.{full_of}
use Rattle.spec.specs.Floats.{zero64}
use Rattle.clahe.specs.Within.{InUnit}
use Rattle.clahe.proofs.Scaled.{scale, unheld_within}
use Rattle.clahe.proofs.Shades.{sampled_unit, shade_of}
use Rattle.clahe.proofs.paint.shade.Goals as goal

pub held-sum-requires : goal.held-sum-requires
held-sum-requires g c =
    λ t. let h = c.requires.within t in
    subst InUnit (sym c.sample.ensures) (sampled_unit c.args.row.now c.args.x c.args.b (omega arith) c.requires.among h.0 h.1 h.2)

pub truncated-requires : goal.truncated-requires
truncated-requires g c =
    let r = subst (λ (f : Float). T (le zero64 (mul binary64 c.held-sum.result f)) × T (le (mul binary64 c.held-sum.result f) f)) (sym c.full.ensures) (unheld_within (scale g.D.Depth.depth) c.held-sum.result c.held-sum.ensures.0) in record {
      fact_1 = r.0;
      fact_2 = subst (λ (f : Float). T (le (mul binary64 c.held-sum.result c.full.result) f)) c.full.ensures r.1;
    }

pub returns : goal.returns
returns g c =
    let a = c.args in
    c.truncated.ensures
    ∙ ap g.D.Depth.of (shade_of (full_of g.D.Depth.depth) (scale g.D.Depth.depth) a.row.now a.x a.b _ _ _ c.sample.ensures c.held-sum.ensures.1 c.full.ensures)
