-- `pipeline::rasters::picture_rasters` meets its contract: what is accepted is ready to be painted. Assumes nothing.
use mathlib.Core.Path.{sym, ap, ◌∙◌}
use Prim.Native.Nat.{◌*◌}
use Rattle.pipeline.specs.Windows.{lent_refused}
use Rattle.pipeline.proofs.Accepted.{lent_ready}
use Rattle.pipeline.proofs.rasters.picture_rasters.Goals as goal

pub returns-clause-scene : goal.returns-clause-scene
returns-clause-scene c =
    let a = c.args in
    let h = c.in_ok-scene.ensures.scene in
    (h, lent_ready a.strategy a.sides a.lent (sym (c.lent_refused.ensures ∙ ap (λ s. lent_refused a.strategy (s.rows * s.cols) a.lent) h.0.2) ∙ c.if-lent_refused.false))
