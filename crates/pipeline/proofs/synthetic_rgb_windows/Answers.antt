-- `pipeline::synthetic_rgb_windows` meets its contract: refused by number, or both windows. Assumes nothing.
use mathlib.Core.Path.{ap, ◌∙◌}
use Rattle.spec.specs.Answer.{read}
use Rattle.lists.proofs.Replies.{when_ok, when_err, passed_on, refusal-not_zero}
use Rattle.raster.specs.Bands.{pixels_of}
use Rattle.raster.proofs.Bands.{pixels_same}
use Rattle.pipeline.specs.declared.scene.Scene.{Scene}
use Rattle.pipeline.specs.Windows.{both_windows}
use Rattle.pipeline.proofs.PictureWindow.{bands_refused, bands_windows}
use Rattle.pipeline.proofs.synthetic_rgb_windows.Goals as goal

pub returns-in_err-scene : goal.returns-in_err-scene
unfolding read
returns-in_err-scene c =
    let e = c.in_err-scene in
    rw (passed_on c.from_residual.result e.field-0.0 c.from_residual.ensures.1)
    (bands_refused _ _ _ _ _ _ _ _ _ (when_err Scene _ _ e.ensures.reply) (refusal-not_zero _))

pub returns : goal.returns
returns c =
    let a = c.args in
    let h = c.in_ok-scene.ensures.scene in
    bands_windows _ _ _ _ _ _ _ _ (when_ok c.in_ok-scene.scene _ c.in_ok-scene.ensures.reply) _
    (c.both_windows.ensures
    ∙ ap (λ px. both_windows a.strategy a.copol px (pixels_of c.in_ok-scene.scene.second.band)) (pixels_same h.0.0 h.0.1)
    ∙ ap (both_windows a.strategy a.copol _) (pixels_same h.1.0 h.1.1))
