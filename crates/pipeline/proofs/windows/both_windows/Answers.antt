-- `pipeline::windows::both_windows` meets its contract: 4, or both windows. Assumes nothing.
use mathlib.Core.Path.{refl, ap, ◌∙◌}
use Rattle.raster.specs.Bands.{pixels_of}
use Rattle.autoscale.specs.Bands.{band_picture_window}
use Rattle.lists.proofs.Replies.{passed_on}
use Rattle.pipeline.proofs.PictureWindow.{both_bad_first, both_bad_second, both_good}
use Rattle.pipeline.proofs.windows.both_windows.Goals as goal

pub returns-in_err-first : goal.returns-in_err-first
returns-in_err-first c =
    let e = c.in_err-first in
    let q = e.ensures ∙ ap (λ b. band_picture_window c.args.strategy c.first_is_copol-is_copol.result (pixels_of b)) c.counted.ensures in
    rw (passed_on c.from_residual.result e.field-0.0 c.from_residual.ensures.1) (both_bad_first _ _ _ (pixels_of c.args.scene.now.second.band) _ c.first_is_copol-is_copol.ensures _ q _ refl)

pub returns-in_err-second : goal.returns-in_err-second
returns-in_err-second c =
    let e = c.in_err-second in
    let q1 = c.in_ok-first.ensures ∙ ap (λ b. band_picture_window c.args.strategy c.first_is_copol-is_copol.result (pixels_of b)) c.counted.ensures in
    let q2 = e.ensures ∙ ap (λ b. band_picture_window c.args.strategy c.second_is_copol-is_copol.result (pixels_of b)) c.counted-2.ensures in
    rw (passed_on c.from_residual-in_err-second.result e.field-0.0 c.from_residual-in_err-second.ensures.1)
    (both_bad_second _ _ _ _ _ c.first_is_copol-is_copol.ensures _ q1 _ refl _ c.second_is_copol-is_copol.ensures _ q2 _ refl)

pub returns : goal.returns
returns c =
    let q1 = c.in_ok-first.ensures ∙ ap (λ b. band_picture_window c.args.strategy c.first_is_copol-is_copol.result (pixels_of b)) c.counted.ensures in
    let q2 = c.in_ok-second.ensures ∙ ap (λ b. band_picture_window c.args.strategy c.second_is_copol-is_copol.result (pixels_of b)) c.counted-2.ensures in
    both_good _ _ _ _ _ c.first_is_copol-is_copol.ensures _ q1 _ refl _ c.second_is_copol-is_copol.ensures _ q2 _ refl
