-- `pipeline::windows::grey_window` meets its contract: 4 or 5, or the window. Assumes nothing.
use mathlib.Core.Path.{refl, sym, ap, ◌∙◌}
use Rattle.types.specs.Replies.{refusal_number}
use Rattle.spec.specs.Answer.{read}
use Rattle.raster.specs.Bands.{pixels_of}
use Rattle.autoscale.specs.Bands.{band_window}
use Rattle.lists.proofs.Replies.{passed_on}
use Rattle.pipeline.proofs.GreyWindow.{grey_bad, grey_tiles, grey_unrefused}
use Rattle.pipeline.proofs.windows.grey_window.Goals as goal

pub returns-in_err-window : goal.returns-in_err-window
unfolding read
returns-in_err-window c =
    let e = c.in_err-window in
    rw (passed_on c.from_residual.result e.field-0.0 c.from_residual.ensures.1)
    (grey_bad _ _ _ _ (e.ensures ∙ ap (λ b. band_window c.args.strategy (pixels_of b)) c.counted.ensures) _ refl)

pub returns-then-window_tiles_refused : goal.returns-then-window_tiles_refused
unfolding read refusal_number
returns-then-window_tiles_refused c =
    grey_tiles _ _ _ _ (c.in_ok-window.ensures ∙ ap (λ b. band_window c.args.strategy (pixels_of b)) c.counted.ensures) _ refl
    (sym c.window_tiles_refused.ensures ∙ c.if-window_tiles_refused.true)

pub returns : goal.returns
unfolding read
returns c =
    grey_unrefused _ _ _ _ (c.in_ok-window.ensures ∙ ap (λ b. band_window c.args.strategy (pixels_of b)) c.counted.ensures) _ refl
    (sym c.window_tiles_refused.ensures ∙ c.if-window_tiles_refused.false)
