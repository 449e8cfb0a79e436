-- `pipeline::windows::picture_windows` meets its contract: 4 or 5, or both windows. Assumes nothing.
use mathlib.Core.Path.{refl, sym, ◌∙◌}
use Rattle.types.specs.Replies.{refusal_number}
use Rattle.spec.specs.Answer.{read}
use Rattle.lists.proofs.Replies.{passed_on}
use Rattle.pipeline.proofs.PictureWindow.{picture-four, picture_tiles, picture_unrefused}
use Rattle.pipeline.proofs.windows.picture_windows.Goals as goal

pub returns-in_err-windows : goal.returns-in_err-windows
unfolding read
returns-in_err-windows c =
    let e = c.in_err-windows in
    rw (passed_on c.from_residual.result e.field-0.0 c.from_residual.ensures.1) (picture-four _ _ _ _ _ _ e.ensures _ refl)

pub returns-then-either_tiles_refused : goal.returns-then-either_tiles_refused
unfolding read refusal_number
returns-then-either_tiles_refused c =
    picture_tiles _ _ _ _ _ _ c.in_ok-windows.ensures _ refl (sym c.either_tiles_refused.ensures ∙ c.if-either_tiles_refused.true)

pub returns : goal.returns
unfolding read
returns c = picture_unrefused _ _ _ _ _ _ c.in_ok-windows.ensures _ refl (sym c.either_tiles_refused.ensures ∙ c.if-either_tiles_refused.false)
