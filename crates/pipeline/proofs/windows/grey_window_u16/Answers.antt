-- `pipeline::windows::grey_window_u16` meets its contract: the window of the call, or 6 after its numbers. Assumes nothing.
use mathlib.Core.Path.{◌≡◌, sym, ap, ◌∙◌}
use mathlib.Core.Bool.{Bool}
use Rattle.std.specs.Prelude.{Option}
use Rattle.types.specs.declared.WindowFloats.{WindowFloats}
use Rattle.types.specs.declared.window.WindowAnswer.{WindowAnswer}
use Rattle.types.specs.Windows.{window_answer, window_in}
use Rattle.spec.specs.Window.{gamma_refused}
use Rattle.autoscale.proofs.Windows.{window_back}
use Rattle.types.specs.Replies.{refusal_number}
use Rattle.spec.specs.Answer.{read}
use Rattle.lists.proofs.Replies.{passed_on}
use Rattle.pipeline.proofs.GreyWindow.{grey_kept, grey_gamma, grey_straight}
use Rattle.pipeline.proofs.windows.grey_window_u16.Goals as goal

-- the test over the answer that the window is
tested : (b : Bool) (w : Option WindowFloats) (a : WindowAnswer) → a ≡ window_answer w → b ≡ gamma_refused (window_in a) → gamma_refused w ≡ b
tested b w a e t = sym (t ∙ ap (λ (x : WindowAnswer). gamma_refused (window_in x)) e ∙ ap gamma_refused (window_back w))

pub returns-in_err-window : goal.returns-in_err-window
unfolding read
returns-in_err-window c =
    let e = c.in_err-window in
    rw (passed_on c.from_residual.result e.field-0.0 c.from_residual.ensures.1) (grey_kept _ _ _ _ e.ensures)

pub returns-then-gamma_refused : goal.returns-then-gamma_refused
unfolding read refusal_number
returns-then-gamma_refused c = grey_gamma _ _ _ _ c.in_ok-window.ensures (tested _ _ _ c.of.ensures c.gamma_refused.ensures ∙ c.if-gamma_refused.true)

pub returns : goal.returns
unfolding read
returns c = grey_straight _ _ _ _ c.in_ok-window.ensures (tested _ _ _ c.of.ensures c.gamma_refused.ensures ∙ c.if-gamma_refused.false)
