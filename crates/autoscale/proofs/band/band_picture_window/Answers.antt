-- `autoscale::band::band_picture_window` meets its contract. Assumes nothing.
use mathlib.Core.Path.{sym, ◌∙◌}
use Rattle.lists.proofs.Replies.{passed_on}
use Rattle.autoscale.proofs.Windows.{picture-refused, picture-read}
use Rattle.autoscale.proofs.band.band_picture_window.Goals as goal

pub returns-in_err-stats : goal.returns-in_err-stats
returns-in_err-stats c =
    let e = c.in_err-stats in
    rw (passed_on c.from_residual.result e.field-0.0 c.from_residual.ensures.1) (picture-refused _ _ _ _ (sym e.ensures))

pub returns : goal.returns
returns c = picture-read _ _ _ _ (sym c.band_stats.ensures ∙ c.in_ok-stats.was) _ c.picture_window.ensures
