-- `autoscale::accepted_window` meets its contract. Assumes nothing.
use mathlib.Core.Path.{ap, ◌∙◌}
use Rattle.lists.proofs.Replies.{when_ok, when_err, passed_on, refusal-not_zero}
use Rattle.raster.specs.Bands.{pixels_of}
use Rattle.raster.proofs.Bands.{pixels_same}
use Rattle.autoscale.specs.Bands.{band_window}
use Rattle.autoscale.proofs.Windows.{call_shape, call_band}
use Rattle.autoscale.proofs.accepted_window.Goals as goal

pub returns-in_err-raster : goal.returns-in_err-raster
returns-in_err-raster c =
    let e = c.in_err-raster in
    rw (passed_on c.from_residual.result e.field-0.0 c.from_residual.ensures.1) (call_shape _ _ _ _ _ _ (when_err _ _ _ e.ensures.reply) (refusal-not_zero _))

pub returns : goal.returns
returns c =
    let b = c.counted.ensures in
    let r = c.in_ok-raster.ensures in
    let same = ap pixels_of b ∙ pixels_same r.raster.0 r.raster.1 in
    call_band _ _ _ _ _ (when_ok _ _ r.reply) _ (c.band_window.ensures ∙ ap (band_window c.args.strategy) same)
