-- `histogram::compute_histogram_stats` meets its contract. Assumes nothing.
use mathlib.Core.Path.{sym, ◌∙◌, ap}
use Rattle.types.specs.Replies.{refusal_number}
use Rattle.spec.specs.Answer.{read}
use Rattle.lists.proofs.Replies.{when_ok, when_err, passed_on, refusal-not_zero}
use Rattle.raster.specs.Bands.{pixels_of}
use Rattle.raster.proofs.Bands.{pixels_same}
use Rattle.histogram.proofs.Statistics.{placed-count, call_shape, call_bad, call_done}
use Rattle.histogram.proofs.compute_histogram_stats.Goals as goal

pub returns-in_err-raster : goal.returns-in_err-raster
unfolding read
returns-in_err-raster c =
    let e = c.in_err-raster in
    rw (passed_on c.from_residual.result e.field-0.0 c.from_residual.ensures.1) (call_shape _ _ _ _ _ (when_err _ _ _ e.ensures.reply) (refusal-not_zero _))

pub returns-in_default : goal.returns-in_default
unfolding read refusal_number
returns-in_default c =
    let b = c.counted-band.ensures in
    let r = c.in_ok-raster.ensures in
    let same = ap pixels_of b ∙ pixels_same r.raster.0 r.raster.1 in
    call_bad _ _ _ _ (when_ok _ _ r.reply) (sym (rw same at c.placed_pass.ensures) ∙ c.in_default.is)

pub summary-requires : goal.summary-requires
summary-requires c = placed-count _ _ _ (sym c.placed_pass.ensures ∙ c.in-Some.is)

pub returns : goal.returns
unfolding read
returns c =
    let b = c.counted-band.ensures in
    let r = c.in_ok-raster.ensures in
    let same = ap pixels_of b ∙ pixels_same r.raster.0 r.raster.1 in
    call_done _ _ _ _ (when_ok _ _ r.reply) _ _ (sym (rw same at c.placed_pass.ensures) ∙ c.in-Some.is) _ c.place_in.ensures _ (rw same at c.summary.ensures)
