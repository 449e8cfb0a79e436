-- `histogram::compute_histogram` meets its contract. Assumes nothing.
use mathlib.Core.Path.{sym, ap, ◌∙◌}
use Prim.Native.Nat.{ℕ}
use lib.ListN.{replicate}
use Rattle.types.specs.Replies.{refusal_number}
use Rattle.spec.specs.Answer.{reply_number}
use Rattle.lists.proofs.Replies.{passed_on, refusal-not_zero}
use Rattle.raster.specs.Bands.{pixels_of}
use Rattle.raster.proofs.Bands.{pixels_same}
use Rattle.histogram.proofs.Curves.{shape_refused, decibel_refused_lem, passed-count, bins-done}
use Rattle.histogram.proofs.compute_histogram.Goals as goal

pub returns-in_err-raster : goal.returns-in_err-raster
unfolding reply_number
returns-in_err-raster c =
    let e = c.in_err-raster in
    let owed = shape_refused _ _ _ _ _ _ e.ensures.reply (refusal-not_zero _) in record {
      result_value = rw (passed_on c.from_residual.result e.field-0.0 c.from_residual.ensures.1) owed.0;
      hist_after = owed.1;
    }

pub returns-in_default : goal.returns-in_default
unfolding reply_number refusal_number
returns-in_default c =
    let b = c.counted-band.ensures in
    let r = c.in_ok-raster.ensures in
    let same = ap pixels_of b ∙ pixels_same r.raster.0 r.raster.1 in
    let owed = decibel_refused_lem _ _ _ _ _ (sym r.reply) (sym (rw same at c.extremes.ensures) ∙ c.in_default.is) in record {
      result_value = owed.0;
      hist_after = owed.1;
    }

pub count_bins-requires : goal.count_bins-requires
count_bins-requires c = (
  c.in-Some-as_mut_array.ensures.cases.same ∙ c.fill.ensures.after (λ y e. e) ∙ ap (λ (n : ℕ). replicate n 0) c.in_ok-raster.ensures.raster.2,
  passed-count _ _ (sym c.extremes.ensures ∙ c.in-Some.is),
)

pub returns : goal.returns
unfolding reply_number
returns c =
    let b = c.counted-band.ensures in
    let r = c.in_ok-raster.ensures in
    let same = ap pixels_of b ∙ pixels_same r.raster.0 r.raster.1 in
    let owed = bins-done _ _ _ _ c.args.hist.now (sym r.reply) _ (sym (rw same at c.extremes.ensures) ∙ c.in-Some.is) _ (rw same at c.count_bins.ensures) in record {
      result_value = owed.0;
      hist_after = owed.1;
    }
