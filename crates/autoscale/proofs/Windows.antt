-- The statistics and the window of a band, and the window call, by the answers of their parts. Assumes nothing.
use mathlib.Core.Path.{◌≡◌, refl, sym, ap, ◌∙◌}
use mathlib.Core.Bool.{Bool, true, false, cond}
use mathlib.Core.List.{List, [], ◌∷◌}
use Prim.Native.Nat.{ℕ, zero, suc}
use lib.ListN.{length}
use lib.Ieee.{Float}
use Rattle.std.specs.Prelude.{Option, Some, None}
use Rattle.types.specs.declared.AutoscaleStrategy.{AutoscaleStrategy}
use Rattle.types.specs.declared.HistogramStats.{HistogramStats}
use Rattle.types.specs.declared.Moments.{Moments}
use Rattle.std.specs.Prelude.{Result, Ok, Err}
use Rattle.types.specs.declared.refusal.Refusal.{Refusal}
use Rattle.types.specs.declared.refusal.Refusal.TheVariants.{Decibels}
use Rattle.types.specs.Replies.{refusal_number}
use Rattle.types.specs.declared.WindowFloats.{WindowFloats}
use Rattle.std.specs.Prelude.{Option}
use Rattle.spec.specs.Answer.{Answer, refused, done, first_of, or_refused}
use Rattle.spec.specs.Moments.{no_moments, moments_from}
use Rattle.spec.specs.Pixels.{Pixel, pixels, valid_of}
use Rattle.spec.specs.Refusals.{sides_refused, lengths_refused, marks_refused, decibels_refused}
use Rattle.spec.specs.Strongest.{nowhere}
use Rattle.spec.specs.Statistics.{summary, summary_of, statistics_of}
use Rattle.spec.specs.Window.{window_floats, window_of, picture_window, read_window, read_opened, autoscale_window}
use Rattle.types.specs.Windows.{window_answer, window_in}
use Rattle.lists.proofs.Replies.{err_by, ok_by}
use Rattle.raster.proofs.Bands.{first_stays, first_later, first-here, first_not_here, first-none}
use Rattle.histogram.specs.Extremes.{extremes_from}
use Rattle.histogram.specs.Passes.{passed, first_pass, extremes}
use Rattle.histogram.proofs.Counting.{none-count}
use Rattle.histogram.proofs.Extremes.{extremes-count}
use Rattle.histogram.proofs.Statistics.{pass_bad, pass_good}
use Rattle.autoscale.specs.Bands.{reads_mean, stats_for, band_stats, band_window, band_picture_window}
use Rattle.autoscale.proofs.Unread.{window_for, picture_for}

-- ---- the statistics, by the pass
abbrev pass_for : AutoscaleStrategy → List Pixel → Option Moments
pass_for strategy px = cond (reads_mean strategy) (first_pass px) (extremes px)

-- the moments of that pass
abbrev moments_for : AutoscaleStrategy → List Pixel → Moments
moments_for strategy px = cond (reads_mean strategy) (moments_from no_moments (valid_of px)) (extremes_from no_moments (valid_of px))

pass_is : (strategy : AutoscaleStrategy) (px : List Pixel) → pass_for strategy px ≡ passed px (moments_for strategy px)
unfolding first_pass extremes
pass_is strategy px = go (reads_mean strategy)
  where
    go : (b : Bool) → cond b (passed px (moments_from no_moments (valid_of px))) (passed px (extremes_from no_moments (valid_of px))) ≡ passed px (cond b (moments_from no_moments (valid_of px)) (extremes_from no_moments (valid_of px)))
    go true = refl
    go false = refl

stats_is : (strategy : AutoscaleStrategy) (px : List Pixel) → summary (moments_for strategy px) nowhere (valid_of px) ≡ stats_for strategy px
unfolding stats_for statistics_of summary_of
stats_is strategy px = go (reads_mean strategy)
  where
    go : (b : Bool) → summary (cond b (moments_from no_moments (valid_of px)) (extremes_from no_moments (valid_of px))) nowhere (valid_of px)
        ≡ cond b (summary (moments_from no_moments (valid_of px)) nowhere (valid_of px)) (summary (extremes_from no_moments (valid_of px)) nowhere (valid_of px))
    go true = refl
    go false = refl

-- the count of that pass
pub pass_count : (strategy : AutoscaleStrategy) (px : List Pixel) (m : Moments) → pass_for strategy px ≡ Some m → m.count ≡ length (valid_of px)
pass_count strategy px m e =
    ap (λ (t : Moments). t.count) (sym (pass_good px (moments_for strategy px) m (sym (pass_is strategy px) ∙ e)).1) ∙ go (reads_mean strategy)
  where
    go : (b : Bool) → (cond b (moments_from no_moments (valid_of px)) (extremes_from no_moments (valid_of px))).count ≡ length (valid_of px)
    go true = none-count (valid_of px)
    go false = extremes-count (valid_of px)

pub stats-refused : (strategy : AutoscaleStrategy) (px : List Pixel) → pass_for strategy px ≡ None → Err Decibels ≡ band_stats strategy px
unfolding band_stats
stats-refused strategy px e = rw (pass_bad px (moments_for strategy px) (sym (pass_is strategy px) ∙ e))

pub stats-passed : (strategy : AutoscaleStrategy) (px : List Pixel) (m : Moments) (r : HistogramStats) → pass_for strategy px ≡ Some m → r ≡ summary m nowhere (valid_of px) →
    Ok r ≡ band_stats strategy px
unfolding band_stats
stats-passed strategy px m r e q =
    let g = pass_good px (moments_for strategy px) m (sym (pass_is strategy px) ∙ e) in
    ap Ok (q ∙ ap (λ (t : Moments). summary t nowhere (valid_of px)) (sym g.1) ∙ stats_is strategy px) ∙ rw g.0

-- ---- the window, by the statistics
module _ (strategy : AutoscaleStrategy) (px : List Pixel) where
  unread_bad : (k : Refusal) → band_stats strategy px ≡ Err k → (decibels_refused px ≡ true) × (Decibels ≡ k)
  unfolding band_stats
  unread_bad k e = err_by (decibels_refused px) (stats_for strategy px) Decibels k e

  unread_good : (s : HistogramStats) → band_stats strategy px ≡ Ok s → (decibels_refused px ≡ false) × (stats_for strategy px ≡ s)
  unfolding band_stats
  unread_good s e = ok_by (decibels_refused px) (stats_for strategy px) s Decibels e

  pub window-refused : (k : Refusal) → band_stats strategy px ≡ Err k → Err k ≡ band_window strategy px
  unfolding band_window or_refused read_opened
  window-refused k e = let h = unread_bad k e in rw (h.0, ← h.1)

  pub window-read : (s : HistogramStats) → band_stats strategy px ≡ Ok s → (w : Option WindowFloats) → w ≡ window_of strategy s → Ok w ≡ band_window strategy px
  unfolding band_window or_refused read_opened
  window-read s e w q =
      let g = unread_good s e in
      ap Ok (q ∙ ap (window_of strategy) (sym g.1) ∙ window_for strategy px) ∙ rw g.0

  pub picture-refused : (copol : Bool) (k : Refusal) → band_stats strategy px ≡ Err k → Err k ≡ band_picture_window strategy copol px
  unfolding band_picture_window
  picture-refused copol k e = let h = unread_bad k e in rw (h.0, ← h.1)

  pub picture-read : (copol : Bool) (s : HistogramStats) → band_stats strategy px ≡ Ok s → (w : Option WindowFloats) → w ≡ picture_window strategy copol s → Ok w ≡ band_picture_window strategy copol px
  unfolding band_picture_window
  picture-read copol s e w q =
      let g = unread_good s e in
      ap Ok (q ∙ ap (picture_window strategy copol) (sym g.1) ∙ picture_for strategy copol px) ∙ rw g.0

-- ---- the answer that a window is, read, and the window in it
pub read_answered : (w : Option WindowFloats) → read_window (window_answer w) ≡ done (window_floats w)
unfolding read_window window_answer window_floats
read_answered (Some w) = refl
read_answered None = refl

pub window_back : (w : Option WindowFloats) → window_in (window_answer w) ≡ w
unfolding window_in window_answer
window_back (Some w) = refl
window_back None = refl

-- ---- the call
or_refused_lem : {A : Type 0} (k : ℕ) (a : Answer A) → (k ≡ 0 → ⊥) → or_refused k a ≡ refused k
unfolding or_refused
or_refused_lem zero a n = absurd (n refl)
or_refused_lem (suc k) a n = refl

module _ (strategy : AutoscaleStrategy) (rows cols : ℕ) (m : List ℕ) (d : List Float) where
  abbrev shape : List Bool
  shape = sides_refused rows cols ∷ lengths_refused rows cols m d ∷ marks_refused m ∷ []

  abbrev px : List Pixel
  px = pixels m d

  abbrev read : Answer (List Float)
  read = done (window_floats (window_of strategy (statistics_of px)))

  is_call : (k : ℕ) → first_of 1 (sides_refused rows cols ∷ lengths_refused rows cols m d ∷ marks_refused m ∷ decibels_refused px ∷ []) ≡ k → autoscale_window strategy rows cols m d ≡ or_refused k read
  unfolding autoscale_window
  is_call k e = ap (λ (n : ℕ). or_refused n read) e

  pub call_shape : (k : Refusal) → refusal_number k ≡ first_of 1 shape → (refusal_number k ≡ 0 → ⊥) → read_opened (Err k) ≡ autoscale_window strategy rows cols m d
  unfolding read_opened
  call_shape refusal e n = let k = refusal_number refusal in sym (is_call k (sym (first_stays 1 shape (decibels_refused px ∷ []) (λ z. n (e ∙ z))) ∙ sym e) ∙ or_refused_lem k read n)

  pub call_band : first_of 1 shape ≡ 0 → (w : Result (Option WindowFloats) Refusal) → w ≡ band_window strategy px → read_opened w ≡ autoscale_window strategy rows cols m d
  unfolding band_window or_refused read_opened refusal_number
  call_band good w e = ap read_opened e ∙ go (decibels_refused px) refl
    where
      tests : first_of 1 (sides_refused rows cols ∷ lengths_refused rows cols m d ∷ marks_refused m ∷ decibels_refused px ∷ []) ≡ first_of 4 (decibels_refused px ∷ [])
      tests = first_later 0 shape (decibels_refused px ∷ []) good

      go : (b : Bool) → decibels_refused px ≡ b → read_opened (cond b (Err Decibels) (Ok (window_of strategy (statistics_of px)))) ≡ autoscale_window strategy rows cols m d
      go true f = sym (is_call 4 (tests ∙ first-here 4 (decibels_refused px) [] f) ∙ four)
        where
          four : or_refused 4 read ≡ read_opened (Err Decibels)
          four = refl
      go false f = sym (is_call 0 (tests ∙ first_not_here 4 (decibels_refused px) [] f ∙ first-none 5) ∙ none)
        where
          none : or_refused 0 read ≡ read
          none = refl
