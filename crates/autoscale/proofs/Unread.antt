-- Only Adaptive reads mean and deviation, so the other strategies' windows may be taken from statistics without them. Assumes nothing.
use mathlib.Core.Path.{◌≡◌, refl, ap, ◌∙◌}
use mathlib.Core.Bool.{Bool, true, false, cond, true≢false}
use mathlib.Core.List.{List}
use lib.Ieee.{Float}
use Rattle.types.specs.declared.AutoscaleStrategy.{AutoscaleStrategy}
use Rattle.types.specs.declared.AutoscaleStrategy.TheVariants.{Standard, Robust, Adaptive, Equalized, Clahe, Tamed, Default}
use Rattle.types.specs.declared.HistogramStats.{HistogramStats}
use Rattle.spec.specs.Moments.{no_moments}
use Rattle.spec.specs.Pixels.{Pixel, valid_of}
use Rattle.spec.specs.Strongest.{nowhere}
use Rattle.spec.specs.Statistics.{deviation_of, summary, summary_of, statistics_of}
use Rattle.spec.specs.Strategies.{is_tamed}
use Rattle.spec.specs.Floats.{zero64}
use Rattle.spec.specs.Window.{valid_range, low_contrast_clip, heavy_tailed_clip, high_range_clip, normal_clip, standard_clip, robust_clip, tamed_clip, choose_clip, window_of, picture_window}
use Rattle.histogram.specs.Extremes.{extremes_from, with_mean}
use Rattle.histogram.proofs.Extremes.{summary-extremes}
use Rattle.autoscale.specs.Bands.{reads_mean, stats_for}

pub window_unread : (strategy : AutoscaleStrategy) → reads_mean strategy ≡ false → (mean deviation : Float) (s : HistogramStats) → window_of strategy (with_mean mean deviation s) ≡ window_of strategy s
unfolding reads_mean with_mean window_of choose_clip standard_clip robust_clip valid_range low_contrast_clip heavy_tailed_clip high_range_clip normal_clip
window_unread Standard e m d s = refl
window_unread Robust e m d s = refl
window_unread Adaptive e m d s = absurd (true≢false e)
window_unread Equalized e m d s = refl
window_unread Clahe e m d s = refl
window_unread Tamed e m d s = refl
window_unread Default e m d s = refl

pub picture_unread : (strategy : AutoscaleStrategy) (copol : Bool) → reads_mean strategy ≡ false → (mean deviation : Float) (s : HistogramStats) →
    picture_window strategy copol (with_mean mean deviation s) ≡ picture_window strategy copol s
unfolding reads_mean with_mean picture_window is_tamed tamed_clip choose_clip standard_clip robust_clip valid_range low_contrast_clip heavy_tailed_clip high_range_clip normal_clip
picture_unread Standard copol e m d s = refl
picture_unread Robust copol e m d s = refl
picture_unread Adaptive copol e m d s = absurd (true≢false e)
picture_unread Equalized copol e m d s = refl
picture_unread Clahe copol e m d s = refl
picture_unread Tamed true e m d s = refl
picture_unread Tamed false e m d s = refl
picture_unread Default copol e m d s = refl

-- what does not read mean and deviation may be taken from `stats_for`
for_any : {A : Type 0} (f : HistogramStats → A) (strategy : AutoscaleStrategy) (px : List Pixel) →
    (reads_mean strategy ≡ false → (mean deviation : Float) (s : HistogramStats) → f (with_mean mean deviation s) ≡ f s) → f (stats_for strategy px) ≡ f (statistics_of px)
unfolding stats_for statistics_of
for_any f strategy px h = go (reads_mean strategy) refl
  where
    go : (b : Bool) → reads_mean strategy ≡ b → f (cond b (summary_of (valid_of px)) (summary (extremes_from no_moments (valid_of px)) nowhere (valid_of px))) ≡ f (summary_of (valid_of px))
    go true e = refl
    go false e = ap f (summary-extremes (valid_of px)) ∙ h e zero64 (deviation_of (extremes_from no_moments (valid_of px))) (summary_of (valid_of px))

pub window_for : (strategy : AutoscaleStrategy) (px : List Pixel) → window_of strategy (stats_for strategy px) ≡ window_of strategy (statistics_of px)
window_for strategy px = for_any (window_of strategy) strategy px (window_unread strategy)

pub picture_for : (strategy : AutoscaleStrategy) (copol : Bool) (px : List Pixel) → picture_window strategy copol (stats_for strategy px) ≡ picture_window strategy copol (statistics_of px)
picture_for strategy copol px = for_any (picture_window strategy copol) strategy px (picture_unread strategy copol)

-- a strategy that is one of the other six
pub not_adaptive : (s : AutoscaleStrategy) → (s ≡ Adaptive → ⊥) → false ≡ reads_mean s
unfolding reads_mean
not_adaptive Standard h = refl
not_adaptive Robust h = refl
not_adaptive Adaptive h = absurd (h refl)
not_adaptive Equalized h = refl
not_adaptive Clahe h = refl
not_adaptive Tamed h = refl
not_adaptive Default h = refl
