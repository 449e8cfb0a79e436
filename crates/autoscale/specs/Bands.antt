-- The statistics that a strategy reads, and the window of a band whose sides, lengths and marks are accepted. Definitions only.
use Rattle.std.specs.Prelude.{Bool, true, false, cond, List, Result, Ok, Err}
use Rattle.types.specs.declared.refusal.Refusal.{Refusal}
use Rattle.types.specs.declared.refusal.Refusal.TheVariants.{Decibels}
use Rattle.types.specs.declared.AutoscaleStrategy.{AutoscaleStrategy}
use Rattle.types.specs.declared.AutoscaleStrategy.TheVariants.{Standard, Robust, Adaptive, Equalized, Clahe, Tamed, Default}
use Rattle.types.specs.declared.HistogramStats.{HistogramStats}
use Rattle.types.specs.declared.WindowFloats.{WindowFloats}
use Rattle.std.specs.Prelude.{Option}
use Rattle.spec.specs.Moments.{no_moments}
use Rattle.spec.specs.Pixels.{Pixel, valid_of}
use Rattle.spec.specs.Refusals.{decibels_refused}
use Rattle.spec.specs.Strongest.{nowhere}
use Rattle.spec.specs.Statistics.{summary, statistics_of}
use Rattle.spec.specs.Window.{window_of, picture_window}
use Rattle.histogram.specs.Extremes.{extremes_from}

-- only Adaptive reads mean and deviation (`window_unread`)
unfoldable pub reads_mean : AutoscaleStrategy → Bool
reads_mean Standard = false
reads_mean Robust = false
reads_mean Adaptive = true
reads_mean Equalized = false
reads_mean Clahe = false
reads_mean Tamed = false
reads_mean Default = false

-- the statistics, with mean and deviation left out where no rule reads them
unfoldable pub stats_for : AutoscaleStrategy → List Pixel → HistogramStats
stats_for strategy px = cond (reads_mean strategy) (statistics_of px) (summary (extremes_from no_moments (valid_of px)) nowhere (valid_of px))

-- or refused with 4
unfoldable pub band_stats : AutoscaleStrategy → List Pixel → Result HistogramStats Refusal
band_stats strategy px = cond (decibels_refused px) (Err Decibels) (Ok (stats_for strategy px))

-- the windows of a band, or refused with 4
unfoldable pub band_window : AutoscaleStrategy → List Pixel → Result (Option WindowFloats) Refusal
band_window strategy px = cond (decibels_refused px) (Err Decibels) (Ok (window_of strategy (statistics_of px)))

unfoldable pub band_picture_window : AutoscaleStrategy → Bool → List Pixel → Result (Option WindowFloats) Refusal
band_picture_window strategy copol px = cond (decibels_refused px) (Err Decibels) (Ok (picture_window strategy copol (statistics_of px)))
