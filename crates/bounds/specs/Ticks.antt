-- Document 02, F-6: where a percentile stands on the curve of counts. Statements only: the proofs are in proofs/.
use Rattle.std.specs.Prelude.{ℕ, ◌+◌, ◌<◌, ◌≡◌, true, false, List, ◌∷◌, length, get_or, take, replicate, Float}
use Rattle.types.specs.declared.HistogramStats.{HistogramStats}
use Rattle.types.specs.declared.Moments.{Moments}
use Rattle.types.specs.declared.Percentile.{Percentile}
use Rattle.spec.specs.Lists.{sum_of}
use Rattle.spec.specs.Answer.{done}
use Rattle.spec.specs.Pixels.{Pixel, pixels, valid_of}
use Rattle.spec.specs.Moments.{no_moments, moments_from, is_flat}
use Rattle.spec.specs.Percentile.{target_of, estimate_percentile}
use Rattle.spec.specs.Statistics.{gathered, placed_statistics, compute_histogram_stats}
use Rattle.spec.specs.Strongest.{strongest, place_in}
use Rattle.spec.specs.Curve.{curve_of, compute_histogram}

abbrev pub moments_of : List Pixel → Moments
moments_of px = moments_from no_moments (valid_of px)

-- the percentile of fraction p of a band
abbrev pub tick : List Pixel → Float → Percentile
tick px p = estimate_percentile (moments_of px) (curve_of px) p

pub record Ticks : Type 0 where
  -- "w the target less the count before it": the counts before the bin and the rank are the target
  pub target :
      (px : List Pixel) → is_flat (moments_of px) ≡ false → (p : Float) → sum_of (take (tick px p).bin (curve_of px)) + (tick px p).rank ≡ target_of p (length (valid_of px))
  -- "the first bin whose running count exceeds the target": the rank is below the bin's own count
  pub inside : (px : List Pixel) → is_flat (moments_of px) ≡ false → (p : Float) → (tick px p).rank < get_or (curve_of px) (tick px p).bin 0
  -- "0 and 0 for flat scenes and blank bands"
  pub flat : (px : List Pixel) → is_flat (moments_of px) ≡ true → (p : Float) → ((tick px p).bin ≡ 0) × ((tick px p).rank ≡ 0)
  pub blank : (px : List Pixel) → length (valid_of px) ≡ 0 → (p : Float) → ((tick px p).bin ≡ 0) × ((tick px p).rank ≡ 0)
  -- a flat scene has all its valid pixels in bin 0
  pub level : (px : List Pixel) → is_flat (moments_of px) ≡ true → curve_of px ≡ length (valid_of px) ∷ replicate 4095 0
  -- the curve has 4,096 counts, and they sum to the count
  pub size : (px : List Pixel) → length (curve_of px) ≡ 4096
  pub sum : (px : List Pixel) → sum_of (curve_of px) ≡ length (valid_of px)
  -- the statistics are read off the curve
  pub read : (cols : ℕ) (px : List Pixel) → placed_statistics cols px ≡ gathered (moments_of px) (place_in cols (strongest px)) (tick px)
  -- the same of the two calls
  pub call_sum :
      (rows cols : ℕ) (marks : List ℕ) (db : List Float) (c : List ℕ) (s : HistogramStats) → compute_histogram rows cols marks db 4096 ≡ done c → compute_histogram_stats rows cols marks db ≡ done s →
      sum_of c ≡ s.valid_count
  pub call_read :
      (rows cols : ℕ) (marks : List ℕ) (db : List Float) (c : List ℕ) → compute_histogram rows cols marks db 4096 ≡ done c →
      compute_histogram_stats rows cols marks db ≡ done (gathered (moments_of (pixels marks db)) (place_in cols (strongest (pixels marks db))) (estimate_percentile (moments_of (pixels marks db)) c))
