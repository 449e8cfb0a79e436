-- The floats of the statistics and of the windows of a band that is not refused are finite and bounded. Statements only: the proofs are in proofs/.
use Rattle.std.specs.Prelude.{ℕ, ◌≤◌, ◌<◌, ◌≡◌, Bool, false, List, T, length, get_or, Float}
use Rattle.std.specs.Float.{nan, binary64}
use Rattle.std.specs.Float.Ieee.{le, neg, fits}
use Rattle.types.specs.declared.AutoscaleStrategy.{AutoscaleStrategy}
use Rattle.types.specs.declared.HistogramStats.{HistogramStats}
use Rattle.types.specs.declared.WindowFloats.{WindowFloats}
use Rattle.std.specs.Prelude.{Option, Some, None}
use Rattle.spec.specs.Floats.{of_count}
use Rattle.spec.specs.Pixels.{pixels}
use Rattle.spec.specs.Refusals.{decibels_refused}
use Rattle.spec.specs.Statistics.{statistics_of, placed_statistics}
use Rattle.spec.specs.Window.{window_of, picture_window}

-- from -n to n, both ends included. No comparison with a NaN holds, so x is finite and no NaN.
abbrev pub Between : ℕ → Float → Type 0
Between n x = T (le (neg (of_count n)) x) × T (le x (of_count n))

-- a band of at most 4,096 × 4,096 dB, each an f64, that the table's number 4 does not refuse. Every f64 fits binary64; it is said because a list of floats
-- in the logic may hold other numbers as well.
pub record Accepted (marks : List ℕ) (db : List Float) : Type 0 where
  pub few : length db ≤ 16777216
  pub are_f64 : (i : ℕ) → i < length db → T (fits binary64 (get_or db i nan))
  pub not_refused : decibels_refused (pixels marks db) ≡ false

-- ---- the statistics

-- what holds of each of the eleven percentiles
pub record Percentiles (P : Float → Type 0) (s : HistogramStats) : Type 0 where
  pub median : P s.median_db
  pub p01 : P s.p01
  pub p02 : P s.p02
  pub p05 : P s.p05
  pub p10 : P s.p10
  pub p25 : P s.p25
  pub p75 : P s.p75
  pub p90 : P s.p90
  pub p95 : P s.p95
  pub p98 : P s.p98
  pub p99 : P s.p99

pub record BoundedStatistics (s : HistogramStats) : Type 0 where
  pub least : Between 1000 s.min_db
  pub greatest : Between 1000 s.max_db
  pub mean : Between 1000 s.mean_db
  pub deviation : Between 2000 s.std_db
  pub percentiles : Percentiles (Between 2000) s

-- every float of the statistics is bounded
unfoldable pub StatisticsBounded : Type 0
StatisticsBounded = (cols : ℕ) (marks : List ℕ) (db : List Float) → Accepted marks db → BoundedStatistics (placed_statistics cols (pixels marks db))

-- every percentile is at least the least value
unfoldable pub PercentilesLeast : Type 0
PercentilesLeast = (cols : ℕ) (marks : List ℕ) (db : List Float) → Accepted marks db → Percentiles (λ x. T (le (placed_statistics cols (pixels marks db)).min_db x)) (placed_statistics cols (pixels marks db))

-- ---- the windows

pub record BoundedWindow (low high range : Float) : Type 0 where
  pub low_bounded : Between 100000 low
  pub high_bounded : Between 100000 high
  pub range_bounded : Between 100000 range
  pub range_least : T (le (of_count 1) range)

-- a blank window has no floats
abbrev pub BoundedAnswer : Option WindowFloats → Type 0
BoundedAnswer (Some w) = BoundedWindow w.low w.high w.range
BoundedAnswer None = Unit

-- low, high and range of every window are bounded, and the range is at least 1: in every strategy, in the window call and in a picture, for both polarisations
unfoldable pub WindowsBounded : Type 0
WindowsBounded =
    (strategy : AutoscaleStrategy) (marks : List ℕ) (db : List Float) → Accepted marks db →
    BoundedAnswer (window_of strategy (statistics_of (pixels marks db))) × ((copol : Bool) → BoundedAnswer (picture_window strategy copol (statistics_of (pixels marks db))))
