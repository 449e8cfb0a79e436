-- The statistics and the windows of an accepted band are bounded. Assumes nothing.
use mathlib.Core.Bool.{Bool}
use lib.Dec.{lit≤}
use lib.Ieee.{Float}
use Rattle.types.specs.declared.HistogramStats.{HistogramStats}
use Rattle.spec.specs.Pixels.{pixels}
use Rattle.spec.specs.Statistics.{statistics_of, placed_statistics}
use Rattle.numeric.proofs.Within.{Within, within_weaken}
use Rattle.bounds.specs.Bounds.{Between, Percentiles, BoundedStatistics, StatisticsBounded, PercentilesLeast, WindowsBounded}
use Rattle.bounds.proofs.Statistics.{Bounded, accepted_bounded, placed_bounded, placed-least}
use Rattle.bounds.proofs.Windows.{ends, window_bounded, picture-window_bounded}

each : (P Q : Float → Type 0) → ((x : Float) → P x → Q x) → (s : HistogramStats) → Percentiles P s → Percentiles Q s
each P Q f s p =
    record {
      median = f _ p.median;
      p01 = f _ p.p01;
      p02 = f _ p.p02;
      p05 = f _ p.p05;
      p10 = f _ p.p10;
      p25 = f _ p.p25;
      p75 = f _ p.p75;
      p90 = f _ p.p90;
      p95 = f _ p.p95;
      p98 = f _ p.p98;
      p99 = f _ p.p99;
    }

bounded : (s : HistogramStats) → Bounded s → BoundedStatistics s
bounded s b =
    record {
      least = ends _ (lit≤ tt) s.min_db (within_weaken s.min_db (lit≤ tt) b.least);
      greatest = ends _ (lit≤ tt) s.max_db (within_weaken s.max_db (lit≤ tt) b.greatest);
      mean = ends _ (lit≤ tt) s.mean_db (within_weaken s.mean_db (lit≤ tt) b.mean);
      deviation = ends _ (lit≤ tt) s.std_db (within_weaken s.std_db (lit≤ tt) b.deviation);
      percentiles = each (Within 2000) (Between _) (λ x w. ends _ (lit≤ tt) x (within_weaken x (lit≤ tt) w)) s b.percentiles;
    }

pub statistics_bounded : StatisticsBounded
unfolding StatisticsBounded
statistics_bounded cols marks db a = bounded (placed_statistics cols (pixels marks db)) (placed_bounded marks db a cols)

pub percentiles-least : PercentilesLeast
unfolding PercentilesLeast
percentiles-least cols marks db a = placed-least marks db a cols

pub windows_bounded : WindowsBounded
unfolding WindowsBounded
windows_bounded strategy marks db a =
    let s = statistics_of (pixels marks db) in
    let b = accepted_bounded marks db a in
    (window_bounded strategy s b, λ (copol : Bool). picture-window_bounded strategy copol s b)
