-- Moments whose mean and m2 stay 0, for the strategies that read neither. Definitions only.
use Rattle.std.specs.Prelude.{◌+◌, cond, ◌||◌, List, [], ◌∷◌, eqb, Float}
use Rattle.std.specs.Float.Ieee.{lt}
use Rattle.types.specs.declared.Moments.{Moments}
use Rattle.types.specs.declared.HistogramStats.{HistogramStats}
use Rattle.spec.specs.Floats.{zero64}

-- count, least and greatest with one value more
unfoldable pub with_extreme : Moments → Float → Moments
with_extreme s v =
    let first = eqb s.count 0 in
    record {
      count = s.count + 1;
      min_db = cond (first || lt v s.min_db) v s.min_db;
      max_db = cond (first || lt s.max_db v) v s.max_db;
      mean = s.mean;
      m2 = s.m2;
    }

unfoldable pub extremes_from : Moments → List Float → Moments
extremes_from s [] = s
extremes_from s (v ∷ vs) = extremes_from (with_extreme s v) vs

-- the same count, least and greatest, mean and m2 0
unfoldable pub meanless : Moments → Moments
meanless s = record { count = s.count; min_db = s.min_db; max_db = s.max_db; mean = zero64; m2 = zero64 }

-- the record with another mean and deviation
unfoldable pub with_mean : Float → Float → HistogramStats → HistogramStats
with_mean mean deviation s =
    record {
      valid_count = s.valid_count;
      min_db = s.min_db;
      max_db = s.max_db;
      mean_db = mean;
      std_db = deviation;
      median_db = s.median_db;
      p01 = s.p01;
      p02 = s.p02;
      p05 = s.p05;
      p10 = s.p10;
      p25 = s.p25;
      p75 = s.p75;
      p90 = s.p90;
      p95 = s.p95;
      p98 = s.p98;
      p99 = s.p99;
      p05_bin = s.p05_bin;
      p95_bin = s.p95_bin;
      max_row = s.max_row;
      max_col = s.max_col;
    }
