-- What a reader will ask beside the three claims. Statements only: the proofs are in proofs/.
use Rattle.std.specs.Prelude.{ℕ, ◌≡◌, Bool, List, [], map, length, Float}
use Rattle.types.specs.declared.AutoscaleStrategy.{AutoscaleStrategy}
use Rattle.types.specs.declared.AutoscaleStrategy.TheVariants.{Adaptive, Tamed}
use Rattle.types.specs.declared.PictureChoices.{PictureChoices}
use Rattle.types.specs.declared.SyntheticRgbMode.{SyntheticRgbMode}
use Rattle.types.specs.declared.HistogramStats.{HistogramStats}
use Rattle.spec.specs.Answer.{done, number}
use Rattle.spec.specs.Lists.{count_of, sum_of}
use Rattle.spec.specs.Bins.{bin_of, histogram}
use Rattle.spec.specs.Pixels.{pixels}
use Rattle.spec.specs.Statistics.{statistics_of, compute_histogram_stats}
use Rattle.spec.specs.Window.{window_of, picture_window, autoscale_window}
use Rattle.spec.specs.Grey.{autoscale_db_image_to_u8}
use Rattle.spec.specs.Colour.{create_synthetic_rgb_by_mode_and_strategy}
use Rattle.types.specs.declared.Lent.{Lent}
use Rattle.spec.specs.Copol.{synthetic_rgb_picture_copol}
use Rattle.spec.specs.Picture.{Picture}

-- the statistics with another mean and deviation
abbrev pub with_mean : Float → Float → HistogramStats → HistogramStats
with_mean m d s =
    record {
      valid_count = s.valid_count;
      min_db = s.min_db;
      max_db = s.max_db;
      mean_db = m;
      std_db = d;
      median_db = s.median_db;
      p01 = s.p01;
      p02 = s.p02;
      p05 = s.p05;
      p10 = s.p10;
      p25 = s.p25;
      p75 = s.p75;
      p90 = s.p90;
      p95 = s.p95;
      p98 = s.p98;
      p99 = s.p99;
      p05_bin = s.p05_bin;
      p95_bin = s.p95_bin;
      max_row = s.max_row;
      max_col = s.max_col;
    }

-- the statistics with other bins
abbrev pub with_bins : ℕ → ℕ → HistogramStats → HistogramStats
with_bins b05 b95 s =
    record {
      valid_count = s.valid_count;
      min_db = s.min_db;
      max_db = s.max_db;
      mean_db = s.mean_db;
      std_db = s.std_db;
      median_db = s.median_db;
      p01 = s.p01;
      p02 = s.p02;
      p05 = s.p05;
      p10 = s.p10;
      p25 = s.p25;
      p75 = s.p75;
      p90 = s.p90;
      p95 = s.p95;
      p98 = s.p98;
      p99 = s.p99;
      p05_bin = b05;
      p95_bin = b95;
      max_row = s.max_row;
      max_col = s.max_col;
    }

-- the statistics with another place of the maximum
abbrev pub with_place : ℕ → ℕ → HistogramStats → HistogramStats
with_place row col s =
    record {
      valid_count = s.valid_count;
      min_db = s.min_db;
      max_db = s.max_db;
      mean_db = s.mean_db;
      std_db = s.std_db;
      median_db = s.median_db;
      p01 = s.p01;
      p02 = s.p02;
      p05 = s.p05;
      p10 = s.p10;
      p25 = s.p25;
      p75 = s.p75;
      p90 = s.p90;
      p95 = s.p95;
      p98 = s.p98;
      p99 = s.p99;
      p05_bin = s.p05_bin;
      p95_bin = s.p95_bin;
      max_row = row;
      max_col = col;
    }

pub record Beside : Type 0 where
  -- "An invented valid count: it equals the number of 1 marks."
  pub count :
      (rows cols : ℕ) (marks : List ℕ) (db : List Float) (s : HistogramStats) → compute_histogram_stats rows cols marks db ≡ done s → s.valid_count ≡ count_of 1 marks
  -- "The bins sum to the valid count."
  pub bins : (least inv : Float) (vs : List Float) → sum_of (histogram (map (bin_of least inv) vs)) ≡ length vs
  -- "A window is blank exactly if no refusal applies and no mark is 1." A blank window has no floats.
  pub blank :
      (strategy : AutoscaleStrategy) (rows cols : ℕ) (marks : List ℕ) (db : List Float) →
      number (autoscale_window strategy rows cols marks db) ≡ 0 → count_of 1 marks ≡ 0 → autoscale_window strategy rows cols marks db ≡ done []
  pub only_blank :
      (strategy : AutoscaleStrategy) (rows cols : ℕ) (marks : List ℕ) (db : List Float) →
      autoscale_window strategy rows cols marks db ≡ done [] → count_of 1 marks ≡ 0
  -- only Adaptive reads the mean and the deviation
  pub mean_unread :
      (strategy : AutoscaleStrategy) → (strategy ≡ Adaptive → ⊥) → (s : HistogramStats) (m d : Float) → window_of strategy (with_mean m d s) ≡ window_of strategy s
  pub picture_mean_unread :
      (strategy : AutoscaleStrategy) → (strategy ≡ Adaptive → ⊥) → (copol : Bool) (s : HistogramStats) (m d : Float) →
      picture_window strategy copol (with_mean m d s) ≡ picture_window strategy copol s
  -- document 02, F-6: "Pixel bytes are unaffected": no window reads the bins, and greys and colours read windows
  pub bins_unread : (strategy : AutoscaleStrategy) (s : HistogramStats) (b05 b95 : ℕ) → window_of strategy (with_bins b05 b95 s) ≡ window_of strategy s
  pub picture_bins_unread :
      (strategy : AutoscaleStrategy) (copol : Bool) (s : HistogramStats) (b05 b95 : ℕ) → picture_window strategy copol (with_bins b05 b95 s) ≡ picture_window strategy copol s
  -- document 02, F-11: windows are taken from statistics without the place, and would be the same with any
  pub place_unread : (strategy : AutoscaleStrategy) (s : HistogramStats) (row col : ℕ) → window_of strategy (with_place row col s) ≡ window_of strategy s
  pub picture_place_unread :
      (strategy : AutoscaleStrategy) (copol : Bool) (s : HistogramStats) (row col : ℕ) → picture_window strategy copol (with_place row col s) ≡ picture_window strategy copol s
  -- the statistics call differs from what windows read by the place alone
  pub placed :
      (rows cols : ℕ) (marks : List ℕ) (db : List Float) (s : HistogramStats) → compute_histogram_stats rows cols marks db ≡ done s → s ≡ with_place s.max_row s.max_col (statistics_of (pixels marks db))
  -- outside Tamed the greys of a picture are those of the grey call at 8 bits
  pub picture_greys :
      (choices : PictureChoices) → (choices.strategy ≡ Tamed → ⊥) → (rows cols : ℕ) (marks1 : List ℕ) (db1 : List Float) (marks2 : List ℕ) (db2 : List Float)
      (lent : Lent) (p : Picture) → synthetic_rgb_picture_copol choices rows cols marks1 db1 marks2 db2 lent ≡ done p →
      (autoscale_db_image_to_u8 choices.strategy rows cols marks1 db1 lent.grey1 lent.work ≡ done p.grey1)
      × (autoscale_db_image_to_u8 choices.strategy rows cols marks2 db2 lent.grey2 lent.work ≡ done p.grey2)
  -- "all modes agree"
  pub picture_modes :
      (choices : PictureChoices) (mode : SyntheticRgbMode) (rows cols : ℕ) (marks1 : List ℕ) (db1 : List Float) (marks2 : List ℕ) (db2 : List Float) (lent : Lent) →
      synthetic_rgb_picture_copol choices rows cols marks1 db1 marks2 db2 lent ≡ synthetic_rgb_picture_copol (record { strategy = choices.strategy; mode = mode; copol = choices.copol }) rows cols marks1 db1 marks2 db2 lent
  pub composition_modes :
      (strategy : AutoscaleStrategy) (mode mode' : SyntheticRgbMode) (band1 band2 : List ℕ) (out : ℕ) → create_synthetic_rgb_by_mode_and_strategy mode strategy band1 band2 out ≡ create_synthetic_rgb_by_mode_and_strategy mode' strategy band1 band2 out
