-- Document 02, F-11: where the strongest echo is. Statements only: the proofs are in proofs/.
use Rattle.std.specs.Prelude.{ℕ, ◌+◌, ◌*◌, ◌<◌, ◌≡◌, List, T, get_or, Float}
use Rattle.std.specs.Float.{nan}
use Rattle.std.specs.Float.Ieee.{le, lt}
use Rattle.types.specs.declared.HistogramStats.{HistogramStats}
use Rattle.spec.specs.Answer.{done}
use Rattle.spec.specs.Statistics.{compute_histogram_stats}

-- the place in the lists
abbrev pub at : ℕ → HistogramStats → ℕ
at cols s = s.max_row * cols + s.max_col

-- of the statistics call, where it is done
pub record Echo : Type 0 where
  -- "0 and 0 without one"
  pub none :
      (rows cols : ℕ) (marks : List ℕ) (db : List Float) (s : HistogramStats) → compute_histogram_stats rows cols marks db ≡ done s → s.valid_count ≡ 0 →
      (s.max_row ≡ 0) × (s.max_col ≡ 0)
  -- "the row and column": of the raster
  pub inside :
      (rows cols : ℕ) (marks : List ℕ) (db : List Float) (s : HistogramStats) → compute_histogram_stats rows cols marks db ≡ done s → 0 < s.valid_count →
      (s.max_row < rows) × (s.max_col < cols)
  -- "valid"
  pub valid :
      (rows cols : ℕ) (marks : List ℕ) (db : List Float) (s : HistogramStats) → compute_histogram_stats rows cols marks db ≡ done s → 0 < s.valid_count →
      get_or marks (at cols s) 0 ≡ 1
  -- "maximum"
  pub maximum :
      (rows cols : ℕ) (marks : List ℕ) (db : List Float) (s : HistogramStats) → compute_histogram_stats rows cols marks db ≡ done s → 0 < s.valid_count →
      get_or db (at cols s) nan ≡ s.max_db
  -- "maximum": no valid dB is greater
  pub greatest :
      (rows cols : ℕ) (marks : List ℕ) (db : List Float) (s : HistogramStats) → compute_histogram_stats rows cols marks db ≡ done s →
      (j : ℕ) → j < rows * cols → get_or marks j 0 ≡ 1 → T (le (get_or db j nan) s.max_db)
  -- "first": every valid dB before it is smaller
  pub first :
      (rows cols : ℕ) (marks : List ℕ) (db : List Float) (s : HistogramStats) → compute_histogram_stats rows cols marks db ≡ done s → 0 < s.valid_count →
      (j : ℕ) → j < at cols s → get_or marks j 0 ≡ 1 → T (lt (get_or db j nan) s.max_db)
