-- What statistics and windows leave in the lent numbers. Definitions only.
use Rattle.std.specs.Prelude.{ℕ, List, [], ◌∷◌, Float}
use Rattle.types.specs.declared.HistogramStats.{HistogramStats}
use Rattle.types.specs.declared.WindowFloats.{WindowFloats}
use Rattle.std.specs.Prelude.{Option, Some, None}
use Rattle.types.specs.declared.WindowFloats.{WindowFloats}
use Rattle.spec.specs.Answer.{Answer, refused, done}
use Rattle.types.specs.declared.PictureWindows.{PictureWindows}
use Rattle.spec.specs.Floats.{zero64}

-- a lent number afterwards, as `after` has it for a list
unfoldable pub kept : {A B : Type 0} → (A → B) → Answer A → B → B
kept f (refused k) old = old
kept f (done a) old = f a

-- "a count and fifteen floats", "the bins of p05 and p95", "the row and column of the first valid maximum": the whole numbers, then the floats
unfoldable pub whole_of : HistogramStats → List ℕ
whole_of s = s.valid_count ∷ s.p05_bin ∷ s.p95_bin ∷ s.max_row ∷ s.max_col ∷ []

unfoldable pub floats_of : HistogramStats → List Float
floats_of s =
    s.min_db ∷ s.max_db ∷ s.mean_db ∷ s.std_db ∷ s.median_db ∷ s.p01 ∷ s.p02 ∷ s.p05 ∷ s.p10 ∷ s.p25
    ∷ s.p75 ∷ s.p90 ∷ s.p95 ∷ s.p98 ∷ s.p99 ∷ []

-- a window's floats are none where it is blank: 1 for blank, else 0
unfoldable pub blank_of : List Float → ℕ
blank_of [] = 1
blank_of (x ∷ xs) = 0

-- low, high, range and gamma; zeros where it is blank
unfoldable pub floats_of_window : List Float → List Float
floats_of_window [] = zero64 ∷ zero64 ∷ zero64 ∷ zero64 ∷ []
floats_of_window (x ∷ xs) = x ∷ xs

-- document 02, F-2, two windows: 1 for a blank one, else 0; four floats of each, zeros of a blank one
unfoldable pub blank_mark : Option WindowFloats → ℕ
blank_mark (Some w) = 0
blank_mark None = 1

unfoldable pub floats_or_zeros : Option WindowFloats → WindowFloats
floats_or_zeros (Some w) = w
floats_or_zeros None = record { low = zero64; high = zero64; range = zero64; gamma = zero64 }

unfoldable pub blanks_of : PictureWindows → List ℕ
blanks_of w = blank_mark w.first ∷ blank_mark w.second ∷ []

unfoldable pub floats_of_both : PictureWindows → List Float
floats_of_both w =
    let a = floats_or_zeros w.first in
    let b = floats_or_zeros w.second in
    a.low ∷ a.high ∷ a.range ∷ a.gamma ∷ b.low ∷ b.high ∷ b.range ∷ b.gamma ∷ []
