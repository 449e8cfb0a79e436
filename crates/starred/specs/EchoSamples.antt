-- Document 02, F-11, on bands of two columns. Statements only: the proofs are in proofs/.
use Rattle.std.specs.Prelude.{ℕ, ◌≡◌, List, [], ◌∷◌, Float}
use Rattle.std.specs.Float.{binary64, nan}
use Rattle.std.specs.Float.Ieee.{of_bits}
use Rattle.spec.specs.Floats.{of_count}
use Rattle.spec.specs.Answer.{refused}
use Rattle.spec.specs.Pixels.{pixels}
use Rattle.spec.specs.Statistics.{placed_statistics, compute_histogram_stats}
use Rattle.types.specs.declared.Place.{Place}

-- the place in two columns
abbrev pub echo : List ℕ → List Float → Place
echo marks db = record { row = (placed_statistics 2 (pixels marks db)).max_row; col = (placed_statistics 2 (pixels marks db)).max_col }

-- -0
abbrev pub minus_zero : Float
minus_zero = of_bits binary64 0x8000_0000_0000_0000

pub record EchoSamples : Type 0 where
  -- "the row and column of the first valid maximum"
  pub last : echo (1 ∷ 1 ∷ 1 ∷ 1 ∷ []) (of_count 3 ∷ of_count 5 ∷ of_count 4 ∷ of_count 7 ∷ []) ≡ record { row = 1; col = 1 }
  pub first_of_equals : echo (1 ∷ 1 ∷ 1 ∷ 1 ∷ []) (of_count 3 ∷ of_count 7 ∷ of_count 7 ∷ of_count 7 ∷ []) ≡ record { row = 0; col = 1 }
  -- an invalid pixel counts for the place, and not for the maximum
  pub invalid_skipped : echo (0 ∷ 1 ∷ 1 ∷ 0 ∷ []) (of_count 9 ∷ of_count 3 ∷ of_count 5 ∷ nan ∷ []) ≡ record { row = 1; col = 0 }
  -- -0 and 0 are equal: the first met
  pub zero_first : echo (1 ∷ 1 ∷ []) (minus_zero ∷ of_count 0 ∷ []) ≡ record { row = 0; col = 0 }
  -- "0 and 0 without one"
  pub none_valid : echo (0 ∷ 0 ∷ 0 ∷ 0 ∷ []) (of_count 1 ∷ of_count 2 ∷ of_count 3 ∷ of_count 4 ∷ []) ≡ record { row = 0; col = 0 }
  pub no_pixel : ((placed_statistics 0 []).max_row ≡ 0) × ((placed_statistics 0 []).max_col ≡ 0)
  pub not_a_number : compute_histogram_stats 1 2 (1 ∷ 1 ∷ []) (of_count 1 ∷ nan ∷ []) ≡ refused 4
