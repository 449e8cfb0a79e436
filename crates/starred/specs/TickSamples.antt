-- Document 02, F-6, on rows of valid pixels. Statements only: the proofs are in proofs/.
use Rattle.std.specs.Prelude.{ℕ, ◌≡◌, List, [], ◌∷◌, length, get_or, replicate, Float}
use Rattle.std.specs.Float.{binary64}
use Rattle.std.specs.Float.Ieee.{of_bits}
use Rattle.spec.specs.Floats.{zero64, half64, of_count}
use Rattle.spec.specs.Answer.{refused}
use Rattle.spec.specs.Lists.{sum_of}
use Rattle.spec.specs.Moments.{no_moments, moments_from}
use Rattle.spec.specs.Pixels.{pixels}
use Rattle.spec.specs.Percentile.{estimate_percentile}
use Rattle.spec.specs.Curve.{curve_of, compute_histogram}
use Rattle.types.specs.declared.Percentile.{Percentile}
use Rattle.starred.specs.Samples.{stats, deep}

abbrev pub curve : List Float → List ℕ
curve db = curve_of (pixels (replicate (length db) 1) db)

abbrev pub tick_of : List Float → Float → Percentile
tick_of db p = estimate_percentile (moments_from no_moments db) (curve db) p

-- three equal values and a larger one
abbrev pub four : List Float
four = of_count 0 ∷ of_count 0 ∷ of_count 0 ∷ of_count 10 ∷ []

-- 0 and 2^-53: the span is below 2^-52
abbrev pub level : List Float
level = of_count 0 ∷ of_bits binary64 0x3ca0_0000_0000_0000 ∷ []

pub record TickSamples : Type 0 where
  -- "its bin and its rank within the bin": the target of the median is 2, and bin 0 holds three values
  pub four_median : tick_of four half64 ≡ record { value = of_bits binary64 0x3f5a_aaaa_aaaa_aaaa; bin = 0; rank = 2 }
  -- "carries the bins of p05 and p95"
  pub four_p05 : (stats four).p05_bin ≡ 0
  pub four_p95 : (stats four).p95_bin ≡ 4095
  pub four_first : get_or (curve four) 0 0 ≡ 3
  pub four_last : get_or (curve four) 4095 0 ≡ 1
  pub four_sum : sum_of (curve four) ≡ 4
  -- "0 and 0 for flat scenes", also where the greatest lies above the least
  pub level_p95 : tick_of level (of_bits binary64 0x3fee_6666_6666_6666) ≡ record { value = of_bits binary64 0x3ca0_0000_0000_0000; bin = 0; rank = 0 }
  pub level_first : get_or (curve level) 0 0 ≡ 2
  pub one_p95 : (stats (deep ∷ [])).p95_bin ≡ 0
  -- "and blank bands"
  pub blank_median : tick_of [] half64 ≡ record { value = zero64; bin = 0; rank = 0 }
  pub blank_sum : sum_of (curve []) ≡ 0
  -- a lent list one too short
  pub short : compute_histogram 1 1 (1 ∷ []) (deep ∷ []) 4095 ≡ refused 2
  -- a side above 4,096 comes first
  pub long_side : compute_histogram 4097 0 [] [] 4095 ≡ refused 1
