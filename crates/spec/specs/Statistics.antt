-- "The statistics are one record of a count and fifteen floats"; document 02, F-6: it "carries the bins of p05 and p95"; F-11: it "gains the row and column of the first valid maximum". Definitions only.
use Rattle.std.specs.Prelude.{ℕ, cond, List, [], ◌∷◌, ltb, Float}
use Rattle.std.specs.Float.{binary64}
use Rattle.std.specs.Float.Ieee.{div, of_bits}
use Rattle.types.specs.declared.HistogramStats.{HistogramStats}
use Rattle.types.specs.declared.Moments.{Moments}
use Rattle.types.specs.declared.Percentile.{Percentile}
use Rattle.types.specs.declared.Place.{Place}
use Rattle.spec.specs.Floats.{zero64, half64, of_count}
use Rattle.spec.specs.Root.{sqrt_float}
use Rattle.spec.specs.Answer.{Answer, first_of, answer}
use Rattle.spec.specs.Pixels.{Pixel, pixels, valid_of}
use Rattle.spec.specs.Refusals.{sides_refused, lengths_refused, marks_refused, decibels_refused}
use Rattle.spec.specs.Moments.{no_moments, moments_from}
use Rattle.spec.specs.Strongest.{strongest, place_in, nowhere}
use Rattle.spec.specs.Bins.{bins_of}
use Rattle.spec.specs.Percentile.{estimate_percentile}

-- "deviation = root of m2/count, 0 for count 1"
unfoldable pub deviation_of : Moments → Float
deviation_of s = cond (ltb 1 s.count) (sqrt_float (div binary64 s.m2 (of_count s.count))) zero64

-- moments, the place of the maximum and percentiles as one record
unfoldable pub gathered : Moments → Place → (Float → Percentile) → HistogramStats
gathered s place p =
    record {
      valid_count = s.count;
      min_db = s.min_db;
      max_db = s.max_db;
      mean_db = s.mean;
      std_db = deviation_of s;
      median_db = (p half64).value;
      p01 = (p (of_bits binary64 0x3f84_7ae1_47ae_147b)).value;
      p02 = (p (of_bits binary64 0x3f94_7ae1_47ae_147b)).value;
      p05 = (p (of_bits binary64 0x3fa9_9999_9999_999a)).value;
      p10 = (p (of_bits binary64 0x3fb9_9999_9999_999a)).value;
      p25 = (p (of_bits binary64 0x3fd0_0000_0000_0000)).value;
      p75 = (p (of_bits binary64 0x3fe8_0000_0000_0000)).value;
      p90 = (p (of_bits binary64 0x3fec_cccc_cccc_cccd)).value;
      p95 = (p (of_bits binary64 0x3fee_6666_6666_6666)).value;
      p98 = (p (of_bits binary64 0x3fef_5c28_f5c2_8f5c)).value;
      p99 = (p (of_bits binary64 0x3fef_ae14_7ae1_47ae)).value;
      p05_bin = (p (of_bits binary64 0x3fa9_9999_9999_999a)).bin;
      p95_bin = (p (of_bits binary64 0x3fee_6666_6666_6666)).bin;
      max_row = place.row;
      max_col = place.col;
    }

-- of values with these moments, the maximum at a place
unfoldable pub summary : Moments → Place → List Float → HistogramStats
summary s place vs = gathered s place (estimate_percentile s (bins_of s vs))

-- of the valid dB. "With no valid pixel the count and all floats are 0": the moments of no value are zeros, and flat.
unfoldable pub summary_of : List Float → HistogramStats
summary_of vs = summary (moments_from no_moments vs) nowhere vs

-- the statistics of a band but for the place of its maximum, which windows do not read (`placed`, `place_unread`: demands/specs/Beside)
unfoldable pub statistics_of : List Pixel → HistogramStats
statistics_of px = summary_of (valid_of px)

-- the statistics of a band of so many columns
unfoldable pub placed_statistics : ℕ → List Pixel → HistogramStats
placed_statistics cols px = summary (moments_from no_moments (valid_of px)) (place_in cols (strongest px)) (valid_of px)

-- the statistics call: refusals 1 to 4, then the record
unfoldable pub compute_histogram_stats : ℕ → ℕ → List ℕ → List Float → Answer HistogramStats
compute_histogram_stats rows cols marks db =
    let px = pixels marks db in
    let stats = placed_statistics cols px in
    answer (first_of 1 (sides_refused rows cols ∷ lengths_refused rows cols marks db ∷ marks_refused marks ∷ decibels_refused px ∷ [])) stats
