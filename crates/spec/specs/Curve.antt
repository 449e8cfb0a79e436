-- Document 02, F-6: "Oceanographers draw the cut on the curve." The curve of a band: how many of its values stand in each of the 4,096 bins. Definitions only.
use Rattle.std.specs.Prelude.{ℕ, ◌||◌, List, [], ◌∷◌, Float}
use Rattle.spec.specs.Answer.{Answer, first_of, answer}
use Rattle.spec.specs.Pixels.{Pixel, pixels, valid_of}
use Rattle.spec.specs.Refusals.{sides_refused, unlike, lengths_refused, marks_refused, decibels_refused}
use Rattle.spec.specs.Moments.{no_moments, moments_from}
use Rattle.spec.specs.Bins.{bins_of}

-- the counts that the statistics of a band are read off
unfoldable pub curve_of : List Pixel → List ℕ
curve_of px = bins_of (moments_from no_moments (valid_of px)) (valid_of px)

-- the curve call: refusals 1 to 4, the lent list 4,096 long, then the counts
unfoldable pub compute_histogram : ℕ → ℕ → List ℕ → List Float → ℕ → Answer (List ℕ)
compute_histogram rows cols marks db out =
    let px = pixels marks db in
    let curve = curve_of px in
    answer (first_of 1 (sides_refused rows cols ∷ (lengths_refused rows cols marks db || unlike out 4096) ∷ marks_refused marks ∷ decibels_refused px ∷ [])) curve
