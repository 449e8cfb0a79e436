-- The valid count is the number of valid pixels, and of 1 marks. Assumes nothing.
use mathlib.Core.Path.{◌≡◌, refl, sym, ◌∙◌}
use mathlib.Core.Bool.{false}
use mathlib.Core.List.{List, [], ◌∷◌}
use Prim.Native.Nat.{ℕ, ◌+◌}
use native.Mathlib.Nat.{add-zero}
use native.Mathlib.Omega.{arith}
use lib.ListN.{length}
use lib.Ieee.{Float}
use Rattle.types.specs.declared.Moments.{Moments}
use Rattle.types.specs.declared.Place.{Place}
use Rattle.spec.specs.Lists.{count_of}
use Rattle.spec.specs.Pixels.{Pixel, pixels, valid_of}
use Rattle.spec.specs.Refusals.{marks_refused}
use Rattle.spec.specs.Moments.{no_moments, with_value, moments_from}
use Rattle.spec.specs.Statistics.{gathered, summary}
use Rattle.raster.proofs.Bands.{valid-ones}

pub moments_count : (s : Moments) (vs : List Float) → (moments_from s vs).count ≡ s.count + length vs
unfolding moments_from with_value
moments_count s [] = sym (add-zero s.count)
moments_count s (v ∷ vs) = moments_count (with_value s v) vs ∙ omega arith

summary-count : (s : Moments) (place : Place) (vs : List Float) → (summary s place vs).valid_count ≡ s.count
unfolding summary gathered
summary-count s place vs = refl

pub count-valid : (px : List Pixel) (place : Place) → (summary (moments_from no_moments (valid_of px)) place (valid_of px)).valid_count ≡ length (valid_of px)
unfolding no_moments
count-valid px place = summary-count (moments_from no_moments (valid_of px)) place (valid_of px) ∙ moments_count no_moments (valid_of px) ∙ omega arith

pub count-marks : (m : List ℕ) (d : List Float) (place : Place) → length m ≡ length d → marks_refused m ≡ false → (summary (moments_from no_moments (valid_of (pixels m d))) place (valid_of (pixels m d))).valid_count ≡ count_of 1 m
count-marks m d place e b = count-valid (pixels m d) place ∙ valid-ones m d e b
