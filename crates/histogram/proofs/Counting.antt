-- The valid count is the number of valid pixels. Assumes nothing.
use mathlib.Core.Path.{◌≡◌, refl, sym, ◌∙◌}
use mathlib.Core.List.{List, [], ◌∷◌}
use Prim.Native.Nat.{◌+◌}
use native.Mathlib.Nat.{add-zero}
use native.Mathlib.Omega.{arith}
use lib.ListN.{length}
use lib.Ieee.{Float}
use Rattle.types.specs.declared.Moments.{Moments}
use Rattle.types.specs.declared.Place.{Place}
use Rattle.spec.specs.Moments.{no_moments, with_value, moments_from}
use Rattle.spec.specs.Pixels.{Pixel, valid_of}
use Rattle.spec.specs.Strongest.{nowhere}
use Rattle.spec.specs.Statistics.{gathered, summary, summary_of, statistics_of}

pub moments_count : (s : Moments) (vs : List Float) → (moments_from s vs).count ≡ s.count + length vs
unfolding moments_from with_value
moments_count s [] = sym (add-zero s.count)
moments_count s (v ∷ vs) = moments_count (with_value s v) vs ∙ omega arith

pub none-count : (vs : List Float) → (moments_from no_moments vs).count ≡ length vs
unfolding no_moments
none-count vs = moments_count no_moments vs ∙ omega arith

pub summary-count : (s : Moments) (place : Place) (vs : List Float) → (summary s place vs).valid_count ≡ s.count
unfolding summary gathered
summary-count s place vs = refl

pub count-valid : (px : List Pixel) → (statistics_of px).valid_count ≡ length (valid_of px)
unfolding statistics_of summary_of
count-valid px = summary-count (moments_from no_moments (valid_of px)) nowhere (valid_of px) ∙ none-count (valid_of px)
