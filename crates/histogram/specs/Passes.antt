-- What a pass over a band answers: nothing where a valid dB is refused, or the moments of the valid dB. Definitions only.
use Rattle.std.specs.Prelude.{ℕ, cond, List, Option, None, Some}
use Rattle.types.specs.declared.Moments.{Moments}
use Rattle.spec.specs.Pixels.{Pixel, valid_of}
use Rattle.spec.specs.Refusals.{decibels_refused}
use Rattle.spec.specs.Moments.{no_moments, moments_from}
use Rattle.spec.specs.Strongest.{strongest}
use Rattle.histogram.specs.Extremes.{extremes_from}

unfoldable pub passed : {A : Type 0} → List Pixel → A → Option A
passed px s = cond (decibels_refused px) None (Some s)

unfoldable pub first_pass : List Pixel → Option Moments
first_pass px = passed px (moments_from no_moments (valid_of px))

-- with the place of the first maximum
unfoldable pub placed_pass : List Pixel → Option (Moments × ℕ)
placed_pass px = passed px (moments_from no_moments (valid_of px), strongest px)

unfoldable pub extremes : List Pixel → Option Moments
extremes px = passed px (extremes_from no_moments (valid_of px))
