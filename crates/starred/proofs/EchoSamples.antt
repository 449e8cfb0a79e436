-- The samples of F-11 hold, each by computation. Assumes nothing.
use mathlib.Core.Path.{refl}
use Rattle.starred.specs.Computing.{computing}
use Rattle.starred.specs.EchoSamples.{EchoSamples}

pub echo_samples : EchoSamples
unfolding computing
echo_samples = record { last = refl; first_of_equals = refl; invalid_skipped = refl; zero_first = refl; none_valid = refl; no_pixel = (refl, refl); not_a_number = refl }
