-- The samples of F-1 hold, each by computation. Assumes nothing.
use mathlib.Core.Path.{refl}
use Rattle.starred.specs.Computing.{computing}
use Rattle.starred.specs.GammaSamples.{GammaSamples}

pub gamma_samples : GammaSamples
unfolding computing
gamma_samples = record { half = refl; one = refl; none = refl; below = refl; beyond = refl; narrow_u8 = refl; narrow_u16 = refl; wide_u8 = refl; wide_u16 = refl }
