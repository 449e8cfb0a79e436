-- The samples of F-2 hold, each by computation. Assumes nothing.
use mathlib.Core.Path.{◌≡◌, refl}
use Rattle.types.specs.declared.AutoscaleStrategy.TheVariants.{Tamed, Default}
use Rattle.types.specs.declared.CoPol.TheVariants.{Band1, Band2}
use Rattle.starred.specs.Computing.{computing}
use Rattle.starred.specs.CopolSamples.{CopolSamples, grey1, grey2, from_p02, from_p05, within_p95}

first1 : grey1 Tamed Band1 ≡ from_p02
unfolding computing
first1 = refl

first2 : grey2 Tamed Band1 ≡ from_p05
unfolding computing
first2 = refl

second1 : grey1 Tamed Band2 ≡ from_p05
unfolding computing
second1 = refl

second2 : grey2 Tamed Band2 ≡ from_p02
unfolding computing
second2 = refl

default1 : grey1 Default Band1 ≡ within_p95
unfolding computing
default1 = refl

default2 : grey1 Default Band2 ≡ within_p95
unfolding computing
default2 = refl

default3 : grey2 Default Band1 ≡ within_p95
unfolding computing
default3 = refl

default4 : grey2 Default Band2 ≡ within_p95
unfolding computing
default4 = refl

pub copol_samples : CopolSamples
unfolding computing
copol_samples = record { first = (first1, first2); second = (second1, second2); by_default = (default1, default2, default3, default4); windows = refl; not_a_number = refl }
