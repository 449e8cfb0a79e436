-- `quicklook::band::put_statistics` meets its contract. Assumes nothing.
use mathlib.Core.Path.{refl}
use Rattle.quicklook.specs.Numbers.{whole_of, floats_of}
use Rattle.quicklook.proofs.band.put_statistics.Goals as goal

pub returns : goal.returns
unfolding whole_of floats_of
returns c = (refl, refl)
