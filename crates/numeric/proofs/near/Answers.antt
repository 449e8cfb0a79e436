-- `numeric::near` meets its contract: the casts are defined, and keep the whole number. Assumes nothing.
use Rattle.std.proofs.Common.{refl}
use Rattle.numeric.proofs.Small.{near, in_range, fits_back, nearest_is}
use Rattle.numeric.proofs.near.Goals as goal

pub float_to_int-result : goal.float_to_int-result
float_to_int-result c = in_range (near _ (c.requires.fact_1, c.requires.fact_2))

pub overflow_cast-result : goal.overflow_cast-result
overflow_cast-result c = fits_back (near _ (c.requires.fact_1, c.requires.fact_2))

pub returns : goal.returns
returns c = (refl, nearest_is (near _ (c.requires.fact_1, c.requires.fact_2)))
