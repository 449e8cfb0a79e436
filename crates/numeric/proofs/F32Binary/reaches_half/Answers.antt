-- `f32` meets `Binary::reaches_half`: 0.5 by its pattern is the half. Assumes nothing.
use Rattle.std.proofs.Common.{refl}
use lib.Ieee.{of_bits}
use Rattle.numeric.proofs.F32Binary.reaches_half.Goals as goal

pub returns : goal.returns
unfolding of_bits
returns c = refl
