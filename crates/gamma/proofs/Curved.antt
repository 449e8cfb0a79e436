-- The numbers of the gammas that curve are below 3, the number of a straight line. Assumes nothing.
use Prim.Native.Nat.{◌<◌}
use native.Mathlib.Omega.{arith}
use Rattle.gamma.specs.declared.CurvedGamma.{CurvedGamma}
use Rattle.gamma.specs.declared.CurvedGamma.TheVariants.{Gamma08, Gamma09, Gamma11}
use Rattle.gamma.specs.Curved.{number}

pub number-lt : (gamma : CurvedGamma) → number gamma < 3
number-lt Gamma08 = omega arith
number-lt Gamma09 = omega arith
number-lt Gamma11 = omega arith
