-- The numbers of the gammas that curve, as spec/specs/Gamma has them. Definitions only.
use Rattle.std.specs.Prelude.{ℕ, Option, Some, None}
use Rattle.gamma.specs.declared.CurvedGamma.{CurvedGamma}
use Rattle.gamma.specs.declared.CurvedGamma.TheVariants.{Gamma08, Gamma09, Gamma11}

-- "the three in this order, numbered from 0"
abbrev pub number : CurvedGamma → ℕ
number Gamma08 = 0
number Gamma09 = 1
number Gamma11 = 2

-- 3 is the straight line
abbrev pub number_or_straight : Option CurvedGamma → ℕ
number_or_straight (Some gamma) = number gamma
number_or_straight None = 3
