-- The floor of any two bands, and of two short ones. Assumes nothing.
use mathlib.Core.Path.{◌≡◌, refl, ap, ◌∙◌}
use mathlib.Core.Bool.{Bool, cond}
use mathlib.Core.List.{List, [], ◌∷◌, ◌++◌}
use Prim.Native.Nat.{ℕ, ◌+◌, ◌/◌, ◌≤◌, zero-le, min}
use native.Mathlib.Omega.{arith}
use borrow.Author.Tests.{le-leb}
use lib.ListN.{length}
use Rattle.spec.specs.Lists.{counts}
use Rattle.spec.specs.Colour.{first_level, floor_level}
use Rattle.synthetic_rgb.specs.Floors.{Floors}
use Rattle.synthetic_rgb.proofs.Counted.{floor_range}

-- a target of 0 is reached at once
at_once : (hs : List ℕ) → first_level 0 0 0 hs ≡ 0
unfolding first_level
at_once [] = refl
at_once (h ∷ hs) = ap (λ (t : Bool). cond t 0 (first_level 0 (0 + h) 1 hs)) (le-leb 0 (0 + h) zero-le)

few : (band1 band2 : List ℕ) → length band1 + length band2 ≤ 9 → floor_level band1 band2 ≡ 3
unfolding floor_level
few band1 band2 h =
    let none : (length band1 + length band2 + 10) / 20 ≡ 0 = omega arith in
    ap (λ (n : ℕ). min (n + 3) 40) (ap (λ (t : ℕ). first_level t 0 0 (counts 256 (band1 ++ band2))) none ∙ at_once (counts 256 (band1 ++ band2)))

pub floors : Floors
floors =
    record {
      held = λ band1 band2. let r = floor_range band1 band2 in (omega arith, omega arith);
      few = λ band1 band2 h. few band1 band2 (omega arith);
    }
