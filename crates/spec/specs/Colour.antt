-- The colours: "a power here is exact", so each number is the count of the half steps that its power reaches. Definitions only.
use Rattle.std.specs.Prelude.{ℕ, zero, suc, ◌+◌, ◌-◌, ◌*◌, ◌/◌, ◌^◌, ◌≤◌, ◌<◌, min, cond, ◌&&◌, ◌||◌, leb, eqb, length}
use mathlib.Core.List.{List, [], ◌∷◌, ◌++◌, zip_with}
use Rattle.types.specs.declared.AutoscaleStrategy.{AutoscaleStrategy}
use Rattle.types.specs.declared.SyntheticRgbMode.{SyntheticRgbMode}
use Rattle.types.specs.declared.Rgb.{Rgb}
use Rattle.spec.specs.Lists.{counts}
use Rattle.spec.specs.Strategies.{is_suppressed}
use Rattle.spec.specs.Answer.{Answer, first_of, answer}
use Rattle.spec.specs.Refusals.{unlike, too_long}

-- "(2r-1)^p × a ≤ b < (2r+1)^p × a"; "At value 0 the lower side is dropped": 2 × 0 - 1 is 0 here
pub record Rounds (p a b r : ℕ) : Type 0 where
  pub lower : (2 * r - 1) ^ p * a ≤ b
  pub upper : b < (2 * r + 1) ^ p * a

-- how many k from 1 to n have (2k-1)^p × a ≤ b
unfoldable pub reached : ℕ → ℕ → ℕ → ℕ → ℕ
reached p a b zero = 0
reached p a b (suc k) = cond (leb ((2 * k + 1) ^ p * a) b) 1 0 + reached p a b k

-- the byte with `Rounds p a b`
abbrev pub level : ℕ → ℕ → ℕ → ℕ
level p a b = reached p a b 255

-- "red r has (2r-1)^10 × 255^7 ≤ 510^10 × v1^7 < ..; green the same with v2 and powers 9 in place of 7"
unfoldable pub red : ℕ → ℕ
red v = level 10 (255 ^ 7) (510 ^ 10 * v ^ 7)

unfoldable pub green : ℕ → ℕ
green v = level 10 (255 ^ 9) (510 ^ 10 * v ^ 9)

-- "Blue b: 0 if v2 = 0, else (2b-1)^10 × 10^10 × g ≤ 1224^10 × r < .."
unfoldable pub blue : ℕ → ℕ → ℕ → ℕ
blue v2 r g = cond (eqb v2 0) 0 (level 10 (10 ^ 10 * g) (1224 ^ 10 * r))

-- "Bytes up to f give red or green 0. Else (2r-1)^20 × (255-f)^23 ≤ 510^20 × (v1-f)^23 < ..": v - f is 0 up to f
unfoldable pub red_above : ℕ → ℕ → ℕ
red_above f v = level 20 ((255 - f) ^ 23) (510 ^ 20 * (v - f) ^ 23)

-- "green with v2 and 10, 11, 10 for 20, 23, 20"
unfoldable pub green_above : ℕ → ℕ → ℕ
green_above f v = level 10 ((255 - f) ^ 11) (510 ^ 10 * (v - f) ^ 11)

-- "Blue: (2b-1)^10 × 10^10 × (g+8) ≤ 918^10 × (r+8) < .."
unfoldable pub blue_above : ℕ → ℕ → ℕ
blue_above r g = level 10 (10 ^ 10 * (g + 8)) (918 ^ 10 * (r + 8))

unfoldable pub plain : ℕ → ℕ → Rgb
plain v1 v2 = record { r = red v1; g = green v2; b = blue v2 (red v1) (green v2) }

-- "Both bytes at most f: 0, 0, 0"
unfoldable pub suppressed : ℕ → ℕ → ℕ → Rgb
suppressed f v1 v2 =
    let water : Rgb = record { r = 0; g = 0; b = 0 } in
    let land : Rgb = record { r = red_above f v1; g = green_above f v2; b = blue_above (red_above f v1) (green_above f v2) } in
    cond (leb v1 f && leb v2 f) water land

-- "the first level whose running count of both bands reaches target": the levels from l on, the count before them
unfoldable pub first_level : ℕ → ℕ → ℕ → List ℕ → ℕ
first_level target before l [] = 0
first_level target before l (h ∷ hs) =
    let later : ℕ = first_level target (before + h) (suc l) hs in
    cond (leb target (before + h)) l later

-- "total = both lengths, target = (total + 10) div 20; .. plus 3, at most 40, is f"
unfoldable pub floor_level : List ℕ → List ℕ → ℕ
floor_level band1 band2 =
    let target = (length band1 + length band2 + 10) / 20 in
    min (first_level target 0 0 (counts 256 (band1 ++ band2)) + 3) 40

-- the colours of two bands, a pixel each
unfoldable pub colours_of : AutoscaleStrategy → List ℕ → List ℕ → List Rgb
colours_of strategy band1 band2 =
    cond (is_suppressed strategy) (zip_with (suppressed (floor_level band1 band2)) band1 band2) (zip_with plain band1 band2)

-- "colours 3n"
unfoldable pub bytes_of : List Rgb → List ℕ
bytes_of [] = []
bytes_of (c ∷ cs) = c.r ∷ c.g ∷ c.b ∷ bytes_of cs

-- "Composition alone takes two bands of equal length under the same limit"; "all modes agree"
unfoldable pub create_synthetic_rgb_by_mode_and_strategy : SyntheticRgbMode → AutoscaleStrategy → List ℕ → List ℕ → ℕ → Answer (List ℕ)
create_synthetic_rgb_by_mode_and_strategy mode strategy band1 band2 out =
    let colours = bytes_of (colours_of strategy band1 band2) in
    answer (first_of 2 ((unlike (length band2) (length band1) || too_long (length band1) || unlike out (3 * length band1)) ∷ [])) colours
