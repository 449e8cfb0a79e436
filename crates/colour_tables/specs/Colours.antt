-- "a power here is exact": each colour of a pixel is the only number with the inequality of its rule, and a byte. Statements only: the proofs are in proofs/.
use Rattle.std.specs.Prelude.{ℕ, ◌+◌, ◌*◌, ◌-◌, ◌^◌, ◌≤◌, ◌<◌, ◌≡◌, ◌⊎◌}
use Rattle.spec.specs.Colour.{Rounds, plain, suppressed}

-- r is a byte with the rule, and no other number has it
pub record Only (p a b r : ℕ) : Type 0 where
  pub byte : r ≤ 255
  pub rounds : Rounds p a b r
  pub alone : (s : ℕ) → Rounds p a b s → s ≡ r

-- "Default, from bytes v1, v2"
pub record DefaultColour (v1 v2 r g b : ℕ) : Type 0 where
  -- "red r has (2r-1)^10 × 255^7 ≤ 510^10 × v1^7 < (2r+1)^10 × 255^7"
  pub red : Only 10 (255 ^ 7) (510 ^ 10 * v1 ^ 7) r
  -- "green the same with v2 and powers 9 in place of 7"
  pub green : Only 10 (255 ^ 9) (510 ^ 10 * v2 ^ 9) g
  -- "Blue b: 0 if v2 = 0, else (2b-1)^10 × 10^10 × g ≤ 1224^10 × r < (2b+1)^10 × 10^10 × g"
  pub no_blue : v2 ≡ 0 → b ≡ 0
  pub blue : 0 < v2 → Only 10 (10 ^ 10 * g) (1224 ^ 10 * r) b

-- "Tamed and Clahe", above the floor f
pub record SuppressedColour (f v1 v2 r g b : ℕ) : Type 0 where
  -- "Bytes up to f give red or green 0. Else (2r-1)^20 × (255-f)^23 ≤ 510^20 × (v1-f)^23 < (2r+1)^20 × (255-f)^23"
  pub no_red : v1 ≤ f → r ≡ 0
  pub red : f < v1 → Only 20 ((255 - f) ^ 23) (510 ^ 20 * (v1 - f) ^ 23) r
  -- "green with v2 and 10, 11, 10 for 20, 23, 20"
  pub no_green : v2 ≤ f → g ≡ 0
  pub green : f < v2 → Only 10 ((255 - f) ^ 11) (510 ^ 10 * (v2 - f) ^ 11) g
  -- "Blue: (2b-1)^10 × 10^10 × (g+8) ≤ 918^10 × (r+8) < (2b+1)^10 × 10^10 × (g+8). Both bytes at most f: 0, 0, 0"
  pub no_blue : v1 ≤ f → v2 ≤ f → b ≡ 0
  pub blue : (f < v1) ⊎ (f < v2) → Only 10 (10 ^ 10 * (g + 8)) (918 ^ 10 * (r + 8)) b

-- the colours of every pair of bytes, by default and for "each f from 3 to 40"
pub record Colours : Type 0 where
  pub default : (v1 v2 : ℕ) → v1 ≤ 255 → v2 ≤ 255 → DefaultColour v1 v2 (plain v1 v2).r (plain v1 v2).g (plain v1 v2).b
  pub above : (f v1 v2 : ℕ) → 3 ≤ f → f ≤ 40 → v1 ≤ 255 → v2 ≤ 255 →
      SuppressedColour f v1 v2 (suppressed f v1 v2).r (suppressed f v1 v2).g (suppressed f v1 v2).b
