-- The two compositions as one rule with its numbers as parameters, and what the tables of a composition hold. Definitions only.
use Rattle.std.specs.Prelude.{◌≡◌, Bool, cond, ◌&&◌, List, ℕ, ◌+◌, ◌*◌, ◌^◌, ◌≤◌, ◌<◌, leb, eqb, length, get_or, set}
use Rattle.types.specs.declared.Rgb.{Rgb}
use Rattle.spec.specs.Colour.{level, red, green, red_above, green_above}
use Rattle.colour_tables.specs.Tables.{Table, n_at, d_at, Thresholds}
use Rattle.synthetic_rgb.specs.declared.Composition.{Composition}
use Rattle.synthetic_rgb.specs.declared.Composition.TheVariants.{Plain, Suppressed}

-- the default rule, or the suppressed one above f
unfoldable pub red_of : Composition → ℕ → ℕ
red_of Plain v = red v
red_of (Suppressed f) v = red_above f v

unfoldable pub green_of : Composition → ℕ → ℕ
green_of Plain v = green v
green_of (Suppressed f) v = green_above f v

-- what is added to both sides of the ratio of red to green
abbrev pub epsilon : Composition → ℕ
epsilon Plain = 0
epsilon (Suppressed f) = 8

-- twenty times the blue of an even ratio before rounding: 61.2, and 45.9 suppressed
unfoldable pub scale_of : Composition → ℕ
scale_of Plain = 1224
scale_of (Suppressed f) = 918

-- the pixels without blue: "0 if v2 = 0"; "Both bytes at most f"
abbrev pub is_dark : Composition → ℕ → ℕ → Bool
is_dark Plain v1 v2 = eqb v2 0
is_dark (Suppressed f) v1 v2 = leb v1 f && leb v2 f

unfoldable pub ratio_of : Composition → ℕ → ℕ → ℕ
ratio_of kind r g = level 10 (10 ^ 10 * (g + epsilon kind)) (scale_of kind ^ 10 * (r + epsilon kind))

unfoldable pub blue_of : Composition → ℕ → ℕ → ℕ
blue_of kind v1 v2 = cond (is_dark kind v1 v2) 0 (ratio_of kind (red_of kind v1) (green_of kind v2))

unfoldable pub colour_at : Composition → ℕ → ℕ → Rgb
colour_at kind v1 v2 = record { r = red_of kind v1; g = green_of kind v2; b = blue_of kind v1 v2 }

-- the tables of a composition: red, green, and the thresholds of blue
pub record Palette (kind : Composition) (red green : List ℕ) (thresholds : List (List ℕ)) : Type 0 where
  pub reds : Table (red_of kind) red
  pub greens : Table (green_of kind) green
  pub ratios : Thresholds (scale_of kind) (epsilon kind) thresholds

-- r / g reaches the threshold at place k
pub record Reached (t : List (List ℕ)) (r g k : ℕ) : Type 0 where
  pub within : k < length t
  pub reaches : 0 < k → n_at t k * g ≤ d_at t k * r

-- the blue of every pair of bytes, at 256 * v2 + v1
pub record Cells (kind : Composition) (t : List ℕ) : Type 0 where
  pub sized : length t ≡ 65536
  pub right : (v1 v2 : ℕ) → v1 < 256 → v2 < 256 → get_or t (256 * v2 + v1) 0 ≡ blue_of kind v1 v2

-- what gives each pair of bytes a colour keeps the rule
abbrev pub Keeps : (ℕ → ℕ → Rgb → Type 0) → (ℕ → ℕ → Rgb) → Type 0
Keeps gives rule = (v1 v2 : ℕ) (c : Rgb) → v1 < 256 → v2 < 256 → gives v1 v2 c → c ≡ rule v1 v2

-- the bytes of one colour, written from j on
abbrev pub put : List ℕ → ℕ → Rgb → List ℕ
put l j c = set (set (set l j c.r) (j + 1) c.g) (j + 2) c.b
