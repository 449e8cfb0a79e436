-- The values of a band from its window outside Clahe, the windows that painting starts from, and what it knows of marks. Definitions only.
use Rattle.std.specs.Prelude.{◌≡◌, Bool, true, List, map, ℕ, ◌<◌, Float, length, get_or}
use Rattle.std.specs.Float.Ieee.{eq}
use Rattle.types.specs.declared.AutoscaleStrategy.TheVariants.{Default}
use Rattle.types.specs.declared.WindowFloats.{WindowFloats}
use Rattle.std.specs.Prelude.{Option, Some, None}
use Rattle.types.specs.declared.WindowFloats.{WindowFloats}
use Rattle.spec.specs.Floats.{one64}
use Rattle.spec.specs.Pixels.{Pixel}
use Rattle.spec.specs.Gamma.{BitDepth, U8, U16, full_of, gamma_value}
use Rattle.spec.specs.Grey.{values}
use Rattle.spec.specs.Value.{normalized, value_of, paint}
use Rattle.gamma.specs.Thresholds.{Row}
use Rattle.gamma.specs.Gammas.{is_gamma}

-- the values of a band outside Clahe, where neither the strategy nor the sides matter (`values_outside`)
abbrev pub plain_values : BitDepth → List Pixel → Option WindowFloats → List ℕ
plain_values depth px w = values depth Default 0 0 px w

-- the value of a pixel by the straight line, as an element of a picture of this depth
abbrev pub straight : {D : Type 0} → (ℕ → D) → BitDepth → WindowFloats → Pixel → D
straight of depth window = λ px. of (paint (value_of (full_of depth) window.low window.high window.range) px)

-- out has the values of these normalised pixels under the gamma with these thresholds, whichever it is
abbrev pub CurveValues : List Float → List Float → List ℕ → Type 0
CurveValues xs ts out = (p q : ℕ) → Row p q xs → out ≡ map (gamma_value p q) ts

-- out has the values of these pixels under the gamma with these thresholds, whichever it is
abbrev pub CurvePainted : List Float → WindowFloats → List Pixel → List ℕ → Type 0
CurvePainted xs window px out =
    (p q : ℕ) → Row p q xs → out ≡ map (paint (λ v. gamma_value p q (normalized window.low window.high window.range v))) px

-- out has the values of these pixels, each what `step` makes of a valid one's dB, whichever function of a dB that is
abbrev pub PaintedBy : {D : Type 0} → (ℕ → D) → (Float → D → Type 0) → List Pixel → List D → Type 0
PaintedBy {D} of step px out = (f : Float → ℕ) → ((v : Float) (r : D) → step v r → r ≡ of (f v)) → out ≡ map (λ p. of (paint f p)) px

-- what painting starts from: a blank window, or one of gamma 1.0, at U8 also of the three others ("gammas 0.8, 0.9 and 1.1 are painted")
unfoldable pub opens : BitDepth → Option WindowFloats → Bool
opens U8 (Some w) = is_gamma w.gamma
opens U16 (Some w) = eq w.gamma one64
opens depth None = true

-- every pixel is valid
abbrev pub AllValid : List ℕ → Type 0
AllValid marks = (k : ℕ) → k < length marks → 0 < get_or marks k 0
