-- The picture call: "both go to U8, into two lent grey outputs, then colours". Definitions only.
use Rattle.std.specs.Prelude.{ℕ, ◌*◌, Bool, true, false, cond, ◌||◌, List, [], ◌∷◌, Float, Option}
use Rattle.types.specs.declared.AutoscaleStrategy.{AutoscaleStrategy}
use Rattle.types.specs.declared.SyntheticRgbMode.{SyntheticRgbMode}
use Rattle.types.specs.declared.Lent.{Lent}
use Rattle.types.specs.declared.Rgb.{Rgb}
use Rattle.types.specs.declared.WindowFloats.{WindowFloats}
use Rattle.spec.specs.Answer.{Answer, first_of, answer}
use Rattle.spec.specs.Pixels.{Pixel, pixels}
use Rattle.spec.specs.Refusals.{sides_refused, lengths_refused, unlike, work_refused, marks_refused, decibels_refused, tiles_refused}
use Rattle.spec.specs.Strategies.{is_tamed}
use Rattle.spec.specs.Statistics.{statistics_of}
use Rattle.spec.specs.Window.{picture_window}
use Rattle.spec.specs.Gamma.{U8}
use Rattle.spec.specs.Stretch.{stretch}
use Rattle.spec.specs.Grey.{values}
use Rattle.spec.specs.Colour.{colours_of}

-- two greys and a colour of each pixel
pub record Picture : Type 0 where
  pub grey1 : List ℕ
  pub grey2 : List ℕ
  pub colours : List Rgb

-- the U8 greys of one band of a picture; Tamed: "no stretch"
unfoldable pub picture_greys : AutoscaleStrategy → ℕ → ℕ → List Pixel → Option WindowFloats → List ℕ
picture_greys strategy rows cols px w =
    let raw = values U8 strategy rows cols px w in
    cond (is_tamed strategy) raw (stretch raw)

-- the colours follow the two grey outputs
unfoldable pub composed : AutoscaleStrategy → List ℕ → List ℕ → Picture
composed strategy g1 g2 = record { grey1 = g1; grey2 = g2; colours = colours_of strategy g1 g2 }

-- each test over both bands: "The smallest number that applies to any band"
unfoldable pub picture_tests :
    AutoscaleStrategy → ℕ → ℕ → List ℕ → List Float → List ℕ → List Float → Lent → List Pixel → List Pixel → List Bool
picture_tests strategy rows cols marks1 db1 marks2 db2 lent px1 px2 =
    sides_refused rows cols
    ∷ (lengths_refused rows cols marks1 db1 || lengths_refused rows cols marks2 db2 || unlike lent.grey1 (rows * cols)
    || unlike lent.grey2 (rows * cols) || unlike lent.rgb (3 * (rows * cols)) || work_refused strategy lent.work)
    ∷ (marks_refused marks1 || marks_refused marks2)
    ∷ (decibels_refused px1 || decibels_refused px2)
    ∷ (tiles_refused strategy rows cols px1 || tiles_refused strategy rows cols px2)
    ∷ []

-- the picture call as document 01 has it: "band 1 counts as co-pol under Tamed". The reading of the call that is told no choice (Copol has the other)
unfoldable pub synthetic_rgb_picture : AutoscaleStrategy → SyntheticRgbMode → ℕ → ℕ → List ℕ → List Float → List ℕ → List Float → Lent → Answer Picture
synthetic_rgb_picture strategy mode rows cols marks1 db1 marks2 db2 lent =
    let px1 = pixels marks1 db1 in
    let px2 = pixels marks2 db2 in
    let w1 = picture_window strategy true (statistics_of px1) in
    let w2 = picture_window strategy false (statistics_of px2) in
    let painted = composed strategy (picture_greys strategy rows cols px1 w1) (picture_greys strategy rows cols px2 w2) in
    answer (first_of 1 (picture_tests strategy rows cols marks1 db1 marks2 db2 lent px1 px2)) painted
