-- The grey call at U8 and the picture call as document 01 has them alone, before F-1 of document 02: another gamma than 1.0 is refused with 6, and the
-- value is document 01's at every gamma. Definitions only: demands/specs/Sixth relates them to the calls.
use Rattle.std.specs.Prelude.{true, false, cond, ◌||◌, List, [], ◌∷◌, ◌++◌, map, ℕ, Float, Option, Some, None}
use Rattle.types.specs.declared.AutoscaleStrategy.{AutoscaleStrategy}
use Rattle.types.specs.declared.Lent.{Lent}
use Rattle.types.specs.declared.SyntheticRgbMode.{SyntheticRgbMode}
use Rattle.types.specs.declared.WindowFloats.{WindowFloats}
use Rattle.spec.specs.Answer.{Answer, first_of, answer}
use Rattle.spec.specs.Pixels.{Pixel, pixels}
use Rattle.spec.specs.Strategies.{is_clahe, is_tamed}
use Rattle.spec.specs.Statistics.{statistics_of}
use Rattle.spec.specs.Window.{window_of, picture_window, gamma_refused}
use Rattle.spec.specs.Value.{full8, value_of, paint}
use Rattle.spec.specs.Stretch.{stretch}
use Rattle.spec.specs.Clahe.{clahe_values}
use Rattle.spec.specs.Grey.{normal_pixel, black, grey_tests}
use Rattle.spec.specs.Picture.{Picture, composed, picture_tests}

unfoldable pub values_before : AutoscaleStrategy → ℕ → ℕ → List Pixel → Option WindowFloats → List ℕ
values_before strategy rows cols px None = black px
values_before strategy rows cols px (Some w) =
    let tiles = clahe_values full8 rows cols (map (normal_pixel w.low w.high w.range) px) in
    let plain = map (paint (value_of full8 w.low w.high w.range)) px in
    cond (is_clahe strategy) tiles plain

unfoldable pub grey_before : AutoscaleStrategy → ℕ → ℕ → List ℕ → List Float → ℕ → ℕ → Answer (List ℕ)
grey_before strategy rows cols marks db out work =
    let px = pixels marks db in
    let w = window_of strategy (statistics_of px) in
    let greys = stretch (values_before strategy rows cols px w) in
    answer (first_of 1 (grey_tests strategy rows cols marks db out work px ++ (gamma_refused w ∷ []))) greys

unfoldable pub picture_before : AutoscaleStrategy → SyntheticRgbMode → ℕ → ℕ → List ℕ → List Float → List ℕ → List Float → Lent → Answer Picture
picture_before strategy mode rows cols marks1 db1 marks2 db2 lent =
    let px1 = pixels marks1 db1 in
    let px2 = pixels marks2 db2 in
    let w1 = picture_window strategy true (statistics_of px1) in
    let w2 = picture_window strategy false (statistics_of px2) in
    let greys : List Pixel → Option WindowFloats → List ℕ = λ px w. cond (is_tamed strategy) (values_before strategy rows cols px w) (stretch (values_before strategy rows cols px w)) in
    answer (first_of 1 (picture_tests strategy rows cols marks1 db1 marks2 db2 lent px1 px2 ++ ((gamma_refused w1 || gamma_refused w2) ∷ []))) (composed strategy (greys px1 w1) (greys px2 w2))
