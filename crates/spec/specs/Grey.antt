-- The grey calls. Definitions only.
use Rattle.std.specs.Prelude.{ℕ, ◌*◌, Bool, cond, ◌||◌, List, [], ◌∷◌, ◌++◌, map, Float, Option, Some, None}
use Rattle.types.specs.declared.AutoscaleStrategy.{AutoscaleStrategy}
use Rattle.types.specs.declared.WindowFloats.{WindowFloats}
use Rattle.spec.specs.Answer.{Answer, first_of, answer}
use Rattle.spec.specs.Pixels.{Pixel, off, on, pixels}
use Rattle.spec.specs.Refusals.{sides_refused, lengths_refused, unlike, work_refused, marks_refused, decibels_refused, tiles_refused}
use Rattle.spec.specs.Strategies.{is_clahe}
use Rattle.spec.specs.Statistics.{statistics_of}
use Rattle.spec.specs.Window.{window_of, gamma_refused}
use Rattle.spec.specs.Value.{normalized, paint}
use Rattle.spec.specs.Gamma.{BitDepth, U8, U16, full_of, grey_value}
use Rattle.spec.specs.Stretch.{stretch}
use Rattle.spec.specs.Clahe.{clahe_values}

-- a band as Clahe takes it
unfoldable pub normal_pixel : Float → Float → Float → Pixel → Pixel
normal_pixel low high range off = off
normal_pixel low high range (on v) = on (normalized low high range v)

-- "its pixels are 0"
unfoldable pub black : List Pixel → List ℕ
black px = map (λ p. 0) px

-- the values of a band from its window, before any stretch
unfoldable pub values : BitDepth → AutoscaleStrategy → ℕ → ℕ → List Pixel → Option WindowFloats → List ℕ
values depth strategy rows cols px None = black px
values depth strategy rows cols px (Some w) =
    let tiles = clahe_values (full_of depth) rows cols (map (normal_pixel w.low w.high w.range) px) in
    let plain = map (paint (grey_value depth w.gamma w.low w.high w.range)) px in
    cond (is_clahe strategy) tiles plain

-- the five tests of every grey call
unfoldable pub grey_tests : AutoscaleStrategy → ℕ → ℕ → List ℕ → List Float → ℕ → ℕ → List Pixel → List Bool
grey_tests strategy rows cols marks db out work px =
    sides_refused rows cols ∷ (lengths_refused rows cols marks db || unlike out (rows * cols) || work_refused strategy work) ∷ marks_refused marks
    ∷ decibels_refused px ∷ tiles_refused strategy rows cols px ∷ []

-- "At U8, `scale_u16_to_u8` then stretches all n bytes"; out and work are lent lengths
unfoldable pub autoscale_db_image_to_u8 : AutoscaleStrategy → ℕ → ℕ → List ℕ → List Float → ℕ → ℕ → Answer (List ℕ)
autoscale_db_image_to_u8 strategy rows cols marks db out work =
    let px = pixels marks db in
    let w = window_of strategy (statistics_of px) in
    let greys = stretch (values U8 strategy rows cols px w) in
    answer (first_of 1 (grey_tests strategy rows cols marks db out work px)) greys

-- document 02, F-1: "Number 6 remains for U16 only"
unfoldable pub autoscale_db_image_to_u16 : AutoscaleStrategy → ℕ → ℕ → List ℕ → List Float → ℕ → ℕ → Answer (List ℕ)
autoscale_db_image_to_u16 strategy rows cols marks db out work =
    let px = pixels marks db in
    let w = window_of strategy (statistics_of px) in
    let greys = values U16 strategy rows cols px w in
    answer (first_of 1 (grey_tests strategy rows cols marks db out work px ++ (gamma_refused w ∷ []))) greys
