-- What the calls that take codes answer, by the lists that are lent to them. Definitions only.
use Rattle.std.specs.Prelude.{ℕ, List, Float, length}
use Rattle.spec.specs.Answer.{Answer}
use Rattle.spec.specs.Colour.{create_synthetic_rgb_by_mode_and_strategy}
use Rattle.types.specs.declared.PictureWindows.{PictureWindows}
use Rattle.spec.specs.Copol.{synthetic_rgb_windows}
use Rattle.spec.specs.Picture.{Picture}
use Rattle.spec.specs.Window.{autoscale_window}
use Rattle.pipeline.specs.Answers.{answer_u8, answer_u16, answer_picture, answer_picture_copol}
use Rattle.types.specs.Codes.{strategy_of, mode_of, copol_of}
use Rattle.quicklook.specs.Codes.{with_named}

abbrev pub window : ℕ → ℕ → ℕ → List ℕ → List Float → Answer (List Float)
window strategy rows cols marks db = with_named (strategy_of strategy) (λ s. autoscale_window s rows cols marks db)

abbrev pub grey_u8 : ℕ → ℕ → ℕ → List ℕ → List Float → List ℕ → List Float → Answer (List ℕ)
grey_u8 strategy rows cols marks db out work = with_named (strategy_of strategy) (λ s. answer_u8 s rows cols marks db out work)

abbrev pub grey_u16 : ℕ → ℕ → ℕ → List ℕ → List Float → List ℕ → List Float → Answer (List ℕ)
grey_u16 strategy rows cols marks db out work = with_named (strategy_of strategy) (λ s. answer_u16 s rows cols marks db out work)

abbrev pub compose : ℕ → ℕ → List ℕ → List ℕ → List ℕ → Answer (List ℕ)
compose mode strategy band1 band2 rgb =
    with_named (mode_of mode) (λ m. with_named (strategy_of strategy) (λ s. create_synthetic_rgb_by_mode_and_strategy m s band1 band2 (length rgb)))

abbrev pub picture : ℕ → ℕ → ℕ → ℕ → List ℕ → List Float → List ℕ → List Float → List ℕ → List ℕ → List ℕ → List Float → Answer Picture
picture strategy mode rows cols marks1 db1 marks2 db2 grey1 grey2 rgb work =
    with_named (strategy_of strategy) (λ s. with_named (mode_of mode) (λ m. answer_picture s m rows cols marks1 db1 marks2 db2 grey1 grey2 rgb work))

abbrev pub picture_copol : ℕ → ℕ → ℕ → ℕ → ℕ → List ℕ → List Float → List ℕ → List Float → List ℕ → List ℕ → List ℕ → List Float → Answer Picture
picture_copol strategy mode copol rows cols marks1 db1 marks2 db2 grey1 grey2 rgb work =
    with_named (strategy_of strategy) (λ s. with_named (mode_of mode) (λ m. with_named (copol_of copol)
    (λ c. answer_picture_copol (record { strategy = s; mode = m; copol = c }) rows cols marks1 db1 marks2 db2 grey1 grey2 rgb work)))

abbrev pub picture_windows : ℕ → ℕ → ℕ → ℕ → List ℕ → List Float → List ℕ → List Float → Answer PictureWindows
picture_windows strategy copol rows cols marks1 db1 marks2 db2 =
    with_named (strategy_of strategy) (λ s. with_named (copol_of copol) (λ c. synthetic_rgb_windows s c rows cols marks1 db1 marks2 db2))
