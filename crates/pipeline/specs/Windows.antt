-- What the calls know before they write: their windows, with the refusals folded in. Definitions only.
use Rattle.std.specs.Prelude.{ℕ, ◌*◌, Bool, true, false, cond, ◌&&◌, ◌||◌, List, [], ◌∷◌, Float, Option, Some, None, Result, Ok, Err}
use Rattle.types.specs.declared.AutoscaleStrategy.{AutoscaleStrategy}
use Rattle.types.specs.declared.CoPol.{CoPol}
use Rattle.types.specs.declared.Lent.{Lent}
use Rattle.types.specs.declared.PictureWindows.{PictureWindows}
use Rattle.types.specs.declared.Sides.{Sides}
use Rattle.types.specs.declared.WindowFloats.{WindowFloats}
use Rattle.types.specs.declared.refusal.Refusal.{Refusal}
use Rattle.types.specs.declared.refusal.Refusal.TheVariants.{Decibels}
use Rattle.spec.specs.Answer.{Answer, first_of, answer}
use Rattle.spec.specs.Copol.{windows_of}
use Rattle.spec.specs.Pixels.{Pixel}
use Rattle.spec.specs.Refusals.{lengths_refused, unlike, work_refused, side_refused, decibels_refused, tiles_refused}
use Rattle.spec.specs.Statistics.{statistics_of}
use Rattle.spec.specs.Strategies.{is_clahe}
use Rattle.spec.specs.Window.{window_of, gamma_refused}

-- whether there is a window, so a valid pixel
unfoldable pub has_window : Option WindowFloats → Bool
has_window (Some w) = true
has_window None = false

-- 5, of a band with this window
unfoldable pub window_tiles_refused : AutoscaleStrategy → ℕ → ℕ → Option WindowFloats → Bool
window_tiles_refused strategy rows cols w = is_clahe strategy && has_window w && (side_refused rows || side_refused cols)

-- the window of a grey call whose raster is accepted, or 4 or 5
unfoldable pub grey_window : AutoscaleStrategy → Sides → List Pixel → Answer (Option WindowFloats)
grey_window strategy sides px = answer (first_of 4 (decibels_refused px ∷ tiles_refused strategy sides.rows sides.cols px ∷ [])) (window_of strategy (statistics_of px))

-- the same at U16, where 6 follows
unfoldable pub grey_window16 : AutoscaleStrategy → Sides → List Pixel → Answer (Option WindowFloats)
grey_window16 strategy sides px =
    let w = window_of strategy (statistics_of px) in
    answer (first_of 4 (decibels_refused px ∷ tiles_refused strategy sides.rows sides.cols px ∷ gamma_refused w ∷ [])) w

-- 2 of a picture as `picture_tests` has it: of its bands, and then of what is lent beside bands of n pixels
abbrev pub lent_refused : AutoscaleStrategy → ℕ → Lent → Bool
lent_refused strategy n lent = unlike lent.grey1 n || unlike lent.grey2 n || unlike lent.rgb (3 * n) || work_refused strategy lent.work

abbrev pub picture_lengths_refused : AutoscaleStrategy → ℕ → ℕ → List ℕ → List Float → List ℕ → List Float → Lent → Bool
picture_lengths_refused strategy rows cols marks1 db1 marks2 db2 lent =
    lengths_refused rows cols marks1 db1 || lengths_refused rows cols marks2 db2 || unlike lent.grey1 (rows * cols)
    || unlike lent.grey2 (rows * cols) || unlike lent.rgb (3 * (rows * cols)) || work_refused strategy lent.work

-- the windows of two bands, or refused with 4
unfoldable pub both_windows : AutoscaleStrategy → CoPol → List Pixel → List Pixel → Result PictureWindows Refusal
both_windows strategy copol px1 px2 = cond (decibels_refused px1 || decibels_refused px2) (Err Decibels) (Ok (windows_of strategy copol px1 px2))

-- both windows of a picture whose rasters are accepted, or 4 or 5
unfoldable pub picture_windows : AutoscaleStrategy → CoPol → Sides → List Pixel → List Pixel → Answer PictureWindows
picture_windows strategy copol sides px1 px2 =
    let tiles = tiles_refused strategy sides.rows sides.cols px1 || tiles_refused strategy sides.rows sides.cols px2 in
    answer (first_of 4 ((decibels_refused px1 || decibels_refused px2) ∷ tiles ∷ [])) (windows_of strategy copol px1 px2)
