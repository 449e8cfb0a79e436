-- Document 02, F-2, cross-pol delivered first: "The picture call is told which band is co-pol; that sets Tamed's two windows and nothing else, so red
-- stays band 1's." Definitions only.
use Rattle.std.specs.Prelude.{ℕ, Bool, true, false, ◌||◌, List, [], ◌∷◌, Float}
use Rattle.types.specs.declared.AutoscaleStrategy.{AutoscaleStrategy}
use Rattle.types.specs.declared.CoPol.{CoPol}
use Rattle.types.specs.declared.CoPol.TheVariants.{Band1, Band2}
use Rattle.types.specs.declared.Lent.{Lent}
use Rattle.types.specs.declared.PictureChoices.{PictureChoices}
use Rattle.types.specs.declared.PictureWindows.{PictureWindows}
use Rattle.spec.specs.Answer.{Answer, first_of, answer}
use Rattle.spec.specs.Pixels.{Pixel, pixels}
use Rattle.spec.specs.Refusals.{sides_refused, lengths_refused, marks_refused, decibels_refused}
use Rattle.spec.specs.Statistics.{statistics_of}
use Rattle.spec.specs.Window.{picture_window}
use Rattle.spec.specs.Picture.{Picture, picture_greys, composed, picture_tests}

-- whether band 1, and whether band 2, is the co-pol one
unfoldable pub first_is_copol : CoPol → Bool
first_is_copol Band1 = true
first_is_copol Band2 = false

unfoldable pub second_is_copol : CoPol → Bool
second_is_copol Band1 = false
second_is_copol Band2 = true

-- the windows that two bands are painted with, each a window with its floats or blank
abbrev pub windows_of : AutoscaleStrategy → CoPol → List Pixel → List Pixel → PictureWindows
windows_of strategy copol px1 px2 =
    record { first = picture_window strategy (first_is_copol copol) (statistics_of px1); second = picture_window strategy (second_is_copol copol) (statistics_of px2) }

-- the picture call
unfoldable pub synthetic_rgb_picture_copol : PictureChoices → ℕ → ℕ → List ℕ → List Float → List ℕ → List Float → Lent → Answer Picture
synthetic_rgb_picture_copol choices rows cols marks1 db1 marks2 db2 lent =
    let strategy = choices.strategy in
    let px1 = pixels marks1 db1 in
    let px2 = pixels marks2 db2 in
    let w = windows_of strategy choices.copol px1 px2 in
    let painted = composed strategy (picture_greys strategy rows cols px1 w.first) (picture_greys strategy rows cols px2 w.second) in
    answer (first_of 1 (picture_tests strategy rows cols marks1 db1 marks2 db2 lent px1 px2)) painted

-- the call for the windows that a picture paints its bands with: refusals 1 to 4, each over both bands, then both windows
unfoldable pub synthetic_rgb_windows : AutoscaleStrategy → CoPol → ℕ → ℕ → List ℕ → List Float → List ℕ → List Float → Answer PictureWindows
synthetic_rgb_windows strategy copol rows cols marks1 db1 marks2 db2 =
    let px1 = pixels marks1 db1 in
    let px2 = pixels marks2 db2 in
    let tests =
    sides_refused rows cols ∷ (lengths_refused rows cols marks1 db1 || lengths_refused rows cols marks2 db2) ∷ (marks_refused marks1 || marks_refused marks2)
    ∷ (decibels_refused px1 || decibels_refused px2) ∷ [] in
    answer (first_of 1 tests) (windows_of strategy copol px1 px2)
