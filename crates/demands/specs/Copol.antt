-- Document 02, F-2: "The picture call is told which band is co-pol; that sets Tamed's two windows and nothing else, so red stays band 1's." Statements
-- only: the proofs are in proofs/.
use Rattle.std.specs.Prelude.{ℕ, ◌≡◌, List, Float}
use Rattle.types.specs.declared.AutoscaleStrategy.{AutoscaleStrategy}
use Rattle.types.specs.declared.AutoscaleStrategy.TheVariants.{Tamed}
use Rattle.types.specs.declared.CoPol.{CoPol}
use Rattle.types.specs.declared.CoPol.TheVariants.{Band1, Band2}
use Rattle.types.specs.declared.Lent.{Lent}
use Rattle.types.specs.declared.PictureChoices.{PictureChoices}
use Rattle.types.specs.declared.SyntheticRgbMode.{SyntheticRgbMode}
use Rattle.spec.specs.Answer.{Answer, refused, done, number}
use Rattle.spec.specs.Colour.{colours_of}
use Rattle.types.specs.declared.PictureWindows.{PictureWindows}
use Rattle.spec.specs.Copol.{windows_of, synthetic_rgb_picture_copol, synthetic_rgb_windows}
use Rattle.spec.specs.Picture.{Picture, picture_greys, composed, synthetic_rgb_picture}
use Rattle.spec.specs.Pixels.{Pixel, pixels}
use Rattle.spec.specs.Statistics.{statistics_of}
use Rattle.spec.specs.Window.{window_of}

-- the strategy, the mode and the co-pol band
abbrev pub told : AutoscaleStrategy → SyntheticRgbMode → CoPol → PictureChoices
told s m c = record { strategy = s; mode = m; copol = c }

-- "With bands and choice swapped": the other band, and the lent greys' lengths exchanged
unfoldable pub other_band : CoPol → CoPol
other_band Band1 = Band2
other_band Band2 = Band1

abbrev pub swapped_lent : Lent → Lent
swapped_lent l = record { grey1 = l.grey2; grey2 = l.grey1; rgb = l.rgb; work = l.work }

-- the same refusal, or the grey outputs swapped and the colours composed of them in their order
unfoldable pub swapped_picture : AutoscaleStrategy → Answer Picture → Answer Picture
swapped_picture strategy (refused k) = refused k
swapped_picture strategy (done p) = done (composed strategy p.grey2 p.grey1)

unfoldable pub swapped_windows : Answer PictureWindows → Answer PictureWindows
swapped_windows (refused k) = refused k
swapped_windows (done w) = done (record { first = w.second; second = w.first })

pub record Copol : Type 0 where
  -- "Document 01's fixed choice becomes the reading of the old call."
  pub old_call :
      (strategy : AutoscaleStrategy) (mode : SyntheticRgbMode) (rows cols : ℕ) (marks1 : List ℕ) (db1 : List Float) (marks2 : List ℕ) (db2 : List Float) (lent : Lent) →
      synthetic_rgb_picture_copol (told strategy mode Band1) rows cols marks1 db1 marks2 db2 lent ≡ synthetic_rgb_picture strategy mode rows cols marks1 db1 marks2 db2 lent
  -- "that sets Tamed's two windows and nothing else": outside Tamed the choice changes no result
  pub outside_tamed :
      (strategy : AutoscaleStrategy) → (strategy ≡ Tamed → ⊥) → (mode : SyntheticRgbMode) (copol copol' : CoPol) (rows cols : ℕ) (marks1 : List ℕ) (db1 : List Float) (marks2 : List ℕ) (db2 : List Float)
      (lent : Lent) →
      synthetic_rgb_picture_copol (told strategy mode copol) rows cols marks1 db1 marks2 db2 lent ≡ synthetic_rgb_picture_copol (told strategy mode copol') rows cols marks1 db1 marks2 db2 lent
  -- .. neither of the picture nor of its windows, which are there those of the window call
  pub windows_outside_tamed :
      (strategy : AutoscaleStrategy) → (strategy ≡ Tamed → ⊥) → (copol copol' : CoPol) (rows cols : ℕ) (marks1 : List ℕ) (db1 : List Float) (marks2 : List ℕ) (db2 : List Float) →
      synthetic_rgb_windows strategy copol rows cols marks1 db1 marks2 db2 ≡ synthetic_rgb_windows strategy copol' rows cols marks1 db1 marks2 db2
  pub window_call :
      (strategy : AutoscaleStrategy) → (strategy ≡ Tamed → ⊥) → (copol : CoPol) (px1 px2 : List Pixel) →
      windows_of strategy copol px1 px2 ≡ record { first = window_of strategy (statistics_of px1); second = window_of strategy (statistics_of px2) }
  -- .. and in no strategy a reply
  pub replies :
      (strategy : AutoscaleStrategy) (mode : SyntheticRgbMode) (copol copol' : CoPol) (rows cols : ℕ) (marks1 : List ℕ) (db1 : List Float) (marks2 : List ℕ) (db2 : List Float) (lent : Lent) →
      number (synthetic_rgb_picture_copol (told strategy mode copol) rows cols marks1 db1 marks2 db2 lent) ≡ number (synthetic_rgb_picture_copol (told strategy mode copol') rows cols marks1 db1 marks2 db2 lent)
  -- "so red stays band 1's": the colours are those of grey 1 and grey 2 in this order, whichever band is co-pol
  pub colours :
      (choices : PictureChoices) (rows cols : ℕ) (marks1 : List ℕ) (db1 : List Float) (marks2 : List ℕ) (db2 : List Float) (lent : Lent) (p : Picture) →
      synthetic_rgb_picture_copol choices rows cols marks1 db1 marks2 db2 lent ≡ done p → p.colours ≡ colours_of choices.strategy p.grey1 p.grey2
  -- a done picture has the greys of its own two bands, by the windows that the call for them gives
  pub painted :
      (choices : PictureChoices) (rows cols : ℕ) (marks1 : List ℕ) (db1 : List Float) (marks2 : List ℕ) (db2 : List Float) (lent : Lent) (p : Picture) →
      synthetic_rgb_picture_copol choices rows cols marks1 db1 marks2 db2 lent ≡ done p →
      let strategy = choices.strategy in
      let w = windows_of strategy choices.copol (pixels marks1 db1) (pixels marks2 db2) in
      (synthetic_rgb_windows strategy choices.copol rows cols marks1 db1 marks2 db2 ≡ done w)
      × (p.grey1 ≡ picture_greys strategy rows cols (pixels marks1 db1) w.first) × (p.grey2 ≡ picture_greys strategy rows cols (pixels marks2 db2) w.second)
  -- "With bands and choice swapped, a done call's grey outputs swap."
  pub swapped :
      (strategy : AutoscaleStrategy) (mode : SyntheticRgbMode) (copol : CoPol) (rows cols : ℕ) (marks1 : List ℕ) (db1 : List Float) (marks2 : List ℕ) (db2 : List Float) (lent : Lent) →
      synthetic_rgb_picture_copol (told strategy mode (other_band copol)) rows cols marks2 db2 marks1 db1 (swapped_lent lent)
      ≡ swapped_picture strategy (synthetic_rgb_picture_copol (told strategy mode copol) rows cols marks1 db1 marks2 db2 lent)
  -- and so do the windows
  pub swapped_windows :
      (strategy : AutoscaleStrategy) (copol : CoPol) (rows cols : ℕ) (marks1 : List ℕ) (db1 : List Float) (marks2 : List ℕ) (db2 : List Float) →
      synthetic_rgb_windows strategy (other_band copol) rows cols marks2 db2 marks1 db1 ≡ swapped_windows (synthetic_rgb_windows strategy copol rows cols marks1 db1 marks2 db2)
