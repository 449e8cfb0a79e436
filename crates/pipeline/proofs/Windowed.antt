-- The window of a band: present exactly with a valid pixel. Assumes nothing.
use mathlib.Core.Path.{◌≡◌, refl, sym, ap, ◌∙◌}
use mathlib.Core.Bool.{Bool, true, false, true≢false, not, cond, ◌&&◌, ◌||◌}
use mathlib.Core.List.{List, [], ◌∷◌}
use Prim.Native.Nat.{ℕ, suc}
use native.Mathlib.Omega.{arith}
use borrow.Author.Tests.{ne_eqb}
use lib.Dec.{eqb}
use lib.ListN.{length}
use Rattle.types.specs.declared.AutoscaleStrategy.{AutoscaleStrategy}
use Rattle.types.specs.declared.Clip.{Clip}
use Rattle.types.specs.declared.WindowFloats.{WindowFloats}
use Rattle.std.specs.Prelude.{Option, Some, None}
use Rattle.std.specs.Option.{is_some}
use Rattle.spec.specs.Lists.{any}
use Rattle.spec.specs.Pixels.{Pixel, off, on, valid_of, is_on}
use Rattle.spec.specs.Refusals.{side_refused, tiles_refused}
use Rattle.spec.specs.Statistics.{statistics_of}
use Rattle.spec.specs.Strategies.{is_clahe, is_tamed}
use Rattle.spec.specs.Window.{opened, choose_clip, tamed_clip, window_of, picture_window}
use Rattle.histogram.proofs.Counting.{count-valid}
use Rattle.pipeline.specs.Windows.{has_window, window_tiles_refused}

-- ---- a window exactly with a valid pixel

has_opened : (t : Bool) (c : Clip) → has_window (cond t None (Some (opened c))) ≡ not t
unfolding has_window opened
has_opened true c = refl
has_opened false c = refl

some_valid : (px : List Pixel) → not (eqb (length (valid_of px)) 0) ≡ any is_on px
unfolding any is_on valid_of
some_valid [] = refl
some_valid (off ∷ px) = some_valid px
some_valid (on v ∷ px) = rw (ne_eqb (suc (length (valid_of px))) 0 (λ z. omega (arith, z)))

valid-count : (px : List Pixel) → not (eqb (statistics_of px).valid_count 0) ≡ any is_on px
valid-count px = ap (λ (n : ℕ). not (eqb n 0)) (count-valid px) ∙ some_valid px

has_window_lem : (strategy : AutoscaleStrategy) (px : List Pixel) → has_window (window_of strategy (statistics_of px)) ≡ any is_on px
unfolding window_of
has_window_lem strategy px = has_opened (eqb (statistics_of px).valid_count 0) (choose_clip strategy (statistics_of px)) ∙ valid-count px

has_picture : (strategy : AutoscaleStrategy) (copol : Bool) (px : List Pixel) → has_window (picture_window strategy copol (statistics_of px)) ≡ any is_on px
unfolding picture_window
has_picture strategy copol px =
    has_opened (eqb (statistics_of px).valid_count 0) (cond (is_tamed strategy) (tamed_clip copol (statistics_of px)) (choose_clip strategy (statistics_of px))) ∙ valid-count px

module _ (strategy : AutoscaleStrategy) (rows cols : ℕ) (px : List Pixel) where
  tiles_by : (w : Option WindowFloats) → has_window w ≡ any is_on px → window_tiles_refused strategy rows cols w ≡ tiles_refused strategy rows cols px
  unfolding window_tiles_refused tiles_refused
  tiles_by w e = ap (λ (b : Bool). is_clahe strategy && b && (side_refused rows || side_refused cols)) e

  -- 5 by the window
  pub tiles_window : (w : Option WindowFloats) → w ≡ window_of strategy (statistics_of px) → window_tiles_refused strategy rows cols w ≡ tiles_refused strategy rows cols px
  tiles_window w e = tiles_by w (ap has_window e ∙ has_window_lem strategy px)

  pub tiles_picture : (copol : Bool) (w : Option WindowFloats) → w ≡ picture_window strategy copol (statistics_of px) → window_tiles_refused strategy rows cols w ≡ tiles_refused strategy rows cols px
  tiles_picture copol w e = tiles_by w (ap has_window e ∙ has_picture strategy copol px)

pub tiles_blank : (strategy : AutoscaleStrategy) (rows cols : ℕ) (w : Option WindowFloats) → is_some w ≡ false → false ≡ window_tiles_refused strategy rows cols w
unfolding window_tiles_refused has_window
tiles_blank strategy rows cols (Some window) e = absurd (true≢false e)
tiles_blank strategy rows cols None e = none (is_clahe strategy)
  where
    none : (b : Bool) → false ≡ (b && false && (side_refused rows || side_refused cols))
    none true = refl
    none false = refl

pub tiles_open : (strategy : AutoscaleStrategy) (rows cols : ℕ) (w : Option WindowFloats) → is_some w ≡ true → is_clahe strategy ≡ true →
    (side_refused rows || side_refused cols) ≡ window_tiles_refused strategy rows cols w
unfolding window_tiles_refused has_window
tiles_open strategy rows cols (Some window) e c = rw c
tiles_open strategy rows cols None e c = absurd (true≢false (sym e))
