-- Outside Clahe a band is painted pixel by pixel. Assumes nothing.
use mathlib.Core.Path.{◌≡◌, refl, ap, ◌∙◌}
use mathlib.Core.Bool.{false}
use mathlib.Core.List.{List, map}
use Prim.Native.Nat.{ℕ}
use lib.ListN.{length, length-map}
use Rattle.types.specs.declared.AutoscaleStrategy.{AutoscaleStrategy}
use Rattle.types.specs.declared.AutoscaleStrategy.TheVariants.{Standard, Robust, Adaptive, Equalized, Clahe, Tamed, Default}
use Rattle.types.specs.declared.WindowFloats.{WindowFloats}
use Rattle.std.specs.Prelude.{Option, Some, None}
use Rattle.spec.specs.Pixels.{Pixel, off}
use Rattle.spec.specs.Strategies.{is_clahe}
use Rattle.spec.specs.Gamma.{BitDepth, grey_value}
use Rattle.spec.specs.Value.{paint}
use Rattle.spec.specs.Grey.{black, values}

pub not_clahe : (strategy : AutoscaleStrategy) → (strategy ≡ Clahe → ⊥) → is_clahe strategy ≡ false
unfolding is_clahe
not_clahe Standard n = refl
not_clahe Robust n = refl
not_clahe Adaptive n = refl
not_clahe Equalized n = refl
not_clahe Clahe n = absurd (n refl)
not_clahe Tamed n = refl
not_clahe Default n = refl

-- the value of one pixel under a window
unfoldable pub painter : BitDepth → Option WindowFloats → Pixel → ℕ
painter depth (Some w) p = paint (grey_value depth w.gamma w.low w.high w.range) p
painter depth None p = 0

pub painter_off : (depth : BitDepth) (w : Option WindowFloats) → painter depth w off ≡ 0
unfolding painter paint
painter_off depth (Some w) = refl
painter_off depth None = refl

pub values-map : (depth : BitDepth) (strategy : AutoscaleStrategy) → is_clahe strategy ≡ false → (rows cols : ℕ) (px : List Pixel) (w : Option WindowFloats) →
    values depth strategy rows cols px w ≡ map (painter depth w) px
unfolding values black painter
values-map depth strategy c rows cols px (Some w) = rw c refl
values-map depth strategy c rows cols px None = refl

pub values-size : (depth : BitDepth) (strategy : AutoscaleStrategy) → is_clahe strategy ≡ false → (rows cols : ℕ) (px : List Pixel) (w : Option WindowFloats) →
    length (values depth strategy rows cols px w) ≡ length px
values-size depth strategy c rows cols px w = ap length (values-map depth strategy c rows cols px w) ∙ length-map px (painter depth w)
