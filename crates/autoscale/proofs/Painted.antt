-- What painting leaves in each case of a window. Assumes nothing.
use mathlib.Core.Path.{◌≡◌, refl, sym, ap, ◌∙◌}
use mathlib.Core.Bool.{false}
use mathlib.Core.List.{List, [], ◌∷◌, map}
use Prim.Native.Nat.{ℕ, zero-le}
use borrow.Author.Tests.{le-ltb}
use lib.ListN.{length, replicate}
use lib.Ieee.{Float}
use Rattle.types.specs.declared.AutoscaleStrategy.{AutoscaleStrategy}
use Rattle.types.specs.declared.WindowFloats.{WindowFloats}
use Rattle.std.specs.Prelude.{Option, Some, None}
use Rattle.spec.specs.Gamma.{BitDepth, U16, grey_value}
use Rattle.spec.specs.Grey.{black, values}
use Rattle.spec.specs.Lists.{lowest, highest}
use Rattle.spec.specs.Pixels.{Pixel}
use Rattle.spec.specs.Strategies.{is_clahe}
use Rattle.spec.specs.Stretch.{stretch_byte, stretch}
use Rattle.spec.specs.Value.{full16, value_of, paint}
use Rattle.autoscale.specs.Painted.{plain_values}

-- outside Clahe neither the strategy nor the sides matter
pub values_outside : (depth : BitDepth) (strategy : AutoscaleStrategy) (rows cols : ℕ) (px : List Pixel) (w : Option WindowFloats) → is_clahe strategy ≡ false →
    values depth strategy rows cols px w ≡ plain_values depth px w
unfolding values is_clahe
values_outside depth strategy rows cols px None e = refl
values_outside depth strategy rows cols px (Some window) e = rw e

-- ---- a window
module _ (w : Option WindowFloats) (window : WindowFloats) (is : w ≡ Some window) where
  pub plain-window : (depth : BitDepth) (px : List Pixel) → plain_values depth px w ≡ map (paint (grey_value depth window.gamma window.low window.high window.range)) px
  unfolding values is_clahe
  plain-window depth px = ap (plain_values depth px) is

  -- at U16 the gamma does not matter
  pub plain-window_16 : (px : List Pixel) → plain_values U16 px w ≡ map (paint (value_of full16 window.low window.high window.range)) px
  unfolding grey_value
  plain-window_16 px = plain-window U16 px

-- ---- no window
abbrev pub NoWindow : Option WindowFloats → Type 0
NoWindow w = (window : WindowFloats) → w ≡ Some window → ⊥

zeros : {A : Type 0} (xs : List A) → ◌≡◌ {A = List ℕ} (map (λ x. 0) xs) (replicate (length xs) 0)
zeros [] = refl
zeros (x ∷ xs) = ap (λ (l : List ℕ). 0 ∷ l) (zeros xs)

no_highest : {A : Type 0} (xs : List A) → highest 0 (map (λ x. 0) xs) ≡ 0
unfolding highest
no_highest [] = refl
no_highest (x ∷ xs) = no_highest xs

-- zeros are stretched to zeros
no_stretch : (lo : ℕ) → stretch_byte lo 0 0 ≡ 0
unfolding stretch_byte
no_stretch lo = rw (le-ltb lo 0 zero-le)

each-zero : {A : Type 0} (lo : ℕ) (xs : List A) → map (stretch_byte lo 0) (map (λ x. 0) xs) ≡ map (λ x. 0) xs
each-zero lo [] = refl
each-zero lo (x ∷ xs) = ap (λ (y : ℕ). y ∷ map (stretch_byte lo 0) (map (λ x. 0) xs)) (no_stretch lo) ∙ ap (λ (l : List ℕ). 0 ∷ l) (each-zero lo xs)

stretch-zeros : {A : Type 0} (xs : List A) → stretch (map (λ x. 0) xs) ≡ map (λ x. 0) xs
unfolding stretch
stretch-zeros xs = ap (λ (h : ℕ). map (stretch_byte (lowest 65535 (map (λ x. 0) xs)) h) (map (λ x. 0) xs)) (no_highest xs) ∙ each-zero (lowest 65535 (map (λ x. 0) xs)) xs

-- without a window a band is all zeros, stretched or not
pub left_plain : (depth : BitDepth) (w : Option WindowFloats) (px : List Pixel) (n : ℕ) → NoWindow w → length px ≡ n → replicate n 0 ≡ plain_values depth px w
unfolding values black
left_plain depth (Some window) px n h e = absurd (h window refl)
left_plain depth None px n h e = rw (← e) (sym (zeros px))

pub left_stretched : (depth : BitDepth) (w : Option WindowFloats) (px : List Pixel) (n : ℕ) → NoWindow w → length px ≡ n → replicate n 0 ≡ stretch (plain_values depth px w)
unfolding values black
left_stretched depth (Some window) px n h e = absurd (h window refl)
left_stretched depth None px n h e = rw (← e) (sym (stretch-zeros px ∙ zeros px))
