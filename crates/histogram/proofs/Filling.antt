-- The bin of a value lies below 4,096, and one turn of the loop that fills the bins. Assumes nothing.
use mathlib.Core.Path.{◌≡◌, refl, sym, ap, ◌∙◌}
use mathlib.Core.List.{List, [], ◌∷◌, map}
use Prim.Native.Nat.{ℕ, ◌+◌, ◌^◌, ◌≤◌, ◌<◌, min, suc-le-suc}
use native.Mathlib.Nat.{min-le_right}
use native.Mathlib.Omega.{arith}
use lib.Dec.{T}
use lib.ListN.{length, get_or, drop, replicate}
use lib.Ieee.{Float, nan, binary64, mul, sub, le, of_bits, to_unsigned}
use Rattle.spec.specs.Floats.{zero64, one64, clamp_float}
use Rattle.spec.specs.Bins.{bins64, bin_of}
use Rattle.spec.specs.Lists.{added, stored}
use Rattle.spec.specs.Pixels.{Pixel, off, on, pixels, valid_of}
use Rattle.spec.specs.Value.{full16}
use Rattle.lists.proofs.Counts.{zeros-at}
use Rattle.raster.proofs.Bands.{next_off, next_on, drop_end}
use Rattle.numeric.proofs.Order.{le_trans}
use Rattle.numeric.proofs.Ops.{mul-le}
use Rattle.numeric.proofs.Picks.{clamped_lo, clamped_hi}

-- ---- one bin

-- a value held to 0..1, in 4,096ths
place_low : (x : Float) → T (le zero64 (mul binary64 (clamp_float zero64 one64 x) bins64))
unfolding of_bits mul le
place_low x = mul-le binary64 bins64 tt zero64 (clamp_float zero64 one64 x) (clamped_lo x zero64 one64 tt)

place_high : (x : Float) → T (le (mul binary64 (clamp_float zero64 one64 x) bins64) full16)
unfolding of_bits mul le
place_high x = le_trans (mul binary64 (clamp_float zero64 one64 x) bins64) bins64 full16 (mul-le binary64 bins64 tt (clamp_float zero64 one64 x) one64 (clamped_hi x zero64 one64 tt)) tt

pub place_small : (x t : Float) → t ≡ clamp_float zero64 one64 x → T (le zero64 (mul binary64 t bins64)) × T (le (mul binary64 t bins64) full16)
place_small x t e = rw e (place_low x, place_high x)

pub bin_most : (least inv v : Float) → bin_of least inv v < 4096
unfolding bin_of
bin_most least inv v = suc-le-suc (min-le_right _ 4095)

-- "4096 becomes 4095"
pub bin_is : (least inv v t : Float) (b : ℕ) → t ≡ clamp_float zero64 one64 (mul binary64 (sub binary64 v least) inv) → b ≡ to_unsigned 64 (mul binary64 t bins64) → (n : ℕ) → n ≡ min b 4095 → (n ≡ bin_of least inv v) × (n < 4096)
unfolding bin_of
bin_is least inv v t b e h n f = rw (f, h, e) (refl, bin_most least inv v)

-- ---- one turn

module _ (f : Float → ℕ) (h : List ℕ) where
  -- the bins with the values of some pixels
  unfoldable pub filled : List Pixel → List ℕ
  filled ps = stored h (map f (valid_of ps))

  filled_none : filled [] ≡ h
  unfolding filled valid_of stored
  filled_none = refl

  filled_off : (ps : List Pixel) → filled (off ∷ ps) ≡ filled ps
  unfolding filled valid_of
  filled_off ps = refl

filled_on : (f : Float → ℕ) (h : List ℕ) (v : Float) (ps : List Pixel) → filled f h (on v ∷ ps) ≡ filled f (added (f v) h) ps
unfolding filled valid_of stored
filled_on f h v ps = refl

module _ (f : Float → ℕ) (h : List ℕ) (m : List ℕ) (d : List Float) (i : ℕ) where
  pub filled_end : length d ≤ i → filled f h (drop i (pixels m d)) ≡ h
  filled_end l = ap (filled f h) (drop_end m d i l) ∙ filled_none f h

  module _ (a : i < length m) (b : i < length d) where
    pub filled_skip : get_or m i 0 ≡ 0 → filled f h (drop i (pixels m d)) ≡ filled f h (drop (i + 1) (pixels m d))
    filled_skip e = ap (filled f h) (next_off m d i a b e) ∙ filled_off f h (drop (i + 1) (pixels m d))

    pub filled_one : (get_or m i 0 ≡ 0 → ⊥) → (n : ℕ) → n ≡ f (get_or d i nan) → filled f h (drop i (pixels m d)) ≡ filled f (added n h) (drop (i + 1) (pixels m d))
    filled_one e n q =
        ap (filled f h) (next_on m d i a b e) ∙ filled_on f h (get_or d i nan) (drop (i + 1) (pixels m d))
        ∙ ap (λ (j : ℕ). filled f (added j h) (drop (i + 1) (pixels m d))) (sym q)

-- ---- empty bins

pub room_of : (hist : List ℕ) (n : ℕ) → hist ≡ replicate 4096 0 → n < 2 ^ 32 → (k : ℕ) → get_or hist k 0 + n < 2 ^ 32
room_of hist n e h k = omega (arith, ap (λ (l : List ℕ). get_or l k 0) e, zeros-at 4096 k)
