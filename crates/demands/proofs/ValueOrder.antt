-- A brighter pixel has no smaller value, whatever the window's ends are: finite in any order, infinite or NaN. Assumes nothing.
use mathlib.Core.Path.{◌≡◌, refl, sym, ap, ◌∙◌}
use mathlib.Core.Logic.{◌⊎◌, inl, inr}
use Prim.Native.Nat.{ℕ, ◌≤◌}
use native.Mathlib.Nat.{le_of_eq}
use mathlib.Core.Bool.{Bool, true, false, cond}
use lib.Dec.{T, leb}
use lib.Ieee.{Float, nan, inf, fin, binary64, neg, add, sub, mul, div, lt, le, of_bits, to_unsigned}
use lib.Ieee.Positive.{positive, above, above_of_le}
use lib.Ieee.Scale.{finite}
use Rattle.spec.specs.Floats.{zero64, one64, max_float, min_float, clamp_float}
use Rattle.types.specs.declared.Clip.{Clip}
use Rattle.spec.specs.Gamma.{U8, U16, over, under, gamma_value, curve, curved, grey_value}
use Rattle.spec.specs.Value.{full8, full16, normalized, value_of}
use Rattle.numeric.proofs.Order.{Number, number_of_finite}
use Rattle.numeric.proofs.Ops.{sub-le, mul-le, div-le}
use Rattle.gamma.proofs.Laws.{gamma_rises, gamma_top}
use Rattle.numeric.proofs.Picks.{max_float-le, min_float-le, clamped_le, above-max, to_unsigned-le}

one_positive : T (positive one64)
unfolding of_bits
one_positive = tt

one_number : Number one64
unfolding of_bits
one_number = tt

zero_number : Number zero64
unfolding of_bits
zero_number = tt

abbrev range : Float → Float → Float
range low high = max_float (sub binary64 high low) one64

finite_or_top : (z : Float) → T (above z) → T (positive z) ⊎ (z ≡ inf false)
finite_or_top nan h = absurd h
finite_or_top (inf true) h = absurd h
finite_or_top (inf false) h = inr refl
finite_or_top (fin true m e) h = absurd h
finite_or_top (fin false m e) h = inl h

range_is : (low high : Float) → T (positive (range low high)) ⊎ (range low high ≡ inf false)
range_is low high = finite_or_top (range low high) (above_of_le one64 (range low high) one_positive (above-max (sub binary64 high low) one64 one_number))

-- the value of a normalised pixel: it rises, and is 0 under an infinite range
module _ (value : Float → ℕ) (rises : (t u : Float) → T (le t u) → value t ≤ value u) (top-zero : (x : Float) → value (div binary64 x (inf false)) ≡ 0) where
  value_top : (low high v r : Float) → r ≡ inf false → value (normalized low high r v) ≡ 0
  unfolding normalized
  value_top low high v r e = ap (λ (q : Float). value (div binary64 (sub binary64 (clamp_float low high v) low) q)) e ∙ top-zero (sub binary64 (clamp_float low high v) low)

  value-finite : (low high v w r : Float) → T (finite low) → T (finite high) → T (positive r) → T (le v w) → value (normalized low high r v) ≤ value (normalized low high r w)
  unfolding normalized
  value-finite low high v w r p q k h =
      rises _ _ (div-le binary64 r k _ _ (sub-le binary64 low p _ _
      (min_float-le high (max_float v low) (max_float w low) (number_of_finite high q) (max_float-le low v w (number_of_finite low p) h))))

  finite_ends : (low high v w : Float) → T (finite low) → T (finite high) → T (le v w) → value (normalized low high (range low high) v) ≤ value (normalized low high (range low high) w)
  finite_ends low high v w p q h = elim (range_is low high) [
    | inl k ↦ value-finite low high v w (range low high) p q k h
    | inr e ↦ le_of_eq (value_top low high v (range low high) e ∙ sym (value_top low high w (range low high) e))
  ]

top8 : (x : Float) → to_unsigned 64 (clamp_float zero64 full8 (mul binary64 (div binary64 x (inf false)) full8)) ≡ 0
unfolding to_unsigned mul div lt of_bits
top8 nan = refl
top8 (inf s) = refl
top8 (fin true m e) = refl
top8 (fin false m e) = refl

top16 : (x : Float) → to_unsigned 64 (clamp_float zero64 full16 (mul binary64 (div binary64 x (inf false)) full16)) ≡ 0
unfolding to_unsigned mul div lt of_bits
top16 nan = refl
top16 (inf s) = refl
top16 (fin true m e) = refl
top16 (fin false m e) = refl

-- ---- an end that is no finite number: every finite pixel has the same value

abbrev pub Finite : Float → Type 0
Finite v = T (finite v)

max_float-finite : (v low : Float) → Finite v → Finite low → Finite (max_float v low)
max_float-finite v low p q = pick (lt low v)
  where
    pick : (t : Bool) → Finite (cond t v low)
    pick true = p
    pick false = q

-- a finite number against an end beyond it
under_nan : (x : Float) → min_float x nan ≡ nan
unfolding lt
under_nan nan = refl
under_nan (inf s) = refl
under_nan (fin s m e) = refl

under_bottom : (x : Float) → Finite x → min_float x (inf true) ≡ inf true
unfolding lt
under_bottom nan h = absurd h
under_bottom (inf s) h = absurd h
under_bottom (fin s m e) h = refl

over_nan : (v : Float) → max_float v nan ≡ nan
unfolding lt
over_nan v = refl

over_top : (v : Float) → Finite v → max_float v (inf false) ≡ inf false
unfolding lt
over_top nan h = absurd h
over_top (inf s) h = absurd h
over_top (fin s m e) h = refl

over_bottom : (v : Float) → Finite v → max_float v (inf true) ≡ v
unfolding lt
over_bottom nan h = absurd h
over_bottom (inf s) h = absurd h
over_bottom (fin s m e) h = refl

from-finite : (x : Float) → Finite x → sub binary64 x (inf true) ≡ inf false
unfolding sub add neg
from-finite nan h = absurd h
from-finite (inf s) h = absurd h
from-finite (fin s m e) h = refl

from_infinite : sub binary64 (inf false) (inf true) ≡ inf false
unfolding sub add neg
from_infinite = refl

-- every finite pixel is infinitely far above minus infinity
far : (high v : Float) → sub binary64 high (inf true) ≡ inf false → Finite v → sub binary64 (clamp_float (inf true) high v) (inf true) ≡ inf false
far high v e a = ap (λ (x : Float). sub binary64 (min_float x high) (inf true)) (over_bottom v a) ∙ pick (lt v high)
  where
    pick : (t : Bool) → sub binary64 (cond t v high) (inf true) ≡ inf false
    pick true = from-finite v a
    pick false = e

from_top : (low : Float) → Finite low → range low (inf false) ≡ inf false
unfolding sub add neg lt of_bits
from_top nan h = absurd h
from_top (inf s) h = absurd h
from_top (fin s m e) h = refl

-- equal held values, and equal distances from the low end, are normalised alike
by_clamp : (low high r v w : Float) → clamp_float low high v ≡ clamp_float low high w → normalized low high r v ≡ normalized low high r w
unfolding normalized
by_clamp low high r v w e = ap (λ (c : Float). div binary64 (sub binary64 c low) r) e

by_distance : (low high r v w : Float) → sub binary64 (clamp_float low high v) low ≡ sub binary64 (clamp_float low high w) low → normalized low high r v ≡ normalized low high r w
unfolding normalized
by_distance low high r v w e = ap (λ (c : Float). div binary64 c r) e

-- ---- the order, within one band

module _ (value : Float → ℕ) (rises : (t u : Float) → T (le t u) → value t ≤ value u) (top-zero : (x : Float) → value (div binary64 x (inf false)) ≡ 0)
    (v w : Float) (a : Finite v) (b : Finite w) (h : T (le v w)) where
  equal : (low high : Float) → normalized low high (range low high) v ≡ normalized low high (range low high) w →
      value (normalized low high (range low high) v) ≤ value (normalized low high (range low high) w)
  equal low high e = le_of_eq (ap value e)

  any_ends : (low high : Float) → value (normalized low high (range low high) v) ≤ value (normalized low high (range low high) w)
  any_ends nan high = equal nan high (by_clamp nan high (range nan high) v w (ap (λ (x : Float). min_float x high) (over_nan v ∙ sym (over_nan w))))
  any_ends (inf false) high = equal (inf false) high (by_clamp (inf false) high (range (inf false) high) v w (ap (λ (x : Float). min_float x high) (over_top v a ∙ sym (over_top w b))))
  any_ends (inf true) nan = equal (inf true) nan (by_clamp (inf true) nan (range (inf true) nan) v w (under_nan (max_float v (inf true)) ∙ sym (under_nan (max_float w (inf true)))))
  any_ends (inf true) (inf true) =
      equal (inf true) (inf true) (by_clamp (inf true) (inf true) (range (inf true) (inf true)) v w
      (ap (λ (x : Float). min_float x (inf true)) (over_bottom v a) ∙ under_bottom v a ∙ sym (ap (λ (x : Float). min_float x (inf true)) (over_bottom w b) ∙ under_bottom w b)))
  any_ends (inf true) (inf false) =
      equal (inf true) (inf false) (by_distance (inf true) (inf false) (range (inf true) (inf false)) v w (far (inf false) v from_infinite a ∙ sym (far (inf false) w from_infinite b)))
  any_ends (inf true) (fin s m e) =
      equal (inf true) (fin s m e) (by_distance (inf true) (fin s m e) (range (inf true) (fin s m e)) v w
      (far (fin s m e) v (from-finite (fin s m e) tt) a ∙ sym (far (fin s m e) w (from-finite (fin s m e) tt) b)))
  any_ends (fin s m e) nan = equal (fin s m e) nan (by_clamp (fin s m e) nan (range (fin s m e) nan) v w (under_nan (max_float v (fin s m e)) ∙ sym (under_nan (max_float w (fin s m e)))))
  any_ends (fin s m e) (inf true) =
      equal (fin s m e) (inf true) (by_clamp (fin s m e) (inf true) (range (fin s m e) (inf true)) v w
      (under_bottom (max_float v (fin s m e)) (max_float-finite v (fin s m e) a tt) ∙ sym (under_bottom (max_float w (fin s m e)) (max_float-finite w (fin s m e) b tt))))
  any_ends (fin s m e) (inf false) =
      le_of_eq (value_top value rises top-zero (fin s m e) (inf false) v (range (fin s m e) (inf false)) (from_top (fin s m e) tt)
      ∙ sym (value_top value rises top-zero (fin s m e) (inf false) w (range (fin s m e) (inf false)) (from_top (fin s m e) tt)))
  any_ends (fin s m e) (fin t n d) = finite_ends value rises top-zero (fin s m e) (fin t n d) v w tt tt h

-- ---- the values of a pixel

-- times 255 or 65535, held and truncated
module _ (full : Float) (fp : T (positive full)) (fn : Number full) where
  straight : Float → ℕ
  straight t = to_unsigned 64 (clamp_float zero64 full (mul binary64 t full))

  straight_rises : (t u : Float) → T (le t u) → straight t ≤ straight u
  unfolding straight
  straight_rises t u h = to_unsigned-le 64 _ _ (clamped_le zero64 full _ _ zero_number fn (mul-le binary64 full fp t u h))

  straight_order : ((x : Float) → to_unsigned 64 (clamp_float zero64 full (mul binary64 (div binary64 x (inf false)) full)) ≡ 0) → (v w : Float) → Finite v → Finite w → T (le v w) → (low high : Float) →
      value_of full low high (range low high) v ≤ value_of full low high (range low high) w
  unfolding straight value_of
  straight_order top v w a b h low high = any_ends straight straight_rises top v w a b h low high

-- of two finite pixels under one window, the brighter has no smaller value: at U8 under any gamma, and at U16
pub value8_order : (gamma : Float) (c : Clip) (v w : Float) → Finite v → Finite w → T (le v w) →
    grey_value U8 gamma c.low c.high (max_float (sub binary64 c.high c.low) one64) v ≤ grey_value U8 gamma c.low c.high (max_float (sub binary64 c.high c.low) one64) w
unfolding grey_value curved of_bits
value8_order gamma c v w a b h = pick (leb 3 (curve gamma))
  where
    p : ℕ
    p = over (curve gamma)

    q : ℕ
    q = under (curve gamma)

    pick : (t : Bool) →
        cond t (value_of full8 c.low c.high (range c.low c.high) v) (gamma_value p q (normalized c.low c.high (range c.low c.high) v))
        ≤ cond t (value_of full8 c.low c.high (range c.low c.high) w) (gamma_value p q (normalized c.low c.high (range c.low c.high) w))
    pick true = straight_order full8 tt tt top8 v w a b h c.low c.high
    pick false = any_ends (gamma_value p q) (gamma_rises p q) (gamma_top (curve gamma)) v w a b h c.low c.high

pub value16_order : (gamma : Float) (c : Clip) (v w : Float) → Finite v → Finite w → T (le v w) →
    grey_value U16 gamma c.low c.high (max_float (sub binary64 c.high c.low) one64) v ≤ grey_value U16 gamma c.low c.high (max_float (sub binary64 c.high c.low) one64) w
unfolding grey_value of_bits
value16_order gamma c v w a b h = straight_order full16 tt tt top16 v w a b h c.low c.high
