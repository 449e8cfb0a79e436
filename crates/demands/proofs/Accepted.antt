-- What is known of the input of a call that is done: none of the table's tests held. Assumes nothing.
use mathlib.Core.Path.{◌≡◌, refl, sym, ◌∙◌}
use mathlib.Core.Bool.{Bool, true, false, not, ◌&&◌, true≢false}
use mathlib.Core.List.{List, [], ◌∷◌}
use Prim.Native.Nat.{ℕ, zero, suc}
use lib.Dec.{T}
use lib.ListN.{length, get_or}
use lib.Ieee.{Float, binary64, le, neg, of_bits}
use lib.Ieee.Scale.{finite}
use Rattle.spec.specs.Lists.{any}
use Rattle.spec.specs.Pixels.{Pixel, off, on}
use Rattle.spec.specs.Refusals.{lengths_refused, decibel_refused}
use Rattle.numeric.proofs.Facts.{bounded_finite}
use Rattle.raster.proofs.Bands.{or_false, lengths_accepted}

-- marks and dB of the named lengths
pub named_lengths : (rows cols : ℕ) (m : List ℕ) (d : List Float) → lengths_refused rows cols m d ≡ false → length m ≡ length d
named_lengths rows cols m d e = let h = lengths_accepted rows cols m d e in h.1 ∙ sym h.0

-- a valid dB is finite
pub good_at : (px : List Pixel) (i : ℕ) → any decibel_refused px ≡ false → decibel_refused (get_or px i off) ≡ false
unfolding any decibel_refused
good_at [] i e = refl
good_at (p ∷ px) zero e = (or_false (decibel_refused p) (any decibel_refused px) e).0
good_at (p ∷ px) (suc i) e = good_at px i (or_false (decibel_refused p) (any decibel_refused px) e).1

and_parts : (a b : Bool) → not (a && b) ≡ false → T a × T b
and_parts true true e = (tt, tt)
and_parts true false e = absurd (true≢false e)
and_parts false b e = absurd (true≢false e)

pub good_finite : (v : Float) → decibel_refused (on v) ≡ false → T (finite v)
unfolding decibel_refused
good_finite v e =
    let h = and_parts (le (neg (of_bits binary64 0x408f_4000_0000_0000)) v) (le v (of_bits binary64 0x408f_4000_0000_0000)) e in
    bounded_finite v h.0 h.1
