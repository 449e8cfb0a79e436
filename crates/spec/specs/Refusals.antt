-- The six lines of the table of replies, each as a test. Definitions only.
use Rattle.std.specs.Prelude.{ℕ, ◌+◌, ◌*◌, ◌/◌, Bool, false, not, ◌&&◌, ◌||◌, List, eqb, ltb, length, Float}
use Rattle.std.specs.Float.{binary64}
use Rattle.std.specs.Float.Ieee.{le, neg, of_bits}
use Rattle.types.specs.declared.AutoscaleStrategy.{AutoscaleStrategy}
use Rattle.spec.specs.Strategies.{is_clahe}
use Rattle.spec.specs.Lists.{any}
use Rattle.spec.specs.Pixels.{Pixel, off, on, is_on}

-- 1: "rows or cols above 4,096"
unfoldable pub sides_refused : ℕ → ℕ → Bool
sides_refused rows cols = ltb 4096 rows || ltb 4096 cols

-- 2: "a lent length is not the one named here"
unfoldable pub unlike : ℕ → ℕ → Bool
unlike n named = not (eqb n named)

-- "Lengths: dB, marks .. n"
unfoldable pub lengths_refused : ℕ → ℕ → List ℕ → List Float → Bool
lengths_refused rows cols marks db = unlike (length db) (rows * cols) || unlike (length marks) (rows * cols)

-- "Clahe work is 16,384 f64; other strategies accept any work length"
unfoldable pub work_refused : AutoscaleStrategy → ℕ → Bool
work_refused strategy work = is_clahe strategy && unlike work 16384

-- "whole lists: all lengths equal, at most 16,777,216 (above it, 2)"
unfoldable pub too_long : ℕ → Bool
too_long n = ltb 16777216 n

-- 3: "a mark is neither 0 nor 1"
unfoldable pub marks_refused : List ℕ → Bool
marks_refused marks = any (ltb 1) marks

-- 4: "a valid dB is NaN, infinite, below -1000 or above 1000"
unfoldable pub decibel_refused : Pixel → Bool
decibel_refused off = false
decibel_refused (on v) = not (le (neg (of_bits binary64 0x408f_4000_0000_0000)) v && le v (of_bits binary64 0x408f_4000_0000_0000))

unfoldable pub decibels_refused : List Pixel → Bool
decibels_refused px = any decibel_refused px

-- 5: "7 × ceil(s/8) > s"
unfoldable pub side_refused : ℕ → Bool
side_refused s = ltb s (7 * ((s + 7) / 8))

-- "a Clahe grey or picture call with a valid pixel"
unfoldable pub tiles_refused : AutoscaleStrategy → ℕ → ℕ → List Pixel → Bool
tiles_refused strategy rows cols px = is_clahe strategy && any is_on px && (side_refused rows || side_refused cols)
