-- "`scale_u16_to_u8` then stretches all n bytes, invalid zeros included, in f32; equal ends give zeros". Definitions only.
use Rattle.std.specs.Prelude.{ℕ, min, cond, ◌||◌, List, [], ◌∷◌, map, ltb, pos, length, Float}
use Rattle.std.specs.Float.{binary32}
use Rattle.std.specs.Float.Ieee.{sub, mul, div, of_int, of_bits}
use Rattle.spec.specs.Floats.{round_as_u64}
use Rattle.spec.specs.Lists.{lowest, highest}
use Rattle.spec.specs.Answer.{Answer, first_of, answer}
use Rattle.spec.specs.Refusals.{unlike, too_long}

-- a u16 as f32
abbrev pub of16 : ℕ → Float
of16 x = of_int binary32 (pos x)

-- round((x - lo) * (255 / (hi - lo))), held to 0..255; "equal ends give zeros"
unfoldable pub stretch_byte : ℕ → ℕ → ℕ → ℕ
stretch_byte lo hi x =
    let scale = div binary32 (of_bits binary32 0x437f_0000) (sub binary32 (of16 hi) (of16 lo)) in
    let y = min (round_as_u64 (mul binary32 (sub binary32 (of16 x) (of16 lo)) scale)) 255 in
    cond (ltb lo hi) y 0

-- between the least and the greatest of all; a u16 is at most 65535
unfoldable pub stretch : List ℕ → List ℕ
stretch xs = map (stretch_byte (lowest 65535 xs) (highest 0 xs)) xs

-- the stretch by itself: refusal 2
unfoldable pub scale_u16_to_u8 : List ℕ → ℕ → Answer (List ℕ)
scale_u16_to_u8 xs out = answer (first_of 2 ((too_long (length xs) || unlike out (length xs)) ∷ [])) (stretch xs)
