-- "Marks (`process_scalar_data_inplace`): an f32 is valid exactly when above bits 3727C5AC hexadecimal". Definitions only.
use Rattle.std.specs.Prelude.{ℕ, cond, ◌||◌, List, [], ◌∷◌, map, length, Float}
use Rattle.std.specs.Float.{binary32}
use Rattle.std.specs.Float.Ieee.{lt, of_bits}
use Rattle.spec.specs.Answer.{Answer, first_of, answer}
use Rattle.spec.specs.Refusals.{unlike, too_long}

-- "NaN is invalid, plus infinity valid"
unfoldable pub mark_of : Float → ℕ
mark_of x = cond (lt (of_bits binary32 0x3727_c5ac) x) 1 0

unfoldable pub process_scalar_data_mask : List Float → ℕ → Answer (List ℕ)
process_scalar_data_mask xs out = answer (first_of 2 ((too_long (length xs) || unlike out (length xs)) ∷ [])) (map mark_of xs)
