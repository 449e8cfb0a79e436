-- "Arithmetic (`ops.rs`): five operations in f32". Definitions only.
use Rattle.std.specs.Prelude.{ℕ, cond, ◌||◌, length, Float}
use mathlib.Core.List.{List, [], ◌∷◌, zip_with}
use Rattle.std.specs.Float.{binary32}
use Rattle.std.specs.Float.Ieee.{add, sub, div, lt, of_bits}
use Rattle.spec.specs.Floats.{abs_float}
use Rattle.spec.specs.Answer.{Answer, first_of, answer}
use Rattle.spec.specs.Refusals.{unlike, too_long}

unfoldable pub sum_op : Float → Float → Float
sum_op a b = add binary32 a b

unfoldable pub difference_op : Float → Float → Float
difference_op a b = sub binary32 a b

-- "give 0 unless the divisor's size exceeds the binary32 nearest to 1e-10"
unfoldable pub guarded_ratio : Float → Float → Float
guarded_ratio a b = cond (lt (of_bits binary32 0x2edb_e6ff) (abs_float b)) (div binary32 a b) (of_bits binary32 0)

-- "ratio, log ratio (the same as ratio)"
unfoldable pub ratio_op : Float → Float → Float
ratio_op a b = guarded_ratio a b

unfoldable pub log_ratio_op : Float → Float → Float
log_ratio_op a b = guarded_ratio a b

unfoldable pub normalized_diff_op : Float → Float → Float
normalized_diff_op a b = guarded_ratio (sub binary32 a b) (add binary32 a b)

-- "whole lists: all lengths equal, at most 16,777,216 (above it, 2)"
unfoldable pub operate_arrays : (Float → Float → Float) → List Float → List Float → ℕ → Answer (List Float)
operate_arrays op a b out =
    answer (first_of 2 ((unlike (length b) (length a) || too_long (length a) || unlike out (length a)) ∷ [])) (zip_with op a b)
