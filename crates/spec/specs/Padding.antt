-- "Padding (`padding.rs`), 8 and 16 bits: offsets (larger side - cols) div 2 and the same for rows". Definitions only.
use Rattle.std.specs.Prelude.{ℕ, ◌+◌, ◌-◌, ◌*◌, ◌/◌, ◌%◌, max, cond, ◌&&◌, ◌||◌, List, [], ◌∷◌, map, leb, ltb, length, get_or}
use Rattle.spec.specs.Lists.{places}
use Rattle.spec.specs.Answer.{Answer, first_of, answer}
use Rattle.spec.specs.Refusals.{sides_refused, unlike}

-- what stands at row y and column x of the square: an element of the raster xs, or z, the zero of its type
unfoldable pub pad_cell : {A : Type 0} → A → ℕ → ℕ → List A → ℕ → ℕ → A
pad_cell z rows cols xs y x =
    let top = (max rows cols - rows) / 2 in
    let left = (max rows cols - cols) / 2 in
    cond (leb top y && ltb y (top + rows) && leb left x && ltb x (left + cols)) (get_or xs ((y - top) * cols + (x - left)) z) z

unfoldable pub padded : {A : Type 0} → A → ℕ → ℕ → List A → List A
padded z rows cols xs = let s = max rows cols in map (λ k. pad_cell z rows cols xs (k / s) (k % s)) (places (s * s))

-- "padding inputs .. n; padded output the square of the larger side"
unfoldable pub add_padding_to_square : {A : Type 0} → A → ℕ → ℕ → List A → ℕ → Answer (List A)
add_padding_to_square z rows cols xs out =
    let square = padded z rows cols xs in
    answer (first_of 1 (sides_refused rows cols ∷ (unlike (length xs) (rows * cols) || unlike out (max rows cols * max rows cols)) ∷ [])) square
