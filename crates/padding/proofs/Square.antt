-- The square of a raster, row by row, over lists of any type. Assumes nothing.
use mathlib.Core.Path.{◌≡◌, refl, sym, ap, ◌∙◌}
use mathlib.Core.Bool.{Bool, true, false, cond, ◌&&◌}
use mathlib.Core.List.{List}
use Prim.Native.Nat.{ℕ, suc, ◌+◌, ◌-◌, ◌*◌, ◌/◌, ◌%◌, ◌≤◌, ◌<◌, max}
use native.Mathlib.Nat.{div-add-mod', mul-add-div_right, mul-add-mod_self_right, div-eq_of_lt, mod-eq_of_lt, mul-le-mul_right, suc-mul, add-zero}
use native.Mathlib.Decide.{dec_lt, dec_le}
use native.Mathlib.Omega.{arith}
use borrow.Author.Tests.{le-leb, lt-leb, lt-ltb, le-ltb}
use lib.Dec.{leb, ltb}
use lib.ListN.{length, take, drop, get_or, replicate, length-take, length-drop, length-replicate, get_or-replicate}
use lib.Seq.{paste, ext_get_or, get_or-take, get_or-drop, length-paste}
use Rattle.spec.specs.Padding.{pad_cell, padded}
use Rattle.lists.proofs.Paste.{paste_in, paste_before, paste_after}
use Rattle.lists.proofs.Places.{places-length, places-at}

and_false : (t : Bool) → t && false ≡ false
and_false true = refl
and_false false = refl

module _ (rows cols : ℕ) where
  abbrev pub side : ℕ
  side = max rows cols

  abbrev pub top : ℕ
  top = (max rows cols - rows) / 2

  abbrev pub left : ℕ
  left = (max rows cols - cols) / 2

  -- where row r of the raster starts in the square
  abbrev pub start : ℕ → ℕ
  start r = (r + top) * side + left

  -- a row of the raster lies within the raster
  pub row_room : (r : ℕ) → r < rows → r * cols + cols ≤ rows * cols
  row_room r h = omega (arith, mul-le-mul_right {m = suc r} {n = rows} cols h, suc-mul r cols)

  -- and within the square
  pub room : (r : ℕ) → r < rows → start r + cols ≤ side * side
  room r h = omega (arith, mul-le-mul_right {m = suc (r + top)} {n = side} side (omega arith), suc-mul (r + top) side)

  -- the row and the column of the place j after the start of row r
  pub place_row : (r j : ℕ) → r < rows → j < cols → (start r + j) / side ≡ r + top
  place_row r j h l =
      ap (λ (k : ℕ). k / side) (omega arith) ∙ mul-add-div_right {m = side} (omega arith) (r + top) (left + j) ∙ ap (λ (m : ℕ). r + top + m) (div-eq_of_lt (omega arith))
      ∙ add-zero (r + top)

  pub place_col : (r j : ℕ) → r < rows → j < cols → (start r + j) % side ≡ left + j
  place_col r j h l = ap (λ (k : ℕ). k % side) (omega arith) ∙ mul-add-mod_self_right (r + top) side (left + j) ∙ mod-eq_of_lt (omega arith)

  module _ {A : Type 0} (z : A) (xs : List A) where
    -- row y and column x of the square while the first r rows of the raster are in place
    unfoldable pub cell_at : ℕ → ℕ → ℕ → A
    cell_at r y x = cond (leb top y && ltb y (top + r) && leb left x && ltb x (left + cols)) (get_or xs ((y - top) * cols + (x - left)) z) z

    -- no row in place
    none-at : (y x : ℕ) → Dec (y < top) → cell_at 0 y x ≡ z
    unfolding cell_at
    none-at y x (yes h) = simp (lt-leb top y h)
    none-at y x (no h) = simp (le-ltb y (top + 0) (omega arith), and_false)

    -- beside the raster's columns
    left_of : (r y x : ℕ) → x < left → cell_at r y x ≡ z
    unfolding cell_at
    left_of r y x h = simp (lt-leb left x h, and_false)

    right_of : (r y x : ℕ) → left + cols ≤ x → cell_at r y x ≡ z
    unfolding cell_at
    right_of r y x h = simp (le-ltb x (left + cols) h, and_false)

    -- in another row
    other_row : (r y x : ℕ) → (y ≡ r + top → ⊥) → Dec (y < top + r) → cell_at (r + 1) y x ≡ cell_at r y x
    unfolding cell_at
    other_row r y x d (yes h) = simp (lt-ltb y (top + r) h, lt-ltb y (top + (r + 1)) (omega arith))
    other_row r y x d (no h) = simp (le-ltb y (top + r) (omega arith), le-ltb y (top + (r + 1)) (omega arith))

    -- row r itself
    new_row : (r j : ℕ) → j < cols → cell_at (r + 1) (r + top) (left + j) ≡ get_or xs (r * cols + j) z
    unfolding cell_at
    new_row r j h =
        simp (le-leb top (r + top) (omega arith), lt-ltb (r + top) (top + (r + 1)) (omega arith), le-leb left (left + j) (omega arith), lt-ltb (left + j) (left + cols) (omega arith))
        (ap (λ (m : ℕ). get_or xs (m * cols + (left + j - left)) z) (omega arith) ∙ ap (λ (m : ℕ). get_or xs (r * cols + m) z) (omega arith))

    unmoved : (r y x : ℕ) → (y ≡ r + top → left ≤ x → x < left + cols → ⊥) → Dec (x < left) → Dec (left + cols ≤ x) → cell_at (r + 1) y x ≡ cell_at r y x
    unmoved r y x d (yes h) q = left_of (r + 1) y x h ∙ sym (left_of r y x h)
    unmoved r y x d (no h) (yes g) = right_of (r + 1) y x g ∙ sym (right_of r y x g)
    unmoved r y x d (no h) (no g) = other_row r y x (λ e. d e (omega arith) (omega arith)) (dec_lt y (top + r))

    -- the square with the first r rows in place
    abbrev Placed : List A → ℕ → Type 0
    Placed p r = (length p ≡ side * side) × ((k : ℕ) → k < side * side → get_or p k z ≡ cell_at r (k / side) (k % side))

    -- zeros: no row yet
    zeros : Placed (replicate (side * side) z) 0
    zeros = (length-replicate (side * side) z, λ k h. get_or-replicate (side * side) k z z h ∙ sym (none-at (k / side) (k % side) (dec_lt (k / side) top)))

    -- what holds before row r is placed
    pub record Before (p : List A) (r : ℕ) : Type 0 where
      pub within : r ≤ rows
      pub placed : Placed p r

    pub none : (p : List A) (n : ℕ) → n ≡ side * side → p ≡ replicate n z → Before p 0
    none p n k e = record { within = omega arith; placed = rw (e, k) zeros }

    module _ (r : ℕ) (h : r < rows) (p q : List A) (t : Placed p r) (e : length q ≡ cols) (v : (j : ℕ) → j < cols → get_or q j z ≡ get_or xs (r * cols + j) z) where
      inside : start r + length q ≤ length p
      inside = omega (arith, room r h, t.0)

      abbrev more : List A
      more = paste p (start r) q (length q)

      in_row : (j : ℕ) → j < cols → get_or more (start r + j) z ≡ cell_at (r + 1) ((start r + j) / side) ((start r + j) % side)
      in_row j l =
          paste_in z p (start r) q inside j (omega arith) ∙ v j l ∙ sym (new_row r j l)
          ∙ ap (λ (y : ℕ). cell_at (r + 1) y (left + j)) (sym (place_row r j h l)) ∙ ap (λ (x : ℕ). cell_at (r + 1) ((start r + j) / side) x) (sym (place_col r j h l))

      elsewhere : (k : ℕ) → k < side * side → (start r ≤ k → k < start r + cols → ⊥) → cell_at r (k / side) (k % side) ≡ cell_at (r + 1) (k / side) (k % side)
      elsewhere k l d =
          sym (unmoved r (k / side) (k % side)
          (λ y a b. let f : k / side * side ≡ (r + top) * side = ap (λ (m : ℕ). m * side) y in let g = div-add-mod' k side in d (omega arith) (omega arith))
          (dec_lt (k % side) left) (dec_le (left + cols) (k % side)))

      cell_of_lem : (k : ℕ) → k < side * side → Dec (k < start r) → Dec (start r + cols ≤ k) → get_or more k z ≡ cell_at (r + 1) (k / side) (k % side)
      cell_of_lem k l (yes a) b = paste_before z p (start r) q inside k a ∙ t.1 k l ∙ elsewhere k l (λ c d. omega arith)
      cell_of_lem k l (no a) (yes b) = paste_after z p (start r) q inside k (omega arith) ∙ t.1 k l ∙ elsewhere k l (λ c d. omega arith)
      cell_of_lem k l (no a) (no b) =
          let j : ℕ = k - start r in
          let i : start r + j ≡ k = omega arith in
          rw i at (in_row j (omega arith))

      step : Placed more (r + 1)
      step = (
        length-paste p (start r) q (length q) inside (omega arith) ∙ t.0,
        λ k l. cell_of_lem k l (dec_lt k (start r)) (dec_le (start r + cols) k),
      )

    -- row r of the raster, as a part of its list
    abbrev pub row_of : ℕ → List A
    row_of r = take (r * cols + cols - r * cols) (drop (r * cols) xs)

    module _ (whole : length xs ≡ rows * cols) (r : ℕ) (h : r < rows) where
      row_length : length (row_of r) ≡ cols
      row_length = simp (length-take, length-drop) (omega (arith, row_room r h, whole))

      row_at_lem : (j : ℕ) → j < cols → get_or (row_of r) j z ≡ get_or xs (r * cols + j) z
      row_at_lem j l = get_or-take (r * cols + cols - r * cols) (drop (r * cols) xs) j z (omega arith) ∙ get_or-drop (r * cols) xs j z

      -- a row fits, and is one row more
      module _ (at : ℕ) (p : List A) (e : at ≡ start r) (t : Before p r) where
        pub fits : at + length (row_of r) ≤ length p
        fits = omega (arith, row_length, room r h, t.placed.0)

        pub next : (new : List A) → new ≡ paste p at (row_of r) (length (row_of r)) → Before new (r + 1)
        next new v = record { within = omega arith; placed = rw (v, e) (step r h p (row_of r) t.placed row_length row_at_lem) }

    -- all rows
    whole_square : (p : List A) → Placed p rows → p ≡ padded z rows cols xs
    unfolding padded pad_cell cell_at
    whole_square p t =
        ext_get_or z p (padded z rows cols xs) (t.0 ∙ sym (places-length _ z (side * side)))
        (λ k l. let g : k < side * side = omega arith in t.1 k g ∙ sym (places-at _ z (side * side) k g))

    pub finish : (p : List A) (r : ℕ) → Before p r → rows ≤ r → p ≡ padded z rows cols xs
    finish p r t h = let e : r ≡ rows = omega (arith, t.within) in whole_square p (rw e at t.placed)
