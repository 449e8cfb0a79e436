-- A row's results follow from its position, its pixels and the tile sums, and scaled they are the values of document 01. Assumes nothing.
use mathlib.Core.Path.{◌≡◌, refl, sym, ap, ◌∙◌}
use mathlib.Core.List.{List, [], ◌∷◌, map, zip_with}
use Prim.Native.Nat.{ℕ, ◌+◌, ◌*◌, ◌%◌, ◌≤◌, ◌<◌}
use native.Mathlib.Nat.{mul-le-mul_right}
use native.Mathlib.Omega.{arith}
use lib.Ieee.{Float, nan, mul, of_bits, to_unsigned}
use lib.ListN.{length, get_or, drop, length-drop, length-map}
use lib.Seq.{length-take-le, get_or-take, get_or-drop, ext_get_or}
use Rattle.types.specs.declared.TilePosition.{TilePosition}
use Rattle.spec.specs.Floats.{zero64, one64, clamp_float}
use Rattle.spec.specs.Lists.{places}
use Rattle.spec.specs.Pixels.{Pixel, off, on}
use Rattle.spec.specs.Value.{full8, full16}
use Rattle.spec.specs.Clahe.{tile_side, tile_position, level_of, sum_at, sample, tile_table, tile_tables, equalised, clahe_values}
use Rattle.spec.specs.RowResults.{result_at, clahe_results, scaled, tile_sums, row_at, result_of, row_results}
use Rattle.lists.proofs.Places.{from-length, place_at, places-at, map_at, next_times, row_of, column_of_lem}
use Rattle.lists.proofs.Zip.{zip_length, zip-at}
use Rattle.demands.specs.RowPosition.{RowPosition}

-- ---- the greys

module _ (full : Float) (none : scaled full zero64 ≡ 0) (rows cols : ℕ) (tables : List (List ℕ)) where
  value_is : (i : ℕ) (p : Pixel) → equalised full rows cols tables i p ≡ scaled full (result_at rows cols tables i p)
  unfolding equalised result_at
  value_is i off = sym none
  value_is i (on u) = refl

  values_are : (is : List ℕ) (px : List Pixel) → zip_with (equalised full rows cols tables) is px ≡ map (scaled full) (zip_with (result_at rows cols tables) is px)
  unfolding zip_with
  values_are [] px = refl
  values_are (i ∷ is) [] = refl
  values_are (i ∷ is) (p ∷ px) = λ j. value_is i p j ∷ values_are is px j

greys_are : (full : Float) → scaled full zero64 ≡ 0 → (rows cols : ℕ) (px : List Pixel) → clahe_values full rows cols px ≡ map (scaled full) (clahe_results rows cols px)
unfolding clahe_values clahe_results
greys_are full none rows cols px = values_are full none rows cols (tile_tables rows cols px) (places (length px)) px

none_8 : scaled full8 zero64 ≡ 0
unfolding mul of_bits to_unsigned
none_8 = refl

none_16 : scaled full16 zero64 ≡ 0
unfolding mul of_bits to_unsigned
none_16 = refl

-- ---- a row

among : (side i : ℕ) → ((tile_position side i).first < 8) × ((tile_position side i).second < 8)
unfolding tile_position
among side i = (omega arith, omega arith)

level-below : (u : Float) → level_of u < 256
unfolding level_of
level-below u = omega arith

module _ (rows cols : ℕ) (px : List Pixel) where
  abbrev tables : List (List ℕ)
  tables = tile_tables rows cols px

  abbrev sums : List (List Float)
  sums = tile_sums rows cols px

  sum-at : (k b : ℕ) → k < 64 → b < 256 → get_or (get_or sums k []) b nan ≡ sum_at (get_or tables k []) b
  unfolding tile_sums tile_tables
  sum-at k b h g =
      let t : ℕ → List ℕ = tile_table rows cols px in
      ap (λ (l : List Float). get_or l b nan) (map_at (λ t. map (sum_at t) (places 256)) [] [] (map t (places 64)) k (omega (arith, length-map (places 64) t, from-length 0 64)))
      ∙ places-at (sum_at (get_or (map t (places 64)) k [])) nan 256 b g

  -- a pixel's result from the tile sums is document 01's
  result_is : (r c : ℕ) → c < cols → (p : Pixel) → result_at rows cols tables (r * cols + c) p ≡ result_of sums (tile_position (tile_side rows) r) (tile_position (tile_side cols) c) p
  unfolding result_at result_of sample
  result_is r c h off = refl
  result_is r c h (on u) =
      let y = tile_position (tile_side rows) r in
      let x = tile_position (tile_side cols) c in
      let a = among (tile_side rows) r in
      let b = among (tile_side cols) c in
      let l = level-below u in
      ap (λ (n : ℕ). clamp_float zero64 one64 (sample tables (tile_position (tile_side rows) n) (tile_position (tile_side cols) ((r * cols + c) % cols)) (level_of u))) (row_of r c cols h)
      ∙ ap (λ (n : ℕ). clamp_float zero64 one64 (sample tables y (tile_position (tile_side cols) n) (level_of u))) (column_of_lem r c cols h)
      ∙ sym
      (cc (
        sum-at (y.first * 8 + x.first) (level_of u) (omega arith) l,
        sum-at (y.first * 8 + x.second) (level_of u) (omega arith) l,
        sum-at (y.second * 8 + x.first) (level_of u) (omega arith) l,
        sum-at (y.second * 8 + x.second) (level_of u) (omega arith) l,
      ))

  module _ (e : length px ≡ rows * cols) (r : ℕ) (h : r < rows) where
    inside : r * cols + cols ≤ length px
    inside = omega (arith, next_times r cols, mul-le-mul_right {m = r + 1} {n = rows} cols (omega arith))

    wide : {A : Type 0} (xs : List A) → length xs ≡ length px → length (row_at cols r xs) ≡ cols
    wide xs n = length-take-le cols (drop (r * cols) xs) (omega (arith, length-drop (r * cols) xs, inside))

    row_at_lem : {A : Type 0} (d : A) (xs : List A) (c : ℕ) → c < cols → get_or (row_at cols r xs) c d ≡ get_or xs (r * cols + c) d
    row_at_lem d xs c g = get_or-take cols (drop (r * cols) xs) c d g ∙ get_or-drop (r * cols) xs c d

    row_follows : row_at cols r (clahe_results rows cols px) ≡ row_results (tile_position (tile_side rows) r) sums (row_at cols r px)
    unfolding clahe_results row_results
    row_follows =
        let row = row_at cols r px in
        let y = tile_position (tile_side rows) r in
        let F : ℕ → Pixel → Float = result_at rows cols tables in
        let G : ℕ → Pixel → Float = λ c p. result_of sums y (tile_position (tile_side (length row)) c) p in
        let all = zip_with F (places (length px)) px in
        let n = length px in
        let size : length all ≡ length px = zip_length F (places n) px (sym (from-length 0 n)) ∙ from-length 0 n in
        let m = wide px refl in
        let long : length (zip_with G (places (length row)) row) ≡ cols = zip_length G (places (length row)) row (sym (from-length 0 (length row))) ∙ from-length 0 (length row) ∙ m in
        ext_get_or nan (row_at cols r all) (zip_with G (places (length row)) row) (wide all size ∙ sym long)
        (λ c g.
        let l : c < cols = omega (arith, wide all size) in
        let p = get_or px (r * cols + c) off in
        row_at_lem nan all c l ∙ zip-at F 0 off nan (places n) px (r * cols + c) (omega (arith, from-length 0 n, inside)) (omega (arith, inside))
        ∙ ap (λ (k : ℕ). F k p) (place_at n (r * cols + c) (omega (arith, inside))) ∙ result_is r c l p
        ∙ sym
        (zip-at G 0 off nan (places (length row)) row c (omega (arith, from-length 0 (length row), m)) (omega (arith, m))
        ∙ ap (λ (k : ℕ). G k (get_or row c off)) (place_at (length row) c (omega (arith, m)))
        ∙ ap (λ (k : ℕ). result_of sums y (tile_position (tile_side k) c) (get_or row c off)) m
        ∙ ap (result_of sums y (tile_position (tile_side cols) c)) (row_at_lem off px c l)))

-- a position by its four
four : (y y' : TilePosition) → y.position ≡ y'.position → y.first ≡ y'.first → y.second ≡ y'.second → y.weight ≡ y'.weight → y ≡ y'
four y y' a b c d = λ i. record { position = a i; first = b i; second = c i; weight = d i }

pub row_position : RowPosition
row_position =
    record {
      greys_8 = greys_are full8 none_8;
      greys_16 = greys_are full16 none_16;
      follows = λ rows cols r px e h. row_follows rows cols px e r h;
      alone = λ rows cols r px rows' cols' r' px' e e' h h' a b c d p s.
          row_follows rows cols px e r h
          ∙ (λ i. row_results (four (tile_position (tile_side rows) r) (tile_position (tile_side rows') r') a b c d i) (s i) (p i))
          ∙ sym (row_follows rows' cols' px' e' r' h');
    }
