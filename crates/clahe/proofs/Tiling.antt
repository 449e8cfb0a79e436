-- Where a tile lies, and its levels row by row. Assumes nothing.
use Rattle.std.proofs.Common.{◌≡◌, ℕ, zero, suc, ◌+◌, ◌-◌, ◌*◌, ◌/◌, ◌%◌, ◌<◌, ◌≤◌, List, [], ◌∷◌, ◌++◌, map, length, get_or, take, drop, replicate, sym, refl, ap, ◌∙◌, append-nil, suc-le-suc, zero-le, add-zero, mul-le-mul_right, suc-mul, arith, length-append, length-take}
use mathlib.Core.List.{flat_map, map-append}
use native.Mathlib.Nat.{sub-zero}
use lib.Ieee.{Float}
use Rattle.lists.proofs.Counts.{Below, counts-from_cells, stored_more, counts-sum}
use Rattle.raster.specs.declared.band.Raster.{Raster}
use Rattle.spec.specs.Lists.{places_from, counts, count_of, stored, sum_of}
use Rattle.spec.specs.Pixels.{Pixel, off, on, valid_of}
use Rattle.spec.specs.Clahe.{tile_start, tile_size, tile_pixels, tile_counts, level_of}
use Rattle.clahe.specs.Band.{levels}
use Rattle.clahe.specs.Limits.{ValidFewer}
use Rattle.clahe.proofs.Whole.{times_most}
use Rattle.lists.proofs.Counts.{stored-append, stored-most}
use Rattle.lists.proofs.Places.{next_times}
use Rattle.clahe.proofs.Rows.{Most}

-- ---- where it lies

module _ (s k : ℕ) where
  pub tile_inside : (r : ℕ) → r < tile_size s k → tile_start s k + r < s
  unfolding tile_size
  tile_inside r h = omega arith

  tile_end : 0 < tile_size s k → tile_start s k + tile_size s k ≤ s
  unfolding tile_size
  tile_end h = omega arith

  pub tile_most : tile_size s k ≤ s
  unfolding tile_size
  tile_most = omega arith

row_inside : (q rows cols left width : ℕ) → q < rows → left + width ≤ cols → q * cols + left + width ≤ rows * cols
row_inside q rows cols left width h k = omega (arith, next_times q cols, mul-le-mul_right {m = q + 1} {n = rows} cols (omega arith))

-- a tile's row lies in the raster
tile_row : (rows cols ty tx top height left width r : ℕ) → top ≡ tile_start rows ty → height ≡ tile_size rows ty → left ≡ tile_start cols tx → width ≡ tile_size cols tx
    → r < height → (width ≡ 0 → ⊥) → (top + r) * cols + left + width ≤ rows * cols
tile_row rows cols ty tx top height left width r a b c d h z =
    row_inside (top + r) rows cols left width (omega (arith, tile_inside rows ty r (omega arith))) (omega (arith, z, tile_end cols tx (omega (arith, z))))

-- and the raster has no more than 4,096 by 4,096 pixels
pub row_within : (s : Raster) {top height left width : ℕ} (ty tx r : ℕ) → top ≡ tile_start s.sides.rows ty → height ≡ tile_size s.sides.rows ty → left ≡ tile_start s.sides.cols tx → width ≡ tile_size s.sides.cols tx
    → r < height → (width ≡ 0 → ⊥)
    → ((top + r) * s.sides.cols + left + width ≤ s.sides.rows * s.sides.cols) × (s.sides.rows * s.sides.cols ≤ 16777216) × (length s.band.db.now ≡ s.sides.rows * s.sides.cols) × (width ≤ 4096) × (top + r < 4096)
row_within s {top} {height} {left} {width} ty tx r a b c d h z = (
  tile_row s.sides.rows s.sides.cols ty tx top height left width r a b c d h z,
  times_most s.sides.rows s.sides.cols 4096 4096 s.small.0 s.small.1,
  s.sized,
  omega (arith, d, tile_most s.sides.cols tx, s.small.1),
  omega (arith, a, tile_inside s.sides.rows ty r (omega (arith, b)), s.small.0),
)

-- ---- levels

valid-append : (ps qs : List Pixel) → valid_of (ps ++ qs) ≡ valid_of ps ++ valid_of qs
unfolding valid_of
valid-append [] qs = refl
valid-append (off ∷ ps) qs = valid-append ps qs
valid-append (on v ∷ ps) qs = ap (λ (l : List Float). v ∷ l) (valid-append ps qs)

levels-append : (ps qs : List Pixel) → levels (ps ++ qs) ≡ levels ps ++ levels qs
levels-append ps qs = ap (map level_of) (valid-append ps qs) ∙ map-append level_of (valid_of ps) (valid_of qs)

levels-below : (ps : List Pixel) → Below 256 (levels ps)
unfolding valid_of level_of
levels-below [] = tt
levels-below (off ∷ ps) = levels-below ps
levels-below (on v ∷ ps) = (omega arith, levels-below ps)

levels_fewer : (ps : List Pixel) → length (levels ps) ≤ length ps
unfolding valid_of
levels_fewer [] = zero-le
levels_fewer (off ∷ ps) = omega (arith, levels_fewer ps)
levels_fewer (on v ∷ ps) = suc-le-suc (levels_fewer ps)

pub row_most : (h : List ℕ) (m width : ℕ) (ps : List Pixel) → width ≤ 4096 → Most m h → Most (m + 4096) (stored h (levels (take width ps)))
row_most h m width ps l f k =
    omega (arith, stored-most h (levels (take width ps)) m f k, levels_fewer (take width ps), length-take width ps)

-- ---- one row after another

module _ (f : ℕ → List Pixel) (top height : ℕ) where
  -- h with the rows from r on
  abbrev pub Rest : List ℕ → ℕ → List ℕ
  Rest h r = stored h (levels (flat_map f (places_from (top + r) (height - r))))

  pub rest_next : (h : List ℕ) (r : ℕ) → r < height → Rest h r ≡ Rest (stored h (levels (f (top + r)))) (r + 1)
  unfolding places_from flat_map
  rest_next h r l =
      let n = height - (r + 1) in
      let e : height - r ≡ suc n = omega arith in
      let q : suc (top + r) ≡ top + (r + 1) = omega arith in
      rw e
      (ap (stored h) (levels-append (f (top + r)) (flat_map f (places_from (suc (top + r)) n)))
      ∙ sym (stored-append h (levels (f (top + r))) (levels (flat_map f (places_from (suc (top + r)) n))))
      ∙ ap (λ (m : ℕ). stored (stored h (levels (f (top + r)))) (levels (flat_map f (places_from m n)))) q)

  pub rest_end : (h : List ℕ) (r : ℕ) → height ≤ r → Rest h r ≡ h
  unfolding places_from flat_map valid_of stored
  rest_end h r l = let e : height - r ≡ 0 = omega arith in rw e

-- ---- the whole tile

nothing : (g : ℕ → List Pixel) (qs : List ℕ) → flat_map (λ q. take 0 (g q)) qs ≡ []
unfolding flat_map
nothing g [] = refl
nothing g (q ∷ qs) = nothing g qs

-- the pixels of row q of a tile that begins at column `left`
abbrev pub row_of : ℕ → List Pixel → ℕ → ℕ → ℕ → List Pixel
row_of cols px left width q = take width (drop (q * cols + left) px)

module _ (rows cols : ℕ) (px : List Pixel) (ty tx : ℕ) (h : List ℕ) where
  abbrev Tile : List ℕ
  Tile = stored h (levels (tile_pixels rows cols px ty tx))

  module _ (top height left width : ℕ) (a : top ≡ tile_start rows ty) (b : height ≡ tile_size rows ty) (c : left ≡ tile_start cols tx) (d : width ≡ tile_size cols tx) where
    pub tile_start_of : Tile ≡ Rest (row_of cols px left width) top height h 0
    unfolding tile_pixels
    tile_start_of = rw (add-zero, sub-zero, a, b, c, d)

    pub tile_narrow : width ≡ 0 → Tile ≡ h
    unfolding tile_pixels stored valid_of
    tile_narrow e =
        rw (← d, e) (ap (λ (ps : List Pixel). stored h (levels ps)) (nothing (λ r. drop (r * cols + tile_start cols tx) px) (places_from (tile_start rows ty) (tile_size rows ty))))

  pub tile_counts_lem : length h ≡ 256 → ((k : ℕ) → get_or h k 0 ≡ 0) → Tile ≡ tile_counts (tile_pixels rows cols px ty tx)
  unfolding tile_counts count_of
  tile_counts_lem e z =
      ap (λ (g : List ℕ). stored g (levels (tile_pixels rows cols px ty tx))) (counts-from_cells 256 h [] e (λ k l. z k))
      ∙ stored_more 256 (levels (tile_pixels rows cols px ty tx)) [] (levels-below (tile_pixels rows cols px ty tx))
      ∙ ap (counts 256) (append-nil (levels (tile_pixels rows cols px ty tx)))

-- ---- a tile has no more than 4,096 by 4,096 pixels, and so its counts sum to no more

rows_most : (f : ℕ → List Pixel) (m : ℕ) → ((q : ℕ) → length (f q) ≤ m) → (q n : ℕ) → length (flat_map f (places_from q n)) ≤ n * m
unfolding places_from flat_map
rows_most f m b q zero = zero-le
rows_most f m b q (suc n) =
    omega (arith, length-append (f q) (flat_map f (places_from (suc q) n)), b q, rows_most f m b (suc q) n, suc-mul n m)

tile_pixels-most : (rows cols : ℕ) (px : List Pixel) (ty tx : ℕ) → length (tile_pixels rows cols px ty tx) ≤ tile_size rows ty * tile_size cols tx
unfolding tile_pixels
tile_pixels-most rows cols px ty tx =
    rows_most (λ r. take (tile_size cols tx) (drop (r * cols + tile_start cols tx) px)) (tile_size cols tx)
    (λ q. omega (arith, length-take (tile_size cols tx) (drop (q * cols + tile_start cols tx) px))) (tile_start rows ty) (tile_size rows ty)

pub area_most : (rows cols ty tx : ℕ) → rows ≤ 4096 → cols ≤ 4096 → tile_size rows ty * tile_size cols tx ≤ 16777216
area_most rows cols ty tx h k =
    times_most (tile_size rows ty) (tile_size cols tx) 4096 4096 (omega (arith, tile_most rows ty)) (omega (arith, tile_most cols tx))

tile_sum : (rows cols : ℕ) (px : List Pixel) (ty tx : ℕ) → sum_of (tile_counts (tile_pixels rows cols px ty tx)) ≤ tile_size rows ty * tile_size cols tx
unfolding tile_counts
tile_sum rows cols px ty tx =
    let ps = tile_pixels rows cols px ty tx in
    omega (arith, counts-sum 256 (levels ps) (levels-below ps), levels_fewer ps, tile_pixels-most rows cols px ty tx)

pub valid_fewer : ValidFewer
unfolding ValidFewer
valid_fewer rows cols px k = tile_sum rows cols px (k / 8) (k % 8)

pub tile_sum-most : (rows cols : ℕ) (px : List Pixel) (ty tx : ℕ) → rows ≤ 4096 → cols ≤ 4096 → sum_of (tile_counts (tile_pixels rows cols px ty tx)) ≤ 16777216
tile_sum-most rows cols px ty tx h k = omega (arith, tile_sum rows cols px ty tx, area_most rows cols ty tx h k)

pub no_counts : (n k : ℕ) → get_or {A = ℕ} (replicate n 0) k 0 ≡ 0
no_counts zero k = refl
no_counts (suc n) zero = refl
no_counts (suc n) (suc k) = no_counts n k
