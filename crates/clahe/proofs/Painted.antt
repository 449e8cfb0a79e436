-- A picture row by row, each value in place of its level, and that its values from the work list and the levels are those of the tables. Assumes nothing.
use Rattle.std.proofs.Common.{◌≡◌, ℕ, zero, suc, ◌+◌, ◌-◌, ◌*◌, ◌/◌, ◌%◌, ◌<◌, ◌≤◌, List, [], ◌∷◌, ◌++◌, map, length, get_or, take, drop, sym, refl, ap, ◌∙◌, subst, mul-le-mul_right, arith, ext_get_or, length-append, length-take, length-drop, get_or-take, get_or-drop}
use native.Mathlib.Decide.{dec_lt}
use mathlib.Core.List.{zip_with}
use lib.Ieee.{Float, nan, binary64, mul, to_unsigned}
use lib.ListN.{length-map}
use Rattle.raster.specs.declared.band.Band.{Band}
use Rattle.raster.specs.declared.band.Raster.{Raster}
use Rattle.types.specs.declared.TilePosition.{TilePosition}
use Rattle.types.specs.declared.WindowFloats.{WindowFloats}
use Rattle.spec.specs.Floats.{zero64, one64, clamp_float}
use Rattle.spec.specs.Lists.{places}
use Rattle.spec.specs.Pixels.{Pixel, off, on, pixel}
use Rattle.spec.specs.Grey.{normal_pixel}
use Rattle.spec.specs.Value.{normalized}
use Rattle.spec.specs.Clahe.{tile_side, tile_position, level_of, sum_at, sample, equalised, tile_tables, clahe_values}
use Rattle.clahe.specs.declared.columns.Column.{Column}
use Rattle.clahe.specs.declared.sampling.Row.{Row}
use Rattle.clahe.specs.Work.{Holds, Among, ColumnAmong, tiles_row, sum_in, sampled}
use Rattle.clahe.specs.Band.{normal_in, normal_pixels, level_at}
use Rattle.clahe.specs.Paint.{shade, marked, column_of, columns_of, no_column, shade_at, part_shades, place_shade, shades}
use Rattle.clahe.proofs.Whole.{times_most}
use Rattle.clahe.proofs.Parts.{put-before, put-inside, put-after}
use Rattle.clahe.proofs.InPlace.{Turned, turned_all}
use Rattle.clahe.proofs.Positions.{among, columns-length, column_among}
use Rattle.lists.proofs.Places.{next_times, row_of, column_of_lem, from-length, places-at, map_at, place_at}
use Rattle.lists.proofs.Zip.{zip-at, zip_length}
use Rattle.clahe.proofs.Levels.{pixels_length, pixel_at}

-- ---- row by row

-- row r lies in the raster, which has no more than 4,096 by 4,096 pixels
abbrev pub Fits : Raster → ℕ → Type 0
Fits s r =
    (r * s.sides.cols + s.sides.cols ≤ s.sides.rows * s.sides.cols) × (s.sides.rows * s.sides.cols ≤ 16777216)
    × (length s.band.valid_mask.now ≡ s.sides.rows * s.sides.cols) × (length s.band.db.now ≡ s.sides.rows * s.sides.cols)

module _ (s : Raster) where
  abbrev Rows : ℕ
  Rows = s.sides.rows

  abbrev Cols : ℕ
  Cols = s.sides.cols

  abbrev marks : List ℕ
  marks = s.band.valid_mask.now

  pub row_fits : (r : ℕ) → r < Rows → Fits s r
  row_fits r h = (
    omega (arith, next_times r Cols, mul-le-mul_right {m = r + 1} {n = Rows} Cols (omega arith)),
    times_most Rows Cols 4096 4096 s.small.0 s.small.1,
    s.band.alike ∙ s.sized,
    s.sized,
  )

  -- the columns of a raster
  module _ (xs : List Column) (e : xs ≡ columns_of Cols) where
    pub columns_many : length xs ≡ Cols
    columns_many = ap length e ∙ columns-length Cols

    pub columns_among : (c : ℕ) → c < length xs → ColumnAmong (get_or xs c no_column)
    columns_among c l = (column_among Cols c no_column xs e (omega (arith, columns_many))).1

  module _ {A : Type 0} (of : ℕ → A) (number : A → ℕ) (full : Float) (work : List Float) (old : List A) where
    abbrev Levels : List ℕ
    Levels = map number old

    abbrev Value : ℕ → ℕ
    Value = place_shade full work Rows Cols marks Levels

    -- what stands in place of the level at place i
    abbrev pub painted : ℕ → A → A
    painted i a = of (Value i)

    module _ (given : length old ≡ Rows * Cols) where
      module _ (r n : ℕ) (h : r < Rows) (l : n ≡ Cols) (out : List A) (f : Turned (of 0) painted old (r * Cols) out) where
        abbrev p : ℕ
        p = r * Cols

        fits : p + n ≤ Rows * Cols
        fits = omega (arith, row_fits r h)

        abbrev part_of : {B : Type 0} → List B → List B
        part_of xs = take n (drop p xs)

        part_size : length (part_of out) ≡ n
        part_size = simp (length-take, length-drop) (omega (arith, given, f.size, fits))

        at_part : {B : Type 0} (d : B) (xs : List B) (c : ℕ) → c < n → get_or (part_of xs) c d ≡ get_or xs (p + c) d
        at_part d xs c g = get_or-take n (drop p xs) c d g ∙ get_or-drop p xs c d

        level_at_place : (c : ℕ) → c < n → get_or (map number (part_of out)) c 0 ≡ get_or Levels (p + c) 0
        level_at_place c g =
            map_at number (of 0) 0 (part_of out) c (omega (arith, part_size)) ∙ ap number (at_part (of 0) out c g ∙ f.same (p + c) (omega arith))
            ∙ sym (map_at number (of 0) 0 old (p + c) (omega (arith, given, fits)))

        module _ (side : ℕ) (y : TilePosition) (d : side ≡ tile_side Rows) (e : y ≡ tile_position side r) (row : Row) (t : (row.top.now ≡ tiles_row work y.first) × (row.bottom.now ≡ tiles_row work y.second) × (row.weight ≡ y.weight))
            (xs : List Column) (m : xs ≡ columns_of Cols) where
          part_value : (c : ℕ) → c < n → shade_at full row.top.now row.bottom.now row.weight (part_of marks) xs (map number (part_of out)) c ≡ Value (p + c)
          part_value c g =
              cc (
                t.0,
                t.1,
                t.2,
                e,
                d,
                sym (row_of r c Cols (omega arith)),
                column_of_lem r c Cols (omega arith),
                (column_among Cols c no_column xs m (omega arith)).0,
                at_part 0 marks c g,
                level_at_place c g,
              )

          pub before_next : (ys : List A) → ys ≡ map of (part_shades full row.top.now row.bottom.now row.weight (part_of marks) xs (map number (part_of out))) → Turned (of 0) painted old ((r + 1) * Cols) (take p out ++ (ys ++ drop n (drop p out)))
          unfolding part_shades
          before_next ys w =
              record {
                size = simp (length-append, length-take, length-drop) (omega (arith, given, f.size, size, fits));
                new = λ i g. new i g (dec_lt i p);
                same = λ i g. put-after (of 0) p n out ys (omega (arith, given, f.size, fits)) size i (omega (arith, next_times r Cols)) ∙ f.same i (omega (arith, next_times r Cols));
              }
            where
              levels : List ℕ
              levels = map number (part_of out)

              values : List ℕ
              values = part_shades full row.top.now row.bottom.now row.weight (part_of marks) xs levels

              count : length levels ≡ n
              count = length-map (part_of out) number ∙ part_size

              as_many : length values ≡ n
              as_many = length-map (places (length levels)) (shade_at full row.top.now row.bottom.now row.weight (part_of marks) xs levels) ∙ from-length 0 (length levels) ∙ count

              size : length ys ≡ n
              size = ap length w ∙ length-map values of ∙ as_many

              put : List A
              put = take p out ++ (ys ++ drop n (drop p out))

              here : (c : ℕ) → c < n → get_or put (p + c) (of 0) ≡ of (Value (p + c))
              here c g =
                  put-inside (of 0) p out ys (drop n (drop p out)) (omega (arith, given, f.size, fits)) c (omega (arith, size)) ∙ ap (λ (t : List A). get_or t c (of 0)) w
                  ∙ map_at of 0 (of 0) values c (omega (arith, as_many))
                  ∙ ap of (places-at (shade_at full row.top.now row.bottom.now row.weight (part_of marks) xs levels) 0 (length levels) c (omega (arith, count)) ∙ part_value c g)

              new : (i : ℕ) → i < (r + 1) * Cols → Dec (i < p) → get_or put i (of 0) ≡ of (Value i)
              new i g (yes b) = put-before (of 0) p out ys (drop n (drop p out)) (omega (arith, given, f.size, fits)) i b ∙ f.new i b
              new i g (no b) =
                  let c = i - p in
                  let t : p + c ≡ i = omega (arith, b) in
                  subst (λ (j : ℕ). get_or put j (of 0) ≡ of (Value j)) t (here c (omega (arith, b, next_times r Cols)))

      pub before_all : (p : ℕ) (out : List A) → p ≡ Rows * Cols → Turned (of 0) painted old p out → out ≡ map of (shades full work Rows Cols marks Levels)
      unfolding shades
      before_all p out e f =
          let zs = map Value (places (length Levels)) in
          let count = length-map old number in
          let many = length-map (places (length Levels)) Value ∙ from-length 0 (length Levels) ∙ count in
          turned_all (of 0) painted old p out (map of zs) f (omega (arith, e, given)) (length-map zs of ∙ many)
          (λ k l. map_at of 0 (of 0) zs k (omega (arith, many)) ∙ ap of (places-at Value 0 (length Levels) k (omega (arith, count))))

-- ---- the work list for the tables

module _ (tables : List (List ℕ)) (work : List Float) (s : Holds tables work) where
  tile_sum : (ty tx b : ℕ) → ty < 8 → tx < 8 → b < 256 → sum_in (tiles_row work ty) (tx * 256) b ≡ sum_at (get_or tables (ty * 8 + tx) []) b
  tile_sum ty tx b h k g =
      let e : ty * 2048 + (tx * 256 + b) ≡ (ty * 8 + tx) * 256 + b = omega arith in
      get_or-take 2048 (drop (ty * 2048) work) (tx * 256 + b) nan (omega arith) ∙ get_or-drop (ty * 2048) work (tx * 256 + b) nan ∙ ap (λ (i : ℕ). get_or work i nan) e
      ∙ s.at (ty * 8 + tx) b (omega arith) g

  sampled_is : (y : TilePosition) (cols c b : ℕ) → Among y → b < 256
      → sampled (tiles_row work y.first) (tiles_row work y.second) y.weight (column_of cols c) b ≡ sample tables y (tile_position (tile_side cols) c) b
  unfolding sampled sample
  sampled_is y cols c b h g =
      let x = tile_position (tile_side cols) c in
      let k = among (tile_side cols) c in
      cc (
        tile_sum y.first x.first b h.0 k.0 g,
        tile_sum y.first x.second b h.0 k.1 g,
        tile_sum y.second x.first b h.1 k.0 g,
        tile_sum y.second x.second b h.1 k.1 g,
      )

  level-below : (u : Float) → level_of u < 256
  unfolding level_of
  level-below u = omega arith

  -- the value of a pixel from its mark and its level
  shade_is : (full : Float) (rows cols i m : ℕ) (v : Float) (w : WindowFloats)
      → let y = tile_position (tile_side rows) (i / cols) in
      marked m (shade full (tiles_row work y.first) (tiles_row work y.second) y.weight (column_of cols (i % cols)) (level_at (normal_in w (pixel m v)))) ≡ equalised full rows cols tables i (normal_in w (pixel m v))
  unfolding marked shade equalised pixel normal_pixel level_at
  shade_is full rows cols i zero v w = refl
  shade_is full rows cols i (suc m) v w =
      let u = normalized w.low w.high w.range v in
      ap (λ (t : Float). to_unsigned 64 (mul binary64 (clamp_float zero64 one64 t) full))
      (sampled_is (tile_position (tile_side rows) (i / cols)) cols (i % cols) (level_of u) (among (tile_side rows) (i / cols)) (level-below u))

-- the levels that elements hold, where each holds a pixel's
pub levels_kept : {A : Type 0} (of : ℕ → A) (number : A → ℕ) → ((n : ℕ) → n < 256 → number (of n) ≡ n) → (px : List Pixel) {out : List A} → out ≡ map of (map level_at px) → map number out ≡ map level_at px
unfolding level_at level_of
levels_kept of number law px e = ap (map number) e ∙ go px
  where
    below : (p : Pixel) → level_at p < 256
    below off = omega arith
    below (on u) = omega arith

    go : (ps : List Pixel) → map number (map of (map level_at ps)) ≡ map level_at ps
    go [] = refl
    go (p ∷ ps) = cc (law (level_at p) (below p), go ps)

pub shades_are : (full : Float) (rows cols : ℕ) (w : WindowFloats) (band : Band) (work : List Float) (bs : List ℕ) → Holds (tile_tables rows cols (normal_pixels w band)) work
    → bs ≡ map level_at (normal_pixels w band) → shades full work rows cols band.valid_mask.now bs ≡ clahe_values full rows cols (normal_pixels w band)
unfolding shades clahe_values
shades_are full rows cols w band work bs s e =
    ext_get_or 0 (map value (places (length bs))) (zip_with F (places n) px) (length-map (places (length bs)) value ∙ from-length 0 (length bs) ∙ many ∙ sym count)
    (λ i h. let l = length-map (places (length bs)) value in let p = from-length 0 (length bs) in
    places-at value 0 (length bs) i (omega (arith, l, p))
    ∙ at i (omega (arith, l, p, many, pixels_length w band))
    ∙ sym (zip-at F 0 off 0 (places n) px i (omega (arith, l, p, many, from-length 0 n)) (omega (arith, l, p, many)) ∙ ap (λ (k : ℕ). F k (get_or px i off)) (place_at n i (omega (arith, l, p, many)))))
  where
    px : List Pixel
    px = normal_pixels w band

    n : ℕ
    n = length px

    F : ℕ → Pixel → ℕ
    F = equalised full rows cols (tile_tables rows cols px)

    value : ℕ → ℕ
    value = place_shade full work rows cols band.valid_mask.now bs

    many : length bs ≡ n
    many = ap length e ∙ length-map px level_at

    count : length (zip_with F (places n) px) ≡ n
    count = zip_length F (places n) px (sym (from-length 0 n)) ∙ from-length 0 n

    at : (i : ℕ) → i < length band.db.now → value i ≡ F i (get_or px i off)
    at i h =
        let y = tile_position (tile_side rows) (i / cols) in
        ap (λ (b : ℕ). marked (get_or band.valid_mask.now i 0) (shade full (tiles_row work y.first) (tiles_row work y.second) y.weight (column_of cols (i % cols)) b))
        (ap (λ (l : List ℕ). get_or l i 0) e ∙ map_at level_at off 0 px i (omega (arith, pixels_length w band)) ∙ ap level_at (pixel_at w band i h))
        ∙ shade_is (tile_tables rows cols px) work s full rows cols i (get_or band.valid_mask.now i 0) (get_or band.db.now i nan) w
        ∙ ap (F i) (sym (pixel_at w band i h))
