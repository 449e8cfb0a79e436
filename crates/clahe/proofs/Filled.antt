-- The levels of a tile in their places of the whole picture, row by row, and the tiles one after another. Assumes nothing.
use Rattle.std.proofs.Common.{◌≡◌, ℕ, ◌+◌, ◌-◌, ◌*◌, ◌/◌, ◌%◌, ◌<◌, ◌≤◌, Bool, cond, eqb, List, ◌++◌, map, length, get_or, take, drop, sym, refl, ap, ◌∙◌, subst, arith, mod-lt, div-add-mod', div-lt_iff_lt-mul, ext_get_or, length-append, length-take, length-drop, get_or-drop, get_or-take}
use native.Mathlib.Decide.{dec_lt, ℕ_discrete}
use Rattle.std.proofs.lemmas.Bool.{eq-eqb, ne_eqb}
use lib.ListN.{length-map}
use Rattle.spec.specs.Lists.{places}
use Rattle.spec.specs.Pixels.{Pixel, off}
use Rattle.spec.specs.Clahe.{tile_side, tile_start, tile_size}
use Rattle.clahe.specs.Band.{level_at, tile_at, tile_levels}
use Rattle.lists.proofs.Places.{next_times, row_of, column_of_lem, from-length, places-at, map_at}
use Rattle.clahe.proofs.Parts.{put-before, put-inside, put-after}

-- n lies in the q-th run of m
lies : (n m q : ℕ) → 0 < m → n / m ≡ q → (q * m ≤ n) × (n < q * m + m)
lies n m q h e = subst (λ (p : ℕ). (p * m ≤ n) × (n < p * m + m)) e (omega (arith, div-add-mod' n m), omega (arith, div-add-mod' n m, mod-lt n h))

module _ (rows cols : ℕ) where
  -- a place of the picture lies in one of its rows and one of its columns
  pub inside : (i : ℕ) → i < rows * cols → (0 < cols) × (i / cols < rows) × (i % cols < cols) × (i ≡ i / cols * cols + i % cols)
  inside i h = go (dec_lt 0 cols)
    where
      go : Dec (0 < cols) → (0 < cols) × (i / cols < rows) × (i % cols < cols) × (i ≡ i / cols * cols + i % cols)
      go (yes p) = (p, (div-lt_iff_lt-mul {k = cols} {x = i} {y = rows} p).1 h, mod-lt i p, sym (div-add-mod' i cols))
      go (no p) = let e : cols ≡ 0 = omega (arith, p) in absurd (omega (arith, subst (λ (n : ℕ). i < rows * n) e h))

  -- its tile is one of the 64
  eighth : (n s : ℕ) → n < s → n / tile_side s < 8
  eighth n s h = (div-lt_iff_lt-mul {k = tile_side s} {x = n} {y = 8} (omega arith)).1 (omega arith)

  pub tile_below : (i : ℕ) → i < rows * cols → tile_at rows cols i < 64
  unfolding tile_at
  tile_below i h = let p = inside i h in omega (arith, eighth (i / cols) rows p.1, eighth (i % cols) cols p.2)

  module _ (ty tx : ℕ) where
    abbrev top : ℕ
    top = tile_start rows ty

    abbrev left : ℕ
    left = tile_start cols tx

    abbrev height : ℕ
    height = tile_size rows ty

    abbrev width : ℕ
    width = tile_size cols tx

    -- a place of this tile
    abbrev Here : ℕ → Type 0
    Here i = tile_at rows cols i ≡ ty * 8 + tx

    parts : tx < 8 → (i : ℕ) → i < rows * cols → Here i → (i / cols / tile_side rows ≡ ty) × (i % cols / tile_side cols ≡ tx)
    unfolding tile_at
    parts g i h e = let p = inside i h in let q = eighth (i % cols) cols p.2 in (omega arith, omega arith)

    pub here : tx < 8 → (i : ℕ) → i < rows * cols → Here i → (top ≤ i / cols) × (i / cols < top + height) × (left ≤ i % cols) × (i % cols < left + width)
    unfolding tile_size
    here g i h e =
        let p = inside i h in
        let q = parts g i h e in
        let a = lies (i / cols) (tile_side rows) ty (omega (arith, p.1)) q.0 in
        let b = lies (i % cols) (tile_side cols) tx (omega (arith, p.0)) q.1 in
        let m = next_times ty (tile_side rows) in
        let n = next_times tx (tile_side cols) in
        (omega (arith, a), omega (arith, a, m, p.1), omega (arith, b), omega (arith, b, n, p.2))

    -- the places of a row of this tile
    module _ (q : ℕ) (k : q < height) (i j : ℕ) (l : j < width) (e : i ≡ (top + q) * cols + left + j) where
      column : left + j < cols
      unfolding tile_size
      column = omega arith

      placed : i ≡ (top + q) * cols + (left + j)
      placed = omega (arith, e)

      pub in_row : i / cols ≡ top + q
      in_row = ap (λ (n : ℕ). n / cols) placed ∙ row_of (top + q) (left + j) cols column

      in_column : i % cols ≡ left + j
      in_column = ap (λ (n : ℕ). n % cols) placed ∙ column_of_lem (top + q) (left + j) cols column

      pub in_tile : Here i
      unfolding tile_at tile_size
      in_tile =
          let a = row_of ty q (tile_side rows) (omega arith) in
          let b = row_of tx j (tile_side cols) (omega arith) in
          ap (λ (n : ℕ). n / tile_side rows * 8 + i % cols / tile_side cols) in_row ∙ ap (λ (n : ℕ). (top + q) / tile_side rows * 8 + n / tile_side cols) in_column
          ∙ ap (λ (n : ℕ). n * 8 + (left + j) / tile_side cols) a ∙ ap (λ (n : ℕ). ty * 8 + n) b

    module _ {A : Type 0} (of : ℕ → A) (px : List Pixel) (old : List A) where
      abbrev level : ℕ → A
      level i = of (level_at (get_or px i off))

      -- the tile's rows before q have their levels, the other places are as they were
      pub record Filled (q : ℕ) (out : List A) : Type 0 where
        pub size : length out ≡ length old
        pub new : (i : ℕ) → i < rows * cols → Here i → i / cols < top + q → get_or out i (of 0) ≡ level i
        pub same : (i : ℕ) → i < rows * cols → (Here i → i / cols < top + q → ⊥) → get_or out i (of 0) ≡ get_or old i (of 0)

      -- a row of levels, from a part of the pixels
      pub row_levels : (at : ℕ) (ys : List A) → at + width ≤ length px → ys ≡ map of (map level_at (take width (drop at px)))
          → (length ys ≡ width) × ((j : ℕ) → j < width → get_or ys j (of 0) ≡ level (at + j))
      row_levels at ys h e =
          let ps = take width (drop at px) in
          let n : length ps ≡ width = simp (length-take, length-drop) (omega arith) in
          let m = length-map ps level_at in (
            ap length e ∙ length-map (map level_at ps) of ∙ m ∙ n,
            λ j l.
                ap (λ (t : List A). get_or t j (of 0)) e ∙ map_at of 0 (of 0) (map level_at ps) j (omega (arith, m, n)) ∙ ap of (map_at level_at off 0 ps j (omega (arith, n)))
                ∙ ap (λ (p : Pixel). of (level_at p)) (get_or-take width (drop at px) j off l ∙ get_or-drop at px j off),
          )

      module _ (g : tx < 8) where
        pub filled_none : Filled 0 old
        filled_none = record { size = refl; new = λ i h e l. absurd (omega (arith, here g i h e)); same = λ i h n. refl }

        module _ (q : ℕ) (k : q < height) (at n : ℕ) (out ys : List A) (f : Filled q out) (o : length old ≡ rows * cols) (a : at ≡ (top + q) * cols + left) (z : n ≡ width)
            (d : at + width ≤ rows * cols) (m : (length ys ≡ width) × ((j : ℕ) → j < width → get_or ys j (of 0) ≡ level (at + j))) where
          abbrev put : List A
          put = take at out ++ (ys ++ drop n (drop at out))

          size : length out ≡ rows * cols
          size = f.size ∙ o

          -- what is read at a place after the row is put
          read : (i : ℕ) → i < rows * cols → (B : A → Type 0) → ((j : ℕ) → j < width → i ≡ at + j → B (level i)) → (((j : ℕ) → j < width → i ≡ at + j → ⊥) → B (get_or out i (of 0))) → B (get_or put i (of 0))
          read i h B x y = go (dec_lt i at) (dec_lt i (at + width))
            where
              go : Dec (i < at) → Dec (i < at + width) → B (get_or put i (of 0))
              go (yes a) b = subst B (sym (put-before (of 0) at out ys (drop n (drop at out)) (omega (arith, size)) i a)) (y (λ j l e. omega arith))
              go (no a) (yes b) =
                  let j = i - at in
                  let e : at + j ≡ i = omega (arith, a) in
                  let l : j < width = omega (arith, a, b) in
                  subst B (sym (ap (λ (p : ℕ). get_or put p (of 0)) (sym e) ∙ put-inside (of 0) at out ys (drop n (drop at out)) (omega (arith, size)) j (omega (arith, m.0)) ∙ m.1 j l ∙ ap level e)) (x j l (sym e))
              go (no a) (no b) =
                  subst B (sym (put-after (of 0) at n out ys (omega (arith, size)) (omega (arith, m.0)) i (omega (arith, b)))) (y (λ j l e. b (omega arith)))

          pub filled_next : Filled (q + 1) put
          filled_next =
              record {
                size = simp (length-append, length-take, length-drop) (omega (arith, size, m.0, o));
                new = λ i h e l. read i h (λ x. x ≡ level i) (λ j g s. refl)
                    (λ o. f.new i h e (omega (arith, before i h e l o)));
                same = λ i h o. read i h (λ x. x ≡ get_or old i (of 0)) (λ j g s. absurd (o (in_tile q k i j g (omega (arith, s))) (omega (arith, in_row q k i j g (omega (arith, s))))))
                    (λ p. f.same i h (λ e l. o e (omega arith)));
              }
            where
              before : (i : ℕ) → i < rows * cols → Here i → i / cols < top + (q + 1) → ((j : ℕ) → j < width → i ≡ at + j → ⊥) → i / cols < top + q
              before i h e l o = go (dec_lt (i / cols) (top + q))
                where
                  go : Dec (i / cols < top + q) → i / cols < top + q
                  go (yes p) = p
                  go (no p) =
                      let w = here g i h e in
                      let r : i / cols ≡ top + q = omega (arith, p) in
                      let s = (inside i h).3 ∙ ap (λ (t : ℕ). t * cols + i % cols) r in
                      absurd (o (i % cols - left) (omega (arith, w)) (omega (arith, w, s)))

        pub filled_all : (q : ℕ) (out : List A) → length old ≡ rows * cols → Filled q out → ((i : ℕ) → i < rows * cols → Here i → i / cols < top + q) → out ≡ tile_levels of rows cols px (ty * 8 + tx) old
        unfolding tile_levels
        filled_all q out n f all =
            ext_get_or (of 0) out (tile_levels of rows cols px (ty * 8 + tx) old) (f.size ∙ sym (length-map (places (length old)) value ∙ from-length 0 (length old)))
            (λ i h. let s = f.size in go i (omega arith) (ℕ_discrete (tile_at rows cols i) (ty * 8 + tx)) ∙ sym (places-at value (of 0) (length old) i (omega arith)))
          where
            value : ℕ → A
            value i = cond (eqb (tile_at rows cols i) (ty * 8 + tx)) (level i) (get_or old i (of 0))

            go : (i : ℕ) → i < rows * cols → Dec (Here i) → get_or out i (of 0) ≡ value i
            go i h (yes e) = f.new i h e (all i h e) ∙ sym (ap (λ (t : Bool). cond t (level i) (get_or old i (of 0))) (eq-eqb (tile_at rows cols i) (ty * 8 + tx) e))
            go i h (no e) = f.same i h (λ d l. e d) ∙ sym (ap (λ (t : Bool). cond t (level i) (get_or old i (of 0))) (ne_eqb (tile_at rows cols i) (ty * 8 + tx) e))

-- ---- one tile after another

module _ (rows cols : ℕ) {A : Type 0} (of : ℕ → A) (px : List Pixel) where
  -- the pixels of the tiles before k have their levels
  pub record Before (k : ℕ) (out : List A) : Type 0 where
    pub size : length out ≡ rows * cols
    pub new : (i : ℕ) → i < rows * cols → tile_at rows cols i < k → get_or out i (of 0) ≡ of (level_at (get_or px i off))

  pub before_none : (out : List A) → length out ≡ rows * cols → Before 0 out
  before_none out n = record { size = n; new = λ i h l. absurd (omega arith) }

  pub before_next : (k : ℕ) (out new : List A) → Before k out → new ≡ tile_levels of rows cols px k out → Before (k + 1) new
  unfolding tile_levels
  before_next k out new b e =
      record {
        size = ap length e ∙ length-map (places (length out)) value ∙ from-length 0 (length out) ∙ b.size;
        new = λ i h l. let s = b.size in ap (λ (t : List A). get_or t i (of 0)) e ∙ places-at value (of 0) (length out) i (omega arith) ∙ go i h l (ℕ_discrete (tile_at rows cols i) k);
      }
    where
      value : ℕ → A
      value i = cond (eqb (tile_at rows cols i) k) (of (level_at (get_or px i off))) (get_or out i (of 0))

      go : (i : ℕ) → i < rows * cols → tile_at rows cols i < k + 1 → Dec (tile_at rows cols i ≡ k) → value i ≡ of (level_at (get_or px i off))
      go i h l (yes d) = ap (λ (t : Bool). cond t (of (level_at (get_or px i off))) (get_or out i (of 0))) (eq-eqb (tile_at rows cols i) k d)
      go i h l (no d) = ap (λ (t : Bool). cond t (of (level_at (get_or px i off))) (get_or out i (of 0))) (ne_eqb (tile_at rows cols i) k d) ∙ b.new i h (omega (arith, d))

  pub before_all : (k : ℕ) (out : List A) → length px ≡ rows * cols → 64 ≤ k → Before k out → out ≡ map of (map level_at px)
  before_all k out n h b =
      let m = length-map px level_at in
      ext_get_or (of 0) out (map of (map level_at px)) (b.size ∙ sym (length-map (map level_at px) of ∙ m ∙ n))
      (λ i l. let s = b.size in
      b.new i (omega arith) (omega (arith, tile_below rows cols i (omega arith)))
      ∙ sym (map_at of 0 (of 0) (map level_at px) i (omega (arith, m, n)) ∙ ap of (map_at level_at off 0 px i (omega (arith, n)))))
