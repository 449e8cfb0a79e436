-- The value of a level, and the values of a part of a row in place of its levels. Assumes nothing.
use Rattle.std.proofs.Common.{◌≡◌, ℕ, zero, suc, ◌+◌, ◌-◌, ◌<◌, ◌≤◌, List, ◌++◌, map, length, get_or, slice_index_or, take, drop, sym, refl, ap, ◌∙◌, subst, arith, length-append, length-take, length-take-le, length-drop, get_or-take, get_or-drop, get_or-append-add, ext_get_or}
use lib.Ieee.{Float, nan, binary64, mul, to_unsigned}
use native.Mathlib.Decide.{dec_lt}
use lib.ListN.{length-map, get_or-append}
use Rattle.spec.specs.Floats.{zero64, one64, clamp_float}
use Rattle.spec.specs.Lists.{places}
use Rattle.clahe.specs.declared.columns.Column.{Column}
use Rattle.spec.specs.Clahe.{blend}
use Rattle.clahe.specs.declared.sampling.Row.{Row}
use Rattle.clahe.specs.Work.{ColumnAmong, sum_in, sampled}
use Rattle.clahe.specs.Within.{InUnit, Alike, Units}
use Rattle.clahe.proofs.Scaled.{Scale}
use Rattle.clahe.proofs.Within.{blend_within, scaled_alike}
use Rattle.clahe.specs.Paint.{shade, marked, no_column, shade_at, part_shades}
use Rattle.clahe.proofs.Parts.{put-before, put-inside}
use Rattle.lists.proofs.Places.{map_at, from-length, places-at}
use Rattle.clahe.proofs.InPlace.{Turned, turned_all}

marked_off : (m v : ℕ) → m ≡ 0 → marked m v ≡ 0
unfolding marked
marked_off zero v e = refl
marked_off (suc m) v e = absurd (omega arith)

marked_on : (m v : ℕ) → (m ≡ 0 → ⊥) → marked m v ≡ v
unfolding marked
marked_on zero v h = absurd (h refl)
marked_on (suc m) v h = refl

-- sums and weights in 0..1 blend to one that is
module _ (row : Row) (x : Column) (b : ℕ) (h : b < 256) (q : ColumnAmong x) (u : Units row) (v : InUnit row.weight) (w : InUnit x.weight) where
  across : (tiles : List Float) → ((i : ℕ) → i < 2048 → InUnit (slice_index_or tiles i nan)) → InUnit (blend x.weight (sum_in tiles x.first b) (sum_in tiles x.second b))
  across tiles k = blend_within x.weight (sum_in tiles x.first b) (sum_in tiles x.second b) w (k (x.first + b) (omega arith)) (k (x.second + b) (omega arith))

  pub sampled_unit : InUnit (sampled row.top.now row.bottom.now row.weight x b)
  unfolding sampled
  sampled_unit =
      blend_within row.weight (blend x.weight (sum_in row.top.now x.first b) (sum_in row.top.now x.second b)) (blend x.weight (sum_in row.bottom.now x.first b) (sum_in row.bottom.now x.second b)) v
      (across row.top.now (λ i l. (u i l).0)) (across row.bottom.now (λ i l. (u i l).1))

module _ (full : Float) (s : Scale full) (row : Row) where
  pub shade_of : (x : Column) (b : ℕ) (z t f : Float) → z ≡ sampled row.top.now row.bottom.now row.weight x b → Alike t (clamp_float zero64 one64 z) → f ≡ full
      → to_unsigned 64 (mul binary64 t f) ≡ shade full row.top.now row.bottom.now row.weight x b
  unfolding shade
  shade_of x b z t f q e g =
      ap (λ (g : Float). to_unsigned 64 (mul binary64 t g)) g ∙ scaled_alike s t (clamp_float zero64 one64 z) e ∙ ap (λ (z : Float). to_unsigned 64 (mul binary64 (clamp_float zero64 one64 z) full)) q

module _ (full : Float) (row : Row) {A : Type 0} (of : ℕ → A) (number : A → ℕ) where
  abbrev values : List ℕ → List Column → List A → List A
  values ms cs xs = map of (part_shades full row.top.now row.bottom.now row.weight ms cs (map number xs))

  abbrev value : ℕ → Column → A → A
  value m x a = of (marked m (shade full row.top.now row.bottom.now row.weight x (number a)))

  module _ (ms : List ℕ) (cs : List Column) (xs : List A) where
    abbrev at : ℕ → ℕ
    at = shade_at full row.top.now row.bottom.now row.weight ms cs (map number xs)

    abbrev numbers : List ℕ
    numbers = map at (places (length (map number xs)))

    many : length numbers ≡ length xs
    many = length-map (places (length (map number xs))) at ∙ from-length 0 (length (map number xs)) ∙ length-map xs number

    values-length : length (values ms cs xs) ≡ length xs
    unfolding part_shades
    values-length = length-map numbers of ∙ many

    values-at : (k : ℕ) → k < length xs → get_or (values ms cs xs) k (of 0) ≡ value (get_or ms k 0) (get_or cs k no_column) (get_or xs k (of 0))
    unfolding part_shades
    values-at k h =
        map_at of 0 (of 0) numbers k (omega (arith, many)) ∙ ap of (places-at at 0 (length (map number xs)) k (omega (arith, length-map xs number)))
        ∙ ap (λ (b : ℕ). of (marked (get_or ms k 0) (shade full row.top.now row.bottom.now row.weight (get_or cs k no_column) b))) (map_at number (of 0) 0 xs k h)

  module _ (marks : List ℕ) (columns : List Column) (old : List A) where
    -- what stands in place of column c's level
    abbrev pub turn : ℕ → A → A
    turn c a = value (get_or marks c 0) (get_or columns c no_column) a

    pub turned_off : (c : ℕ) (a n : A) → get_or marks c 0 ≡ 0 → n ≡ of 0 → n ≡ turn c a
    turned_off c a n m e = e ∙ ap of (sym (marked_off (get_or marks c 0) (shade full row.top.now row.bottom.now row.weight (get_or columns c no_column) (number a)) m))

    pub turned_on : (c b : ℕ) (a n : A) → (get_or marks c 0 ≡ 0 → ⊥) → b ≡ number a → n ≡ of (shade full row.top.now row.bottom.now row.weight (get_or columns c no_column) b) → n ≡ turn c a
    turned_on c b a n m q e =
        e ∙ ap (λ (b : ℕ). of (shade full row.top.now row.bottom.now row.weight (get_or columns c no_column) b)) q
        ∙ ap of (sym (marked_on (get_or marks c 0) (shade full row.top.now row.bottom.now row.weight (get_or columns c no_column) (number a)) m))

    pub part_turned : (c : ℕ) (out : List A) → length old ≤ c → Turned (of 0) turn old c out → out ≡ values marks columns old
    part_turned c out h t = turned_all (of 0) turn old c out (values marks columns old) t h (values-length marks columns old) (values-at marks columns old)

  -- ---- a row in two parts

  module _ (marks : List ℕ) (columns : List Column) (old : List A) (from : ℕ) (h : from ≤ length old) (a : length marks ≡ length old) (b : length columns ≡ length old) where
    abbrev half : List A → List A
    half xs = xs ++ drop from old

    abbrev rest : {B : Type 0} → List B → List B
    rest xs = take (length xs - from) (drop from xs)

    rest-at : {B : Type 0} (d : B) (xs : List B) (j : ℕ) → length xs ≡ length old → j < length old - from → get_or (rest xs) j d ≡ get_or xs (from + j) d
    rest-at d xs j e l = get_or-take (length xs - from) (drop from xs) j d (omega (arith, e)) ∙ get_or-drop from xs j d

    module _ (xs ys : List A) (m : ℕ) (p : xs ≡ values (take from marks) (take from columns) (take from old)) (e : m ≡ length (half xs) - from)
        (q : ys ≡ values (rest marks) (rest columns) (take m (drop from (half xs)))) where
      first : length xs ≡ from
      first = ap length p ∙ values-length (take from marks) (take from columns) (take from old) ∙ length-take-le from old h

      half_length : length (half xs) ≡ length old
      half_length = simp (length-append, length-drop) (omega (arith, first))

      second : length ys ≡ m
      second = ap length q ∙ values-length (rest marks) (rest columns) (take m (drop from (half xs))) ∙ simp (length-take, length-drop) (omega (arith, e))

      half-at : (j : ℕ) → get_or (half xs) (from + j) (of 0) ≡ get_or old (from + j) (of 0)
      half-at j = ap (λ (n : ℕ). get_or (half xs) (n + j) (of 0)) (sym first) ∙ get_or-append-add xs (drop from old) j (of 0) ∙ get_or-drop from old j (of 0)

      abbrev whole : List A
      whole = take from (half xs) ++ (ys ++ drop m (drop from (half xs)))

      before : (i : ℕ) → i < from → get_or whole i (of 0) ≡ value (get_or marks i 0) (get_or columns i no_column) (get_or old i (of 0))
      before i l =
          put-before (of 0) from (half xs) ys (drop m (drop from (half xs))) (omega (arith, half_length)) i l ∙ get_or-append xs (drop from old) (of 0) i (omega (arith, first)) ∙ ap (λ (t : List A). get_or t i (of 0)) p
          ∙ values-at (take from marks) (take from columns) (take from old) i (omega (arith, length-take-le from old h))
          ∙ cc (get_or-take from marks i 0 l, get_or-take from columns i no_column l, get_or-take from old i (of 0) l)

      after : (j : ℕ) → j < length old - from → get_or whole (from + j) (of 0) ≡ value (get_or marks (from + j) 0) (get_or columns (from + j) no_column) (get_or old (from + j) (of 0))
      after j l =
          let k : j < m = omega (arith, e, half_length) in
          put-inside (of 0) from (half xs) ys (drop m (drop from (half xs))) (omega (arith, half_length)) j (omega (arith, second)) ∙ ap (λ (t : List A). get_or t j (of 0)) q
          ∙ values-at (rest marks) (rest columns) (take m (drop from (half xs))) j (omega (arith, second, ap length q ∙ values-length (rest marks) (rest columns) (take m (drop from (half xs)))))
          ∙ cc (rest-at 0 marks j a l, rest-at no_column columns j b l, get_or-take m (drop from (half xs)) j (of 0) k, get_or-drop from (half xs) j (of 0), half-at j)

      pub joined : whole ≡ values marks columns old
      joined =
          let n : length whole ≡ length old = simp (length-append, length-take, length-drop) (omega (arith, h, first, second, e, half_length)) in
          ext_get_or (of 0) whole (values marks columns old) (n ∙ sym (values-length marks columns old))
          (λ i l. go i (omega (arith, n)) (dec_lt i from) ∙ sym (values-at marks columns old i (omega (arith, n))))
        where
          go : (i : ℕ) → i < length old → Dec (i < from) → get_or whole i (of 0) ≡ value (get_or marks i 0) (get_or columns i no_column) (get_or old i (of 0))
          go i l (yes d) = before i d
          go i l (no d) =
              let j = i - from in
              let t : from + j ≡ i = omega (arith, d) in
              subst (λ (k : ℕ). get_or whole k (of 0) ≡ value (get_or marks k 0) (get_or columns k no_column) (get_or old k (of 0))) t (after j (omega (arith, d)))
