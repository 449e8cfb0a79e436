-- Values from 0.0 to 1.0: a blend of two by such a weight, a tile's sum and a normalised value are such, rounded steps included, and need not be held there again. Assumes nothing.
use Rattle.std.proofs.Common.{◌≡◌, ℕ, zero, suc, ◌+◌, ◌-◌, ◌*◌, ◌/◌, ◌%◌, ◌^◌, ◌<◌, ◌≤◌, Bool, true, false, cond, not, T, ltb, ltb→lt, lt→ltb, ℤ, List, [], take, slice_index_or, le_antisymm, sym, refl, ap, ◌∙◌, subst, mul-le-mul, mul-pos, mul_assoc, mul_comm, mul_left_comm, add-mul, zero-mul, mul-zero, le_of_mul-le-mul_right, mul-le-mul_right, div-mul-le_self, arith, lit<, lit≤, pow_pos, pow_mono, pow-add, shl_lt, ◌⊎◌, inl, inr, lt_of_lt_of_le, drop, get_or-take, get_or-drop}
use native.Mathlib.Nat.{lt-div-mul-add}
use Rattle.std.proofs.lemmas.Bool.{cases_lt}
use lib.Ieee.{Float, nan, inf, fin, binary64, up, down, round, neg, add, sub, mul, div, lt, le, of_bits, to_unsigned}
use lib.Ieee.Exact.{HasValue, round_exact}
use lib.Ieee.Positive.{num, den, den_pos}
use lib.Ieee.Scale.{round_same, finite}
use Rattle.numeric.proofs.Order.{plus, less, le→cross, cross→le, finite-between, le_trans as le_trans', le_refl as le_refl', number_of_finite, le_left, le_right, le_of_not_lt, only_top}
use Rattle.numeric.proofs.Round.{Rounds, rounds-le}
use Rattle.numeric.proofs.Ops.{add_rounds, sub-rounds, add-le_both, sub-le_both, sub_nonneg, sub-le, mul-le, div-le, div-rounds, num_pos}
use Rattle.numeric.proofs.Picks.{clamped_lo, clamped_hi, to_unsigned-le, round_as_u64-le}
use Rattle.numeric.proofs.Values.{value-finite, value_plus, value_less, add-values, nothing_less}
use Rattle.spec.specs.Floats.{zero64, one64, of_count, max_float, clamp_float, round_as_u64}
use Rattle.spec.specs.Lists.{sum_of}
use Rattle.spec.specs.Value.{normalized}
use Rattle.spec.specs.Clahe.{last64, level_of, sum_at, blend}
use Rattle.clahe.specs.Work.{Holds}
use Rattle.clahe.specs.Within.{InUnit, Alike, Plain, Units}
use Rattle.clahe.specs.declared.sampling.Row.{Row}
use Rattle.clahe.specs.Work.{Among, tiles_row}
use Rattle.types.specs.declared.TilePosition.{TilePosition}
use Rattle.clahe.proofs.Scaled.{Scale, held_unit, level_of_lem}

-- ---- products of values that are not below zero

product : (x y : Float) → T (finite x) → T (finite y) → less x ≡ 0 → less y ≡ 0 → Rounds binary64 (mul binary64 x y) (plus x * plus y) 0 (den x * den y)
unfolding mul
product nan y p q a b = absurd p
product (inf s) y p q a b = absurd p
product (fin s m e) nan p q a b = absurd q
product (fin s m e) (inf t) p q a b = absurd q
product (fin false m e) (fin false n d) p q a b = record { sign = false; size = m * up e * (n * up d); is = refl; value = omega arith }
product (fin false m e) (fin true n d) p q a b = record { sign = true; size = m * up e * (n * up d); is = refl; value = omega (arith, mul-zero (m * up e), ap (λ (z : ℕ). m * up e * z) b) }
product (fin true m e) (fin false n d) p q a b = record { sign = true; size = m * up e * (n * up d); is = refl; value = omega (arith, zero-mul (n * up d), ap (λ (z : ℕ). z * (n * up d)) a) }
product (fin true m e) (fin true n d) p q a b = record { sign = false; size = m * up e * (n * up d); is = refl; value = omega (arith, zero-mul (n * up d), ap (λ (z : ℕ). z * (n * up d)) a) }

finite_unit : (x : Float) → InUnit x → T (finite x)
unfolding of_bits
finite_unit x u = finite-between zero64 x one64 tt tt u.0 u.1

within_one : (x : Float) → InUnit x → plus x ≤ den x
unfolding of_bits
within_one x u = omega (arith, le→cross x one64 (finite_unit x u) tt u.1, nothing_less x u.0)

one_most : T (le one64 one64)
unfolding of_bits le
one_most = tt

shrunk : (x d y e p c : ℕ) → x ≤ d → y * c ≤ p * e → x * y * c + 0 * (d * e) ≤ p * (d * e) + 0 * c
shrunk x d y e p c h k = let g = simp mul_comm at (mul-le-mul h k) in simp (mul_assoc, mul_comm, mul_left_comm) (omega (arith, g))

-- x times y is at most y, and so at most p / c, rounded
part : (x y z : Float) (p c : ℕ) → InUnit x → T (finite y) → T (le zero64 y) → 0 < c → Rounds binary64 z p 0 c → plus y * c ≤ p * den y → T (le zero64 (mul binary64 x y)) × T (le (mul binary64 x y) z)
unfolding of_bits round
part x y z p c u f l C r h =
    let D = mul-pos (den_pos x) (den_pos y) in
    let m = product x y (finite_unit x u) f (nothing_less x u.0) (nothing_less y l) in (
      rounds-le binary64 zero64 (mul binary64 x y) 0 0 1 (plus x * plus y) 0 (den x * den y) (lit< tt) D (record { sign = false; size = 0; is = refl; value = refl }) m (omega arith),
      rounds-le binary64 (mul binary64 x y) z (plus x * plus y) 0 (den x * den y) p 0 c D C m r (shrunk (plus x) (den x) (plus y) (den y) p c (within_one x u) h),
    )

-- ---- the multiples of 2 ^ -53 up to 1 are floats

abbrev fine : ℕ → Float
fine n = round binary64 false n (2 ^ 53)

fine_value : (n : ℕ) → n ≤ 2 ^ 53 → HasValue (fine n) false n (2 ^ 53)
unfolding round
fine_value n h = go (cases_lt n (2 ^ 53))
  where
    go : (n < 2 ^ 53) ⊎ (2 ^ 53 ≤ n) → HasValue (fine n) false n (2 ^ 53)
    go (inl l) = round_exact binary64 false n (2 ^ 53) n 1021 (pow_pos 53) l (lt_of_lt_of_le (shl_lt 53 1021 l) (pow_mono {i = 1074} {j = 2098} (lit≤ tt))) (ap (λ (z : ℕ). n * z) (pow-add 2 1021 53) ∙ sym (mul_assoc n (2 ^ 1021) (2 ^ 53)))
    go (inr g) = let e : 2 ^ 53 ≡ n = omega arith in subst (λ (z : ℕ). HasValue (fine z) false z (2 ^ 53)) e (refl, refl)

-- n and the rest and one more: 1 + 2 ^ -53, which rounds to 1
fine_sum : (n : ℕ) → n < 2 ^ 53 → add binary64 (fine (2 ^ 53 - n)) (fine (n + 1)) ≡ one64
unfolding round of_bits
fine_sum n h =
    add-values binary64 (fine (2 ^ 53 - n)) (fine (n + 1)) (2 ^ 53 - n) (n + 1) (2 ^ 53) (2 ^ 53) (pow_pos 53) (pow_pos 53) (fine_value (2 ^ 53 - n) (omega arith)) (fine_value (n + 1) (omega arith))
    ∙ round_same binary64 false ((2 ^ 53 - n) * 2 ^ 53 + (n + 1) * 2 ^ 53) (2 ^ 53 * 2 ^ 53) (2 ^ 53 + 1) (2 ^ 53) (mul-pos (pow_pos 53) (pow_pos 53)) (pow_pos 53)
    (let e : (2 ^ 53 - n) * 2 ^ 53 + (n + 1) * 2 ^ 53 ≡ (2 ^ 53 + 1) * 2 ^ 53 = omega arith in omega (arith, e))

-- ---- the two weights of a blend

below_value : (x c : Float) (a b : ℕ) → HasValue c false a b → T (finite x) → less x ≡ 0 → T (le x c) → plus x * b ≤ a * den x
below_value x c a b v f z h =
    le_of_mul-le-mul_right (turn (plus x) (den x) (plus c) (den c) (less c) (less x) (value_plus c a b v) (value_less c a b v) z (le→cross x c f (value-finite c a b v) h)) (den_pos c)
  where
    turn : (p d P D L l : ℕ) → P * b ≡ a * D → L ≡ 0 → l ≡ 0 → p * D + L * d ≤ P * d + l * D → p * b * D ≤ a * d * D
    turn p d P D L l e m n h =
        let g : p * D ≤ P * d = let k = simp (m, n) at h in omega (arith, k) in
        let u = simp (mul_assoc, mul_comm) at (mul-le-mul_right b g) in
        let v = simp (mul_assoc, mul_comm) at (ap (λ (z : ℕ). z * d) e) in
        simp (mul_assoc, mul_comm) (omega (arith, u, v))

module _ (w : Float) (f : T (finite w)) (l : T (le zero64 w)) where
  abbrev rest : Float
  rest = sub binary64 one64 w

  abbrev steps : ℕ
  steps = plus w * 2 ^ 53 / den w

  rest_one : T (le rest one64)
  unfolding of_bits sub le
  rest_one = sub-le_both binary64 one64 w one64 zero64 tt f tt tt tt l

  -- below 1: w is less than a multiple, and the rest no more than what is left below it
  w_under : plus w * 2 ^ 53 ≤ (steps + 1) * den w
  w_under = omega (arith, lt-div-mul-add {a = plus w * 2 ^ 53} (den_pos w), add-mul steps 1 (den w))

  rest_under : steps < 2 ^ 53 → T (le rest (fine (2 ^ 53 - steps)))
  unfolding of_bits
  rest_under h =
      let k = 2 ^ 53 - steps in
      rounds-le binary64 rest (fine k) (plus one64 * den w + less w * den one64) (less one64 * den w + plus w * den one64) (den one64 * den w) k 0 (2 ^ 53)
      (mul-pos (den_pos one64) (den_pos w)) (pow_pos 53) (sub-rounds binary64 one64 w tt f) (record { sign = false; size = k; is = refl; value = omega arith })
      (room (plus w) (less w) (den w) steps k (omega arith) (nothing_less w l) (div-mul-le_self (plus w * 2 ^ 53) (den w)))
    where
      room : (p s d n k : ℕ) → n + k ≡ 2 ^ 53 → s ≡ 0 → n * d ≤ p * 2 ^ 53 → (1 * d + s * 1) * 2 ^ 53 + 0 * (1 * d) ≤ k * (1 * d) + (0 * d + p * 1) * 2 ^ 53
      room p s d n k e z h = let g = simp add-mul at (ap (λ (m : ℕ). m * d) e) in simp mul_left_comm (omega (arith, g, z, h))

  -- from 1 on
  rest_none : 2 ^ 53 ≤ steps → T (le rest zero64)
  unfolding of_bits sub le
  rest_none h =
      sub-le_both binary64 one64 w one64 one64 tt f tt tt tt
      (cross→le one64 w tt f (let g = mul-le-mul_right {m = 2 ^ 53} {n = steps} (den w) h in omega (arith, g, div-mul-le_self (plus w * 2 ^ 53) (den w), nothing_less w l)))

  module _ (least : T (le zero64 rest)) where
    finite_rest : T (finite rest)
    unfolding of_bits
    finite_rest = finite-between zero64 rest one64 tt tt least rest_one

    blended : (a b x y : Float) → T (finite x) → T (finite y) → T (le zero64 (mul binary64 a rest)) × T (le (mul binary64 a rest) x)
        → T (le zero64 (mul binary64 b w)) × T (le (mul binary64 b w) y) → T (le (add binary64 x y) one64) → InUnit (blend w a b)
    unfolding of_bits add le blend
    blended a b x y p q h k m =
        let u = mul binary64 a rest in
        let v = mul binary64 b w in
        let c = finite-between zero64 u x tt p h.0 h.1 in
        let d = finite-between zero64 v y tt q k.0 k.1 in
        (add-le_both binary64 zero64 zero64 u v tt tt c d h.0 k.0, le_trans' (add binary64 u v) (add binary64 x y) one64 (add-le_both binary64 u v x y c d p q h.1 k.1) m)

    blend_under : (a b : Float) → InUnit a → InUnit b → steps < 2 ^ 53 → InUnit (blend w a b)
    unfolding of_bits
    blend_under a b u v h =
        let k = 2 ^ 53 - steps in
        let c = fine_value k (omega arith) in
        let d = fine_value (steps + 1) (omega arith) in
        blended a b (fine k) (fine (steps + 1)) (value-finite (fine k) k (2 ^ 53) c) (value-finite (fine (steps + 1)) (steps + 1) (2 ^ 53) d)
        (part a rest (fine k) k (2 ^ 53) u finite_rest least (pow_pos 53) (record { sign = false; size = k; is = refl; value = omega arith })
        (below_value rest (fine k) k (2 ^ 53) c finite_rest (nothing_less rest least) (rest_under h)))
        (part b w (fine (steps + 1)) (steps + 1) (2 ^ 53) v f l (pow_pos 53) (record { sign = false; size = steps + 1; is = refl; value = omega arith }) w_under)
        (subst (λ (z : Float). T (le z one64)) (sym (fine_sum steps h)) one_most)

    blend_over : (a b : Float) → InUnit a → InUnit b → T (le (add binary64 rest w) one64) → 2 ^ 53 ≤ steps → InUnit (blend w a b)
    unfolding of_bits add le round
    blend_over a b u v m h =
        let z = add binary64 zero64 w in
        let e = part b w z (0 * den w + plus w * 1) (1 * den w) v f l (mul-pos (lit< tt) (den_pos w)) (subst (λ (n : ℕ). Rounds binary64 z (0 * den w + plus w * 1) n (1 * den w)) (let g : 0 * den w + less w * 1 ≡ 0 = omega (arith, nothing_less w l) in g) (add_rounds binary64 zero64 w tt f)) (omega arith) in
        let z_most = le_trans' z (add binary64 rest w) one64 (add-le_both binary64 zero64 w rest w tt f finite_rest f least (le_refl' w (number_of_finite w f))) m in
        blended a b zero64 one64 tt tt
        (part a rest zero64 0 1 u finite_rest least (lit< tt) (record { sign = false; size = 0; is = refl; value = refl })
        (below_value rest zero64 0 1 (refl, refl) finite_rest (nothing_less rest least) (rest_none h)))
        (e.0, le_trans' (mul binary64 b w) z one64 e.1 z_most) tt

pub blend_within : (w a b : Float) → InUnit w → InUnit a → InUnit b → InUnit (blend w a b)
unfolding of_bits add
blend_within w a b c u v =
    let f = finite_unit w c in
    let p = sub_nonneg binary64 one64 w tt f c.1 in
    let over : 2 ^ 53 ≤ steps w f c.0 → T (le (add binary64 (sub binary64 one64 w) w) one64)
    = λ h. add-le_both binary64 (sub binary64 one64 w) w zero64 one64 (finite_rest w f c.0 p) f tt tt (rest_none w f c.0 h) c.1 in
    elim (cases_lt (steps w f c.0) (2 ^ 53)) [ inl h ↦ blend_under w f c.0 p a b u v h | inr h ↦ blend_over w f c.0 p a b u v (over h) h ]

-- ---- what lies between two floats is its own clamp, but for a zero's sign

module _ (low high x : Float) (h : T (le low x)) (k : T (le x high)) where
  abbrev y : Float
  y = max_float x low

  least : T (le x y) × T (le y x)
  least = go (lt low x) (le_of_not_lt low x (le_left low x h) (le_right low x h))
    where
      go : (b : Bool) → (T (not b) → T (le x low)) → T (le x (cond b x low)) × T (le (cond b x low) x)
      go true f = (le_refl' x (le_right low x h), le_refl' x (le_right low x h))
      go false f = (f tt, h)

  pub clamp_same : T (le x (clamp_float low high x)) × T (le (clamp_float low high x) x)
  clamp_same = go (lt y high) (le_of_not_lt y high (le_right x y least.0) (le_right x high k))
    where
      go : (b : Bool) → (T (not b) → T (le high y)) → T (le x (cond b y high)) × T (le (cond b y high) x)
      go true f = least
      go false f = (k, le_trans' high y x (f tt) least.1)

module _ {full : Float} (s : Scale full) (z : Float) where
  -- equal numbers, scaled and truncated
  pub scaled_alike : (x : Float) → Alike z x → to_unsigned 64 (mul binary64 z full) ≡ to_unsigned 64 (mul binary64 x full)
  scaled_alike x h =
      le_antisymm (to_unsigned-le 64 (mul binary64 z full) (mul binary64 x full) (mul-le binary64 full s.above z x h.0))
      (to_unsigned-le 64 (mul binary64 x full) (mul binary64 z full) (mul-le binary64 full s.above x z h.1))

pub alike_self : (z : Float) → InUnit z → Alike z z
alike_self z u = let h = le_refl' z (number_of_finite z (finite_unit z u)) in (h, h)

-- ---- the sums of the tiles

unit_sum : (hs : List ℕ) (b : ℕ) → InUnit (sum_at hs b)
unfolding sum_at
unit_sum hs b = held_unit (div binary64 (of_count (sum_of (take (suc b) hs))) (max_float (of_count (sum_of hs)) one64))

pub units_held : (tables : List (List ℕ)) (work : List Float) → Holds tables work → (i : ℕ) → i < 16384 → InUnit (slice_index_or work i nan)
units_held tables work s i h =
    let k = i / 256 in
    let b = i % 256 in
    subst (λ (j : ℕ). InUnit (slice_index_or work j nan)) (let e : k * 256 + b ≡ i = omega arith in e)
    (subst InUnit (sym (s.at k b (omega arith) (omega arith))) (unit_sum (slice_index_or tables k []) b))

-- a row of tiles of such a work list
tiles_unit : (work : List Float) (ty : ℕ) → ((i : ℕ) → i < 16384 → InUnit (slice_index_or work i nan)) → ty < 8 → (i : ℕ) → i < 2048 → InUnit (slice_index_or (tiles_row work ty) i nan)
tiles_unit work ty u h i l = subst InUnit (sym (get_or-take 2048 (drop (ty * 2048) work) i nan l ∙ get_or-drop (ty * 2048) work i nan)) (u (ty * 2048 + i) (omega arith))

pub row_units : (row : Row) (work : List Float) (y : TilePosition) → (row.top.now ≡ tiles_row work y.first) × (row.bottom.now ≡ tiles_row work y.second) × (row.weight ≡ y.weight) → Among y
    → ((i : ℕ) → i < 16384 → InUnit (slice_index_or work i nan)) → Units row
row_units row work y e p u i l = (
  subst (λ (t : List Float). InUnit (slice_index_or t i nan)) (sym e.0) (tiles_unit work y.first u p.0 i l),
  subst (λ (t : List Float). InUnit (slice_index_or t i nan)) (sym e.1) (tiles_unit work y.second u p.1 i l),
)

-- ---- the level

pub level_alike : (u z : Float) → Alike z (clamp_float zero64 one64 u) → (round_as_u64 (mul binary64 z last64) ≡ level_of u) × (round_as_u64 (mul binary64 z last64) < 256)
unfolding of_bits
level_alike u z k =
    let c = clamp_float zero64 one64 u in
    level_of_lem u (round_as_u64 (mul binary64 z last64))
    (le_antisymm (round_as_u64-le (mul binary64 z last64) (mul binary64 c last64) (mul-le binary64 last64 tt z c k.0))
    (round_as_u64-le (mul binary64 c last64) (mul binary64 z last64) (mul-le binary64 last64 tt c z k.1)))

-- ---- a value normalised by a window whose range covers it

none_over : (y : Float) → T (le (div binary64 nan y) one64) → ⊥
unfolding div le
none_over y h = h

top_over : (y : Float) → T (lt zero64 y) → T (le (div binary64 (inf false) y) one64) → ⊥
unfolding of_bits div le lt
top_over nan p h = h
top_over (inf t) p h = h
top_over (fin true n d) p h = p
top_over (fin false n d) p h = h

-- both ends are finite
ends : (low high range : Float) → Plain low high range → T (finite low) × T (finite high)
unfolding sub add neg le
ends nan high range p = absurd p.0
ends low nan range p = absurd (le_right low nan p.0)
ends (inf true) (inf true) range p = absurd (none_over range p.2)
ends (inf true) (inf false) range p = absurd (top_over range p.1 p.2)
ends (inf true) (fin t n d) range p = absurd (top_over range p.1 p.2)
ends (inf false) (inf true) range p = absurd p.0
ends (inf false) (inf false) range p = absurd (none_over range p.2)
ends (inf false) (fin t n d) range p = absurd p.0
ends (fin s m e) (inf true) range p = absurd p.0
ends (fin s m e) (inf false) range p = absurd (top_over range p.1 p.2)
ends (fin s m e) (fin t n d) range p = (tt, tt)

above_zero : (n : ℕ) (d : ℤ) → T (lt zero64 (fin false n d)) → T (ltb 0 n)
unfolding of_bits lt
above_zero zero d h = absurd (omega (arith, ltb→lt (0 * down d) (0 * up d * 1) h))
above_zero (suc n) d h = lt→ltb 0 (suc n) (omega arith)

-- a quotient from 0 to 1, as long as a greater one is at most 1
quotient : (x y range : Float) → T (lt zero64 range) → T (le zero64 x) → T (le x y) → T (le (div binary64 y range) one64) → InUnit (div binary64 x range)
unfolding of_bits div lt le
quotient x y nan p l h k = absurd p
quotient x y (inf true) p l h k = absurd p
quotient nan y (inf false) p l h k = absurd l
quotient (inf true) y (inf false) p l h k = absurd l
quotient (inf false) y (inf false) p l h k = absurd (subst (λ (z : Float). T (le (div binary64 z (inf false)) one64)) (only_top y h) k)
quotient (fin true m e) y (inf false) p l h k = (tt, tt)
quotient (fin false m e) y (inf false) p l h k = (tt, tt)
quotient x y (fin true n d) p l h k = absurd p
quotient x y (fin false n d) p l h k =
    let r = fin false n d in
    let q = above_zero n d p in
    let z : T (le zero64 (div binary64 zero64 r))
    = rounds-le binary64 zero64 (div binary64 zero64 r) 0 0 1 (0 * den r) (0 * den r) (num r * 1) (lit< tt) (mul-pos (num_pos r q) (lit< tt))
    (record { sign = false; size = 0; is = refl; value = refl }) (div-rounds binary64 zero64 r tt q) (omega arith) in
    (le_trans' zero64 (div binary64 zero64 r) (div binary64 x r) z (div-le binary64 r q zero64 x l), le_trans' (div binary64 x r) (div binary64 y r) one64 (div-le binary64 r q x y h) k)

pub normalized_within : (low high range v : Float) → Plain low high range → InUnit (normalized low high range v)
unfolding of_bits normalized
normalized_within low high range v p =
    let x = clamp_float low high v in
    let f = ends low high range p in
    let l = clamped_lo v low high p.0 in
    let h = clamped_hi v low high (number_of_finite high f.1) in
    quotient (sub binary64 x low) (sub binary64 high low) range p.1 (sub_nonneg binary64 x low (finite-between low x high f.0 f.1 l h) f.0 l) (sub-le binary64 low f.0 x high h) p.2
