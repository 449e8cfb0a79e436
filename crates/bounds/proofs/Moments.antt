-- Pass one on dB from -1000 to 1000: the mean moves towards the new value and does not pass it, so it stays within 1000, no product is below zero, and m2 grows by
-- at most 4,000,000 a value. Assumes nothing.
use mathlib.Core.Path.{◌≡◌, refl, sym, ap, ◌∙◌, subst}
use mathlib.Core.Logic.{◌⊎◌, inl, inr, ⊎_elim}
use mathlib.Core.Bool.{Bool, true, false, not, cond, ◌||◌}
use mathlib.Core.List.{List, [], ◌∷◌}
use Prim.Native.Nat.{ℕ, zero, suc, ◌+◌, ◌-◌, ◌*◌, ◌^◌, ◌≤◌, ◌<◌}
use native.Mathlib.Nat.{le_trans, le_of_eq, lt_of_le_of_lt, mul_assoc, mul_comm, mul-zero, zero-mul, mul-le-mul_left, mul-le-mul_right, mul-pos, le_of_mul-le-mul_right}
use native.Mathlib.Omega.{arith}
use lib.IntN.{pos}
use lib.Dec.{T, eqb, lit<}
use lib.ListN.{length}
use lib.Ieee.{Float, nan, inf, fin, binary64, up, down, round, add, sub, mul, div, neg, le, lt, fits, of_bits, of_int}
use lib.Ieee.Fits.{add-fits, sub-fits, mul-fits, div-fits, cond-fits, down_pos, of_int-fits}
use lib.Ieee.Order.{le_of_values}
use lib.Ieee.Positive.{den, den_pos}
use lib.Ieee.Scale.{finite}
use Rattle.types.specs.declared.Moments.{Moments}
use Rattle.spec.specs.Floats.{zero64, of_count}
use Rattle.spec.specs.Moments.{no_moments, with_value, moments_from}
use Rattle.numeric.proofs.Order.{plus, less, number_of_finite, le→cross, le_total, le_refl, le_of_not_lt}
use Rattle.numeric.proofs.Round.{rounds-le}
use Rattle.numeric.proofs.Ops.{sub_nonneg, sub_nonpos}
use Rattle.numeric.proofs.Picks.{either}
use Rattle.numeric.proofs.Facts.{thousand, minus_thousand}
use Rattle.numeric.proofs.Values.{count-value, value-finite, nothing_less}
use Rattle.numeric.proofs.Within.{Within, within_lit, neg-within, le-within, within-le, within_ge, add-within, sub_within, mul-within, div-one-within, whole_within}
use Rattle.bounds.proofs.Units.{grains, grains_few, own_rounds, Units, units, neg_units, le_units, add-under, add-over, sub-under, sub-over, div-under, div-over, half_of, zero_units, zero_more, zero_fewer}

-- ---- bounds in units

within_units : (n : ℕ) (x : Float) → Within n x → (u : Units x) → (u.more ≤ n * grains) × (u.fewer ≤ n * grains)
within_units n x w u = (part (plus x) u.more w.above u.more_is, part (less x) u.fewer w.under u.fewer_is)
  where
    part : (p P : ℕ) → p ≤ n * den x → p * grains ≡ P * den x → P ≤ n * grains
    part p P h e =
        le_of_mul-le-mul_right
        (le_trans (le_of_eq (sym e)) (le_trans (mul-le-mul_right grains h) (le_of_eq (mul_assoc n (den x) grains ∙ ap (λ (z : ℕ). n * z) (mul_comm (den x) grains) ∙ sym (mul_assoc n grains (den x))))))
        (den_pos x)

few_units : (a b c : ℕ) → a ≤ 1000 * grains → b ≤ 1000 * grains → c ≤ a + b → c < 2 ^ 2000
few_units a b c h k l = lt_of_le_of_lt (let g : c ≤ 2000 * grains = omega arith in g) grains_few

-- ---- the step of the mean

module _ (mean v : Float) (n : ℕ) where
  abbrev delta : Float
  delta = sub binary64 v mean

  abbrev part : Float
  part = div binary64 delta (of_count n)

  abbrev next : Float
  next = add binary64 mean part

one-le : (n : ℕ) → 0 < n → n ≤ 2 ^ 53 → T (le (fin false 1 (pos 0)) (of_count n))
one-le n h l = le_of_values (fin false 1 (pos 0)) (of_count n) 1 1 n 1 (lit< tt) (lit< tt) (refl, refl) (count-value n l) (omega arith)

module _ (mean v : Float) (n : ℕ) (h : 0 < n) (l : n ≤ 2 ^ 53) (wm : Within 1000 mean) (wv : Within 1000 v) where
  delta_within : Within 2000 (delta mean v n)
  delta_within = sub_within binary64 1000 1000 (lit< tt) v mean wv wm

  part_within : Within 2000 (part mean v n)
  part_within = div-one-within binary64 2000 (lit< tt) (delta mean v n) (of_count n) delta_within (value-finite (of_count n) n 1 (count-value n l)) (one-le n h l)

  abbrev D : Units (delta mean v n)
  D = units (delta mean v n) delta_within.is_finite (sub-fits binary64 v mean)

  abbrev X : Units (part mean v n)
  X = units (part mean v n) part_within.is_finite (div-fits binary64 (delta mean v n) (of_count n))

  module _ (U : Float) (M : Units mean) (N : Units v) (W : Units U) (wu : Within 1000 U) where
    gap : (c : ℕ) → (c ≤ M.more + W.fewer) ⊎ (c ≤ W.more + M.fewer) → c < 2 ^ 2000
    gap c k =
        let a = within_units 1000 mean wm M in
        let b = within_units 1000 U wu W in
        ⊎_elim (few_units M.more W.fewer c a.0 b.1) (few_units W.more M.fewer c b.0 a.1) k

    module _ (two : 2 ≤ n) where
      -- what is above both stays above
      mean-under : T (le mean U) → T (le v U) → T (le (next mean v n) U)
      mean-under p q =
          let a = le_units mean U M W p in
          let b = le_units v U N W q in
          let z = half_of (W.more + M.fewer - (M.more + W.fewer)) (gap _ (inr (omega arith))) in
          let d = z.doubled in
          let t = le_units (delta mean v n) d.twice D d.twice_units
          (sub-under v mean d.twice N M d.twice_units (omega (arith, d.twice_more, d.twice_fewer, z.high, a, b))) in
          let e = mul-le-mul_left z.half two in
          let f = ap (λ (i : ℕ). i * n) d.once_more in
          let g = ap (λ (i : ℕ). i * n) d.once_fewer ∙ zero-mul n in
          let x = le_units (part mean v n) d.once X d.once_units
          (div-under n l h (delta mean v n) d.once D d.once_units (omega (arith, t, d.twice_more, d.twice_fewer, e, f, g))) in
          add-under mean (part mean v n) U M X W (omega (arith, x, d.once_more, d.once_fewer, z.low, a))

      -- what is below both stays below
      mean-over : T (le U mean) → T (le U v) → T (le U (next mean v n))
      unfolding neg_units
      mean-over p q =
          let a = le_units U mean W M p in
          let b = le_units U v W N q in
          let z = half_of (M.more + W.fewer - (W.more + M.fewer)) (gap _ (inl (omega arith))) in
          let d = z.doubled in
          let t = le_units (neg d.twice) (delta mean v n) (neg_units d.twice d.twice_units) D
          (sub-over v mean (neg d.twice) N M (neg_units d.twice d.twice_units) (omega (arith, d.twice_more, d.twice_fewer, z.high, a, b))) in
          let e = mul-le-mul_left z.half two in
          let f = ap (λ (i : ℕ). i * n) d.once_more in
          let g = ap (λ (i : ℕ). i * n) d.once_fewer ∙ zero-mul n in
          let x = le_units (neg d.once) (part mean v n) (neg_units d.once d.once_units) X
          (div-over n l h (delta mean v n) (neg d.once) D (neg_units d.once d.once_units) (omega (arith, t, d.twice_more, d.twice_fewer, e, f, g))) in
          add-over mean (part mean v n) U M X W (omega (arith, x, d.once_more, d.once_fewer, z.low, a))

-- ---- the first value, from a mean of 0

module _ (v : Float) (wv : Within 1000 v) (N : Units v) where
  zero-within : Within 1000 zero64
  unfolding of_bits
  zero-within = within_lit 1000 zero64 tt

  abbrev D1 : Units (delta zero64 v 1)
  D1 = D zero64 v 1 (lit< tt) (lit< tt) zero-within wv

  abbrev X1 : Units (part zero64 v 1)
  X1 = X zero64 v 1 (lit< tt) (lit< tt) zero-within wv

  module _ (U : Float) (W : Units U) where
    first_under : T (le v U) → T (le (next zero64 v 1) U)
    first_under q =
        let b = le_units v U N W q in
        let t = le_units (delta zero64 v 1) U D1 W (sub-under v zero64 U N zero_units W (omega (arith, b, zero_more, zero_fewer))) in
        let x = le_units (part zero64 v 1) U X1 W (div-under 1 (lit< tt) (lit< tt) (delta zero64 v 1) U D1 W (omega (arith, t))) in
        add-under zero64 (part zero64 v 1) U zero_units X1 W (omega (arith, x, zero_more, zero_fewer))

    first-over : T (le U v) → T (le U (next zero64 v 1))
    first-over q =
        let b = le_units U v W N q in
        let t = le_units U (delta zero64 v 1) W D1 (sub-over v zero64 U N zero_units W (omega (arith, b, zero_more, zero_fewer))) in
        let x = le_units U (part zero64 v 1) W X1 (div-over 1 (lit< tt) (lit< tt) (delta zero64 v 1) U D1 W (omega (arith, t))) in
        add-over zero64 (part zero64 v 1) U zero_units X1 W (omega (arith, x, zero_more, zero_fewer))

-- ---- products

round-over : (s : Bool) (a c : ℕ) → 0 < c → (s ≡ true → a ≡ 0) → T (le zero64 (round binary64 s a c))
unfolding of_bits fits
round-over s a c C z =
    rounds-le binary64 (fin false 0 (pos 0)) (round binary64 s a c) 0 0 1 (cond s 0 a) (cond s a 0) c (lit< tt) C
    (own_rounds (fin false 0 (pos 0)) tt tt)
    (record { sign = s; size = a; is = refl; value = sides s })
    (flat s z)
  where
    sides : (s : Bool) → cond s 0 a + cond s a 0 ≡ cond s a 0 + cond s 0 a
    sides true = omega arith
    sides false = omega arith

    flat : (s : Bool) → (s ≡ true → a ≡ 0) → 0 * c + cond s a 0 * 1 ≤ cond s 0 a * 1 + 0 * c
    flat true z = omega (arith, z refl)
    flat false z = omega arith

-- a product of two values on the same side of zero is not below it
pub product_over : (x y : Float) → T (finite x) → T (finite y) → ((less x ≡ 0) × (less y ≡ 0)) ⊎ ((plus x ≡ 0) × (plus y ≡ 0)) → T (le zero64 (mul binary64 x y))
unfolding mul
product_over nan y p q k = absurd p
product_over (inf s) y p q k = absurd p
product_over (fin s m e) nan p q k = absurd q
product_over (fin s m e) (inf t) p q k = absurd q
product_over (fin false m e) (fin false n d) p q k = round-over false (m * up e * (n * up d)) (down e * down d) (mul-pos (down_pos e) (down_pos d)) (λ z. absurd (let w : ◌≡◌ {A = ℕ} 0 1 = cc in omega arith))
product_over (fin true m e) (fin true n d) p q k = round-over false (m * up e * (n * up d)) (down e * down d) (mul-pos (down_pos e) (down_pos d)) (λ z. absurd (let w : ◌≡◌ {A = ℕ} 0 1 = cc in omega arith))
product_over (fin true m e) (fin false n d) p q k =
    round-over true (m * up e * (n * up d)) (down e * down d) (mul-pos (down_pos e) (down_pos d))
    (λ z. ⊎_elim (λ w. ap (λ (i : ℕ). i * (n * up d)) w.0 ∙ zero-mul (n * up d)) (λ w. ap (λ (i : ℕ). m * up e * i) w.1 ∙ mul-zero (m * up e)) k)
product_over (fin false m e) (fin true n d) p q k =
    round-over true (m * up e * (n * up d)) (down e * down d) (mul-pos (down_pos e) (down_pos d))
    (λ z. ⊎_elim (λ w. ap (λ (i : ℕ). m * up e * i) w.1 ∙ mul-zero (m * up e)) (λ w. ap (λ (i : ℕ). i * (n * up d)) w.0 ∙ zero-mul (n * up d)) k)

nothing_more : (x : Float) → T (finite x) → T (le x (fin false 0 (pos 0))) → plus x ≡ 0
nothing_more nan p h = absurd p
nothing_more (inf s) p h = absurd p
nothing_more (fin true m e) p h = refl
nothing_more (fin false m e) p h = let k = le→cross (fin false m e) (fin false 0 (pos 0)) tt tt h in omega (arith, k)

-- ---- one value

pub record Decibel (v : Float) : Type 0 where
  pub fit : T (fits binary64 v)
  pub low : T (le minus_thousand v)
  pub high : T (le v thousand)

thousand_is : thousand ≡ of_count 1000
unfolding of_bits of_int round
thousand_is = refl

decibel_within : (v : Float) → Decibel v → Within 1000 v
decibel_within v d =
    le-within binary64 1000 (lit< tt) v (subst (λ (z : Float). T (le (neg z) v)) thousand_is d.low) (subst (λ (z : Float). T (le v z)) thousand_is d.high)

-- ---- the moments of such values

pub record Sound (s : Moments) : Type 0 where
  pub least_fit : T (fits binary64 s.min_db)
  pub least-within : Within 1000 s.min_db
  pub greatest-within : Within 1000 s.max_db
  pub mean_fit : T (fits binary64 s.mean)
  pub mean-within : Within 1000 s.mean
  pub m2_fit : T (fits binary64 s.m2)
  pub m2_within : Within (4000000 * s.count) s.m2
  pub m2_over : T (le zero64 s.m2)
  pub ordered : T (le s.min_db s.max_db)
  pub start : s.count ≡ 0 → s.mean ≡ zero64

sound_none : Sound no_moments
unfolding no_moments of_bits fits le
sound_none =
    record {
      least_fit = tt;
      least-within = within_lit 1000 zero64 tt;
      greatest-within = within_lit 1000 zero64 tt;
      mean_fit = tt;
      mean-within = within_lit 1000 zero64 tt;
      m2_fit = tt;
      m2_within = within_lit 0 zero64 tt;
      m2_over = tt;
      ordered = tt;
      start = λ e. refl;
    }

-- where the mean lands: within 1000, and not past the new value
record Landed (mean v : Float) (n : ℕ) : Type 0 where
  within : Within 1000 (next mean v n)
  under : T (le mean v) → T (le (next mean v n) v)
  over : T (le v mean) → T (le v (next mean v n))

module _ (mean v : Float) (n : ℕ) (few : n ≤ 16777216) (fm : T (fits binary64 mean)) (wm : Within 1000 mean) (d : Decibel v) where
  abbrev wv : Within 1000 v
  wv = decibel_within v d

  abbrev N : Units v
  N = units v wv.is_finite d.fit

  abbrev M : Units mean
  M = units mean wm.is_finite fm

  top_within : Within 1000 (of_count 1000)
  top_within = whole_within binary64 1000 (lit< tt)

  top : Units (of_count 1000)
  top = units (of_count 1000) top_within.is_finite (of_int-fits binary64 (pos 1000))

  landed_later : 2 ≤ n → Landed mean v n
  landed_later two =
      let h : 0 < n = omega arith in
      let l : n ≤ 2 ^ 53 = omega arith in
      record {
        within = le-within binary64 1000 (lit< tt) (next mean v n)
            (mean-over mean v n h l wm wv (neg (of_count 1000)) M N (neg_units (of_count 1000) top) (neg-within (of_count 1000) top_within) two (within_ge binary64 1000 (lit< tt) mean wm) (within_ge binary64 1000 (lit< tt) v wv))
            (mean-under mean v n h l wm wv (of_count 1000) M N top top_within two (within-le binary64 1000 (lit< tt) mean wm) (within-le binary64 1000 (lit< tt) v wv));
        under = λ p. mean-under mean v n h l wm wv v M N N wv two p (le_refl v (number_of_finite v wv.is_finite));
        over = λ p. mean-over mean v n h l wm wv v M N N wv two p (le_refl v (number_of_finite v wv.is_finite));
      }

  landed_first : Landed zero64 v 1
  landed_first =
      let r = le_refl v (number_of_finite v wv.is_finite) in
      record {
        within = le-within binary64 1000 (lit< tt) (next zero64 v 1)
            (first-over v wv N (neg (of_count 1000)) (neg_units (of_count 1000) top) (within_ge binary64 1000 (lit< tt) v wv))
            (first_under v wv N (of_count 1000) top (within-le binary64 1000 (lit< tt) v wv));
        under = λ p. first_under v wv N v N r;
        over = λ p. first-over v wv N v N r;
      }

  landed : 0 < n → (n ≡ 1 → mean ≡ zero64) → Landed mean v n
  landed h first = go n refl
    where
      go : (k : ℕ) → k ≡ n → Landed mean v n
      go zero e = absurd (omega arith)
      go (suc zero) e = subst (λ (k : ℕ). Landed mean v k) e (subst (λ (z : Float). Landed z v 1) (sym (first (sym e))) landed_first)
      go (suc (suc k)) e = landed_later (omega arith)

module _ (s : Moments) (v : Float) (few : s.count + 1 ≤ 16777216) (o : Sound s) (d : Decibel v) where
  abbrev n : ℕ
  n = s.count + 1

  abbrev mean' : Float
  mean' = next s.mean v n

  abbrev product : Float
  product = mul binary64 (delta s.mean v n) (sub binary64 v mean')

  v_within : Within 1000 v
  v_within = decibel_within v d

  land : Landed s.mean v n
  land = landed s.mean v n few o.mean_fit o.mean-within d (omega arith) (λ e. o.start (omega (arith, e)))

  product_within : Within 4000000 product
  product_within =
      mul-within binary64 2000 2000 (lit< tt) (delta s.mean v n) (sub binary64 v mean')
      (sub_within binary64 1000 1000 (lit< tt) v s.mean v_within o.mean-within) (sub_within binary64 1000 1000 (lit< tt) v mean' v_within land.within)

  product_nonneg : T (le zero64 product)
  product_nonneg =
      let fv = v_within.is_finite in
      let fm = o.mean-within.is_finite in
      let fn = land.within.is_finite in
      let fd = (sub_within binary64 1000 1000 (lit< tt) v s.mean v_within o.mean-within).is_finite in
      let fe = (sub_within binary64 1000 1000 (lit< tt) v mean' v_within land.within).is_finite in
      product_over (delta s.mean v n) (sub binary64 v mean') fd fe
      (⊎_elim
      (λ (p : T (le s.mean v)). inl (nothing_less (delta s.mean v n) (sub_nonneg binary64 v s.mean fv fm p), nothing_less (sub binary64 v mean') (sub_nonneg binary64 v mean' fv fn (land.under p))))
      (λ (p : T (le v s.mean)). inr (nothing_more (delta s.mean v n) fd (sub_nonpos binary64 v s.mean fv fm p), nothing_more (sub binary64 v mean') fe (sub_nonpos binary64 v mean' fv fn (land.over p))))
      (le_total s.mean v (number_of_finite s.mean fm) (number_of_finite v fv)))

  m2'_within : Within (4000000 * n) (add binary64 s.m2 product)
  m2'_within =
      subst (λ (k : ℕ). Within k (add binary64 s.m2 product)) (let g : 4000000 * s.count + 4000000 ≡ 4000000 * n = omega arith in g)
      (add-within binary64 (4000000 * s.count) 4000000 (let g : 4000000 * s.count + 4000000 ≤ 9007199254740992 = omega arith in g) s.m2 product o.m2_within product_within)

  m2'_over : T (le zero64 (add binary64 s.m2 product))
  m2'_over =
      let a = units s.m2 o.m2_within.is_finite o.m2_fit in
      let b = units product product_within.is_finite (mul-fits binary64 (delta s.mean v n) (sub binary64 v mean')) in
      add-over s.m2 product zero64 a b zero_units
      (omega (arith, zero_more, zero_fewer, le_units zero64 s.m2 zero_units a o.m2_over, le_units zero64 product zero_units b product_nonneg))

  ends : T (le (cond (eqb s.count 0 || lt v s.min_db) v s.min_db) (cond (eqb s.count 0 || lt s.max_db v) v s.max_db))
  ends =
      let nv = number_of_finite v v_within.is_finite in
      let na = number_of_finite s.min_db o.least-within.is_finite in
      let nb = number_of_finite s.max_db o.greatest-within.is_finite in
      go (eqb s.count 0) (lt v s.min_db) (lt s.max_db v) (le_of_not_lt v s.min_db nv na) (le_of_not_lt s.max_db v nb nv) (le_refl v nv)
    where
      go : (f a b : Bool) → (T (not a) → T (le s.min_db v)) → (T (not b) → T (le v s.max_db)) → T (le v v) →
          T (le (cond (f || a) v s.min_db) (cond (f || b) v s.max_db))
      go true a b h k r = r
      go false true true h k r = r
      go false true false h k r = k tt
      go false false true h k r = h tt
      go false false false h k r = o.ordered

  sound_step : Sound (with_value s v)
  unfolding with_value
  sound_step =
      let first = eqb s.count 0 in
      record {
        least_fit = cond-fits binary64 (first || lt v s.min_db) v s.min_db d.fit o.least_fit;
        least-within = either (Within 1000) (first || lt v s.min_db) v s.min_db v_within o.least-within;
        greatest-within = either (Within 1000) (first || lt s.max_db v) v s.max_db v_within o.greatest-within;
        mean_fit = add-fits binary64 s.mean (part s.mean v n);
        mean-within = land.within;
        m2_fit = add-fits binary64 s.m2 product;
        m2_within = m2'_within;
        m2_over = m2'_over;
        ordered = ends;
        start = λ e. absurd (omega (arith, e));
      }

-- what holds of each value
abbrev pub Each : (Float → Type 0) → List Float → Type 0
Each P [] = Unit
Each P (v ∷ vs) = P v × Each P vs

with_count : (s : Moments) (v : Float) → (with_value s v).count ≡ s.count + 1
unfolding with_value
with_count s v = refl

no_count : no_moments.count ≡ 0
unfolding no_moments
no_count = refl

sound_more : (s : Moments) (vs : List Float) → s.count + length vs ≤ 16777216 → Sound s → Each Decibel vs → Sound (moments_from s vs)
unfolding moments_from
sound_more s [] l o e = o
sound_more s (v ∷ vs) l o e = sound_more (with_value s v) vs (counted s v vs l) (sound_step s v (omega arith) o e.0) e.1
  where
    counted : (s : Moments) (v : Float) (vs : List Float) → s.count + length (v ∷ vs) ≤ 16777216 → (with_value s v).count + length vs ≤ 16777216
    counted s v vs l = omega (arith, with_count s v)

pub sound_moments : (vs : List Float) → length vs ≤ 16777216 → Each Decibel vs → Sound (moments_from no_moments vs)
sound_moments vs l e = sound_more no_moments vs (omega (arith, no_count)) sound_none e
