-- x is finite and at most n in size, for a whole n: closed under the operations, as long as the format holds every whole number up to the bound. Assumes nothing.
-- With it everything from |dB| ≤ 1000 on is shown finite in a few lines: `add-within`, `sub_within`, `mul-within`, `div-within`, then `.is_finite`.
use Rattle.std.proofs.Common.{◌≡◌, ℕ, zero, suc, ◌+◌, ◌*◌, ◌^◌, ◌<◌, ◌≤◌, Bool, true, false, cond, ◌&&◌, T, leb, ℤ, pos, sym, refl, ap, ◌∙◌, subst, suc-le-suc, zero-le, le_trans, le_of_eq, mul-le-mul_right, mul_assoc, mul_comm, add-mul, mul-le-mul, add_comm, mul-pos, one-mul, zero-mul, mul-one, le_of_mul-le-mul_right, mul_left_comm, arith, lit<, lt→ltb, leb→le}
use native.Mathlib.Nat.{mul-mul-mul_comm}
use lib.Ieee.{Float, nan, inf, fin, Format, binary64, prec, unlike, up, down, round, neg, add, sub, mul, div, lt, le, of_int}
use lib.Ieee.Back.{round_whole}
use lib.Ieee.Exact.{HasValue}
use lib.Ieee.Fits.{and_l, and_r, down_pos}
use lib.Ieee.Order.{le_of_values}
use lib.Ieee.Positive.{num, den, den_pos, positive}
use lib.Ieee.Scale.{finite}
use Rattle.spec.specs.Floats.{of_count, max_float, min_float}
use Rattle.numeric.proofs.Order.{plus, less, le→cross, cross→le, finite-between, le_trans as le_trans'}
use Rattle.numeric.proofs.Round.{Rounds, rounds-le, round-neg, neg_anti, neg-neg}
use Rattle.numeric.proofs.Ops.{add_rounds, div-rounds, neg-finite, num_pos}
use Rattle.numeric.proofs.Picks.{either}
use Rattle.numeric.proofs.Values.{value-finite, value_plus, value_less, value-below, nothing_less}

pub record Within (n : ℕ) (x : Float) : Type 0 where
  pub is_finite : T (finite x)
  pub above : plus x ≤ n * den x
  pub under : less x ≤ n * den x

-- a constant by computation: `within_lit n x tt` under `unfolding of_bits`
abbrev pub withinb : ℕ → Float → Bool
withinb n x = finite x && leb (plus x) (n * den x) && leb (less x) (n * den x)

pub within_lit : (n : ℕ) (x : Float) → T (withinb n x) → Within n x
within_lit n x t =
    let A = finite x in
    let B = leb (plus x) (n * den x) in
    let C = leb (less x) (n * den x) in
    record { is_finite = and_l A B (and_l (A && B) C t); above = leb→le (plus x) (n * den x) (and_r A B (and_l (A && B) C t)); under = leb→le (less x) (n * den x) (and_r (A && B) C t) }

pub within_weaken : {m n : ℕ} (x : Float) → m ≤ n → Within m x → Within n x
within_weaken x h w = record { is_finite = w.is_finite; above = le_trans w.above (mul-le-mul_right (den x) h); under = le_trans w.under (mul-le-mul_right (den x) h) }

-- ---- signs
pub neg-within : {n : ℕ} (x : Float) → Within n x → Within n (neg x)
unfolding neg
neg-within nan w = w
neg-within (inf s) w = absurd w.is_finite
neg-within (fin true m e) w = record { is_finite = tt; above = w.under; under = w.above }
neg-within (fin false m e) w = record { is_finite = tt; above = w.under; under = w.above }

turned : (n : ℕ) (x : Float) → plus (neg x) ≤ n * den (neg x) → less x ≤ n * den x
unfolding neg
turned n nan h = h
turned n (inf s) h = h
turned n (fin true m e) h = h
turned n (fin false m e) h = h

-- ---- between -n and n, n as a float of the format
module _ (f : Format) (n : ℕ) (b : n ≤ 2 ^ prec f) where
  whole_value : HasValue (of_int f (pos n)) false n 1
  unfolding of_int
  whole_value = round_whole f false n b

  pub within-le : (x : Float) → Within n x → T (le x (of_int f (pos n)))
  within-le x w =
      let N = of_int f (pos n) in
      cross→le x N w.is_finite (value-finite N n 1 whole_value)
      (subst (λ (z : ℕ). plus x * den N + z * den x ≤ plus N * den x + less x * den N) (sym (value_less N n 1 whole_value))
      (grow (plus x) (less x) (den x) (plus N) (den N) (value_plus N n 1 whole_value) w.above))
    where
      grow : (p l d P D : ℕ) → P * 1 ≡ n * D → p ≤ n * d → p * D + 0 * d ≤ P * d + l * D
      grow p l d P D e h =
          let a = simp (mul_assoc, mul_comm, mul_left_comm) at (mul-le-mul_right D h) in
          let c = simp (mul_assoc, mul_comm, mul_left_comm) at (ap (λ (z : ℕ). z * d) (sym (mul-one P) ∙ e)) in
          simp (mul_assoc, mul_comm, mul_left_comm) (omega (arith, a, c))

  pub within_ge : (x : Float) → Within n x → T (le (neg (of_int f (pos n))) x)
  within_ge x w = subst (λ (z : Float). T (le (neg (of_int f (pos n))) z)) (neg-neg x) (neg_anti (neg x) (of_int f (pos n)) (within-le (neg x) (neg-within x w)))

  -- half of it
  above_of : (x : Float) → T (finite x) → T (le x (of_int f (pos n))) → plus x ≤ n * den x
  above_of nan p h = absurd p
  above_of (inf s) p h = absurd p
  above_of (fin true m e) p h = omega arith
  above_of (fin false m e) p h =
      let N = of_int f (pos n) in
      let k = le→cross (fin false m e) N tt (value-finite N n 1 whole_value) h in
      le_of_mul-le-mul_right (shrink (m * up e) (down e) (plus N) (den N) (less N) (value_plus N n 1 whole_value) (value_less N n 1 whole_value) k) (den_pos N)
    where
      shrink : (p d P D L : ℕ) → P * 1 ≡ n * D → L ≡ 0 → p * D + L * d ≤ P * d + 0 * D → p * D ≤ n * d * D
      shrink p d P D L e l h =
          let c = simp (mul_assoc, mul_comm, mul_left_comm) at (ap (λ (z : ℕ). z * d) (sym (mul-one P) ∙ e)) in
          let g = simp l at h in
          simp (mul_assoc, mul_comm, mul_left_comm) (omega (arith, simp (mul_assoc, mul_comm, mul_left_comm) at g, c))

  pub le-within : (x : Float) → T (le (neg (of_int f (pos n))) x) → T (le x (of_int f (pos n))) → Within n x
  le-within x h k =
      let N = of_int f (pos n) in
      let F = value-finite N n 1 whole_value in
      let p = finite-between (neg N) x N (neg-finite N F) F h k in
      record { is_finite = p; above = above_of x p k; under = turned n x (above_of (neg x) (neg-finite x p) (subst (λ (z : Float). T (le (neg x) z)) (neg-neg N) (neg_anti (neg N) x h))) }

  -- a fraction within, rounded
  pub rounds-within : (z : Float) (p m c : ℕ) → 0 < c → Rounds f z p m c → p ≤ n * c + m → m ≤ n * c + p → Within n z
  unfolding of_int
  rounds-within z p m c C r h k =
      le-within z
      (rounds-le f (neg (of_int f (pos n))) z 0 n 1 p m c (lit< tt) C (record { sign = true; size = n; is = sym (round-neg f n 1); value = omega arith }) r (omega arith))
      (rounds-le f z (of_int f (pos n)) p m c n 0 1 C (lit< tt) r (record { sign = false; size = n; is = refl; value = omega arith }) (omega arith))

-- ---- sums, differences, products
more : (p N m : ℕ) → p ≤ N → p ≤ N + m
more p N m h = omega arith

wide : (p d a p' d' b : ℕ) → p ≤ a * d → p' ≤ b * d' → p * d' + p' * d ≤ (a + b) * (d * d')
wide p d a p' d' b h k =
    let u = simp (mul_assoc, mul_comm, mul_left_comm) at (mul-le-mul_right d' h) in
    let v = simp (mul_assoc, mul_comm, mul_left_comm) at (mul-le-mul_right d k) in
    simp (add-mul, mul_assoc, mul_comm, mul_left_comm) (omega (arith, u, v))

pub add-within : (f : Format) (a b : ℕ) → a + b ≤ 2 ^ prec f → (x y : Float) → Within a x → Within b y → Within (a + b) (add f x y)
add-within f a b l x y v w =
    rounds-within f (a + b) l (add f x y) (plus x * den y + plus y * den x) (less x * den y + less y * den x) (den x * den y) (mul-pos (den_pos x) (den_pos y))
    (add_rounds f x y v.is_finite w.is_finite)
    (more _ _ _ (wide (plus x) (den x) a (plus y) (den y) b v.above w.above)) (more _ _ _ (wide (less x) (den x) a (less y) (den y) b v.under w.under))

pub sub_within : (f : Format) (a b : ℕ) → a + b ≤ 2 ^ prec f → (x y : Float) → Within a x → Within b y → Within (a + b) (sub f x y)
unfolding sub
sub_within f a b l x y v w = add-within f a b l x (neg y) v (neg-within y w)

-- a value's size, with either sign
sized : {n : ℕ} (s : Bool) (m : ℕ) (e : ℤ) → Within n (fin s m e) → m * up e ≤ n * down e
sized true m e w = w.under
sized false m e w = w.above

product : (f : Format) (a b : ℕ) → a * b ≤ 2 ^ prec f → (s : Bool) (A B C D : ℕ) → 0 < C → 0 < D → A ≤ a * C → B ≤ b * D → Within (a * b) (round f s (A * B) (C * D))
product f a b l s A B C D P Q h k =
    let g : A * B ≤ a * b * (C * D) = le_trans (mul-le-mul h k) (le_of_eq (mul-mul-mul_comm a C b D)) in
    rounds-within f (a * b) l (round f s (A * B) (C * D)) (cond s 0 (A * B)) (cond s (A * B) 0) (C * D) (mul-pos P Q)
    (record { sign = s; size = A * B; is = refl; value = add_comm (cond s 0 (A * B)) (cond s (A * B) 0) })
    (part s (A * B) (a * b * (C * D)) g).0 (part s (A * B) (a * b * (C * D)) g).1
  where
    part : (s : Bool) (S N : ℕ) → S ≤ N → (cond s 0 S ≤ N + cond s S 0) × (cond s S 0 ≤ N + cond s 0 S)
    part true S N h = (omega arith, omega arith)
    part false S N h = (omega arith, omega arith)

pub mul-within : (f : Format) (a b : ℕ) → a * b ≤ 2 ^ prec f → (x y : Float) → Within a x → Within b y → Within (a * b) (mul f x y)
unfolding mul
mul-within f a b l nan y v w = absurd v.is_finite
mul-within f a b l (inf s) y v w = absurd v.is_finite
mul-within f a b l (fin s m e) nan v w = absurd w.is_finite
mul-within f a b l (fin s m e) (inf t) v w = absurd w.is_finite
mul-within f a b l (fin s m e) (fin t n d) v w = product f a b l (unlike s t) (m * up e) (n * up d) (down e) (down d) (down_pos e) (down_pos d) (sized s m e v) (sized t n d w)

-- ---- quotients by a value of at least 1 / e
at_least : (e : ℕ) → 0 < e → (b y : Float) → HasValue b false 1 e → T (finite y) → T (le b y) → T (positive y) × (den y ≤ num y * e)
at_least e E b y v p h =
    let z = nothing_less y (le_trans' (fin false 0 (pos 0)) b y (le_of_values (fin false 0 (pos 0)) b 0 1 1 e (lit< tt) E (refl, refl) v (omega arith)) h) in
    go y p z (value-below b y 1 e E v p z h)
  where
    go : (y : Float) → T (finite y) → less y ≡ 0 → 1 * den y ≤ plus y * e → T (positive y) × (den y ≤ num y * e)
    go nan p z g = absurd p
    go (inf s) p z g = absurd p
    go (fin true m i) p z g = absurd (omega (arith, g, down_pos i, zero-mul e))
    go (fin false zero i) p z g = absurd (omega (arith, g, down_pos i, zero-mul (up i), ap (λ (k : ℕ). k * e) (zero-mul (up i)), zero-mul e))
    go (fin false (suc m) i) p z g = (lt→ltb 0 (suc m) (suc-le-suc zero-le), le_trans (le_of_eq (sym (one-mul (down i)))) g)

over : (p a d D N e : ℕ) → p ≤ a * d → D ≤ N * e → p * D ≤ a * e * (N * d)
over p a d D N e h k = le_trans (mul-le-mul h k) (le_of_eq (simp (mul_assoc, mul_comm, mul_left_comm)))

pub div-within : (f : Format) (a e : ℕ) → a * e ≤ 2 ^ prec f → 0 < e → (x y b : Float) → HasValue b false 1 e → Within a x → T (finite y) → T (le b y) → Within (a * e) (div f x y)
div-within f a e l E x y b v w p h =
    let q = at_least e E b y v p h in
    rounds-within f (a * e) l (div f x y) (plus x * den y) (less x * den y) (num y * den x) (mul-pos (num_pos y q.0) (den_pos x)) (div-rounds f x y w.is_finite q.0)
    (more _ _ _ (over (plus x) a (den x) (den y) (num y) e w.above q.1)) (more _ _ _ (over (less x) a (den x) (den y) (num y) e w.under q.1))

-- by at least 1.0
pub div-one-within : (f : Format) (a : ℕ) → a ≤ 2 ^ prec f → (x y : Float) → Within a x → T (finite y) → T (le (fin false 1 (pos 0)) y) → Within a (div f x y)
div-one-within f a l x y w p h =
    subst (λ (n : ℕ). Within n (div f x y)) (mul-one a) (div-within f a 1 (le_trans (le_of_eq (mul-one a)) l) (lit< tt) x y (fin false 1 (pos 0)) (refl, refl) w p h)

-- ---- whole numbers
pub whole_within : (f : Format) (n : ℕ) → n ≤ 2 ^ prec f → Within n (of_int f (pos n))
whole_within f n l =
    let N = of_int f (pos n) in
    let v = whole_value f n l in
    record { is_finite = value-finite N n 1 v; above = le_of_eq (sym (mul-one (plus N)) ∙ value_plus N n 1 v); under = le_trans (le_of_eq (value_less N n 1 v)) zero-le }

-- ---- picks: of two, the bound of both
pub max_float-within : {n : ℕ} (x y : Float) → Within n x → Within n y → Within n (max_float x y)
max_float-within {n} x y v w = either (Within n) (lt y x) x y v w

pub min_float-within : {n : ℕ} (x y : Float) → Within n x → Within n y → Within n (min_float x y)
min_float-within {n} x y v w = either (Within n) (lt x y) x y v w

pub within-between : (n : ℕ) → n ≤ 2 ^ 53 → (lo x hi : Float) → Within n lo → Within n hi → T (le lo x) → T (le x hi) → Within n x
within-between n l lo x hi v w h k = le-within binary64 n l x (le_trans' (neg (of_count n)) lo x (within_ge binary64 n l lo v) h) (le_trans' x hi (of_count n) k (within-le binary64 n l hi w))
