-- Floats of a known value: their sums, their differences, their order against any float that is not below zero. Assumes nothing.
-- `HasValue x false a c` says that x is a / c; a finite x with `less x ≡ 0` is plus x / den x, the two zeros included.
use Rattle.std.proofs.Common.{◌≡◌, ℕ, ◌+◌, ◌-◌, ◌*◌, ◌/◌, ◌^◌, ◌<◌, ◌≤◌, min, Bool, true, false, cond, T, pos, sym, refl, ap, ◌∙◌, subst, true≢false, le_trans, mul-le-mul_right, mul_assoc, mul_comm, add-mul, mul-pos, mul-one, le_of_mul-le-mul_right, mul_left_comm, arith, lit<, le→leb, le-ltb}
use native.Mathlib.Nat.{mul-sub, div-eq_of_lt}
use lib.Ieee.{Float, nan, inf, fin, Format, binary64, up, down, round, neg, sum, add, sub, le, of_int, to_unsigned, in_float}
use lib.Ieee.Back.{round_whole, unsigned_back}
use lib.Ieee.Exact.{HasValue}
use lib.Ieee.Fits.{down_pos}
use lib.Ieee.Positive.{den, den_pos}
use lib.Ieee.Scale.{round_same, finite}
use Rattle.spec.specs.Floats.{of_count, round_as_u64}
use Rattle.numeric.proofs.Order.{plus, less, le→cross, cross→le}

-- ---- what a value says
pub value-finite : (x : Float) (a c : ℕ) → HasValue x false a c → T (finite x)
value-finite nan a c h = h
value-finite (inf s) a c h = h
value-finite (fin s m e) a c h = tt

pub value_plus : (x : Float) (a c : ℕ) → HasValue x false a c → plus x * c ≡ a * den x
value_plus nan a c h = absurd h
value_plus (inf s) a c h = absurd h
value_plus (fin true m e) a c h = absurd (true≢false h.0)
value_plus (fin false m e) a c h = h.1

pub value_less : (x : Float) (a c : ℕ) → HasValue x false a c → less x ≡ 0
value_less nan a c h = refl
value_less (inf s) a c h = refl
value_less (fin true m e) a c h = absurd (true≢false h.0)
value_less (fin false m e) a c h = refl

-- ---- sums and differences
cross : (x y a b c d p q : ℕ) → x * p ≡ a * c → y * q ≡ b * d → (x * d + y * c) * (p * q) ≡ (a * q + b * p) * (c * d)
cross x y a b c d p q h k =
    let u = simp (mul_assoc, mul_comm, mul_left_comm) at (ap (λ (z : ℕ). z * (d * q)) h) in
    let v = simp (mul_assoc, mul_comm, mul_left_comm) at (ap (λ (z : ℕ). z * (c * p)) k) in
    simp (add-mul, mul_assoc, mul_comm, mul_left_comm) (omega (arith, u, v))

pub add-values : (f : Format) (x y : Float) (a b p q : ℕ) → 0 < p → 0 < q → HasValue x false a p → HasValue y false b q → add f x y ≡ round f false (a * q + b * p) (p * q)
unfolding add sum
add-values f nan y a b p q P Q h k = absurd h
add-values f (inf s) y a b p q P Q h k = absurd h
add-values f (fin s m e) nan a b p q P Q h k = absurd k
add-values f (fin s m e) (inf t) a b p q P Q h k = absurd k
add-values f (fin true m e) (fin t n d) a b p q P Q h k = absurd (true≢false h.0)
add-values f (fin false m e) (fin true n d) a b p q P Q h k = absurd (true≢false k.0)
add-values f (fin false m e) (fin false n d) a b p q P Q h k =
    round_same f false (m * up e * down d + n * up d * down e) (down e * down d) (a * q + b * p) (p * q) (mul-pos (down_pos e) (down_pos d)) (mul-pos P Q)
    (cross (m * up e) (n * up d) a b (down e) (down d) p q h.1 k.1)

apart : (x y a b c d : ℕ) → x * 1 ≡ a * c → y * 1 ≡ b * d → (x * d - y * c) * 1 ≡ (a - b) * (c * d)
apart x y a b c d p q =
    let u : x * d ≡ a * (c * d) = ap (λ (z : ℕ). z * d) (sym (mul-one x) ∙ p) ∙ mul_assoc a c d in
    let v : y * c ≡ b * (c * d) = ap (λ (z : ℕ). z * c) (sym (mul-one y) ∙ q) ∙ mul_assoc b d c ∙ ap (λ (z : ℕ). b * z) (mul_comm d c) in
    mul-one (x * d - y * c) ∙ ap (λ (z : ℕ). z - y * c) u ∙ ap (λ (z : ℕ). a * (c * d) - z) v ∙ less_mul a b (c * d)
  where
    less_mul : (a b k : ℕ) → a * k - b * k ≡ (a - b) * k
    less_mul a b k = ap (λ (z : ℕ). z - b * k) (mul_comm a k) ∙ ap (λ (z : ℕ). k * a - z) (mul_comm b k) ∙ sym (mul-sub k a b) ∙ mul_comm k (a - b)

inorder : (x y a b c d : ℕ) → x * 1 ≡ a * c → y * 1 ≡ b * d → b ≤ a → y * c ≤ x * d
inorder x y a b c d p q h =
    let u : x * d ≡ a * (c * d) = ap (λ (z : ℕ). z * d) (sym (mul-one x) ∙ p) ∙ mul_assoc a c d in
    let v : y * c ≡ b * (c * d) = ap (λ (z : ℕ). z * c) (sym (mul-one y) ∙ q) ∙ mul_assoc b d c ∙ ap (λ (z : ℕ). b * z) (mul_comm d c) in
    omega (arith, mul-le-mul_right (c * d) h)

pub sub-values : (f : Format) (x y : Float) (a b : ℕ) → b ≤ a → HasValue x false a 1 → HasValue y false b 1 → sub f x y ≡ round f false (a - b) 1
unfolding sub neg add sum
sub-values f nan y a b g h k = absurd h
sub-values f (inf s) y a b g h k = absurd h
sub-values f (fin s m e) nan a b g h k = absurd k
sub-values f (fin s m e) (inf t) a b g h k = absurd k
sub-values f (fin true m e) (fin t n d) a b g h k = absurd (true≢false h.0)
sub-values f (fin false m e) (fin true n d) a b g h k = absurd (true≢false k.0)
sub-values f (fin false m e) (fin false n d) a b g h k =
    let X = m * up e * down d in
    let Y = n * up d * down e in
    ap (λ (t : Bool). cond t (round f true (Y - X) (down e * down d)) (round f false (X - Y) (down e * down d))) (le-ltb X Y (inorder (m * up e) (n * up d) a b (down e) (down d) h.1 k.1 g))
    ∙ round_same f false (X - Y) (down e * down d) (a - b) 1 (mul-pos (down_pos e) (down_pos d)) (lit< tt) (apart (m * up e) (n * up d) a b (down e) (down d) h.1 k.1)

-- ---- counts
pub count-value : (n : ℕ) → n ≤ 2 ^ 53 → HasValue (of_count n) false n 1
unfolding of_int
count-value n h = round_whole binary64 false n h

pub count-finite : (n : ℕ) → n ≤ 2 ^ 53 → T (finite (of_count n))
count-finite n h = value-finite (of_count n) n 1 (count-value n h)

pub count_back : (w n : ℕ) → n ≤ 2 ^ 53 → n < 2 ^ w → to_unsigned w (of_count n) ≡ n
unfolding in_float
count_back w n h k = (unsigned_back binary64 w n (le→leb n (2 ^ 53) h) k).1

pub count-sub : (a b : ℕ) → a ≤ 2 ^ 53 → b ≤ a → sub binary64 (of_count a) (of_count b) ≡ of_count (a - b)
unfolding of_int
count-sub a b h g = sub-values binary64 (of_count a) (of_count b) a b g (count-value a h) (count-value b (le_trans g h))

-- ---- order against a float that is not below zero
pub value-below : (c x : Float) (a b : ℕ) → 0 < b → HasValue c false a b → T (finite x) → less x ≡ 0 → T (le c x) → a * den x ≤ plus x * b
value-below c x a b B v p z h =
    let k = le→cross c x (value-finite c a b v) p h in
    le_of_mul-le-mul_right (turn (plus c) (den c) (plus x) (den x) a b (value_plus c a b v) (subst (λ (n : ℕ). plus c * den x + n * den c ≤ plus x * den c + less c * den x) z k) (value_less c a b v)) (den_pos c)
  where
    turn : (P D N E a b : ℕ) → P * b ≡ a * D → P * E + 0 * D ≤ N * D + less c * E → less c ≡ 0 → a * E * D ≤ N * b * D
    turn P D N E a b e h l =
        let h' : P * E ≤ N * D = let g = simp l at h in omega (arith, g) in
        let u = simp (mul_assoc, mul_comm, mul_left_comm) at (mul-le-mul_right b h') in
        let w = simp (mul_assoc, mul_comm, mul_left_comm) at (ap (λ (z : ℕ). z * E) e) in
        simp (mul_assoc, mul_comm, mul_left_comm) (omega (arith, u, w))

pub value-above : (c x : Float) (a b : ℕ) → 0 < b → HasValue c false a b → T (finite x) → less x ≡ 0 → a * den x ≤ plus x * b → T (le c x)
value-above c x a b B v p z h =
    cross→le c x (value-finite c a b v) p
    (subst (λ (n : ℕ). plus c * den x + n * den c ≤ plus x * den c + less c * den x) (sym z)
    (subst (λ (n : ℕ). plus c * den x + 0 * den c ≤ plus x * den c + n * den x) (sym (value_less c a b v))
    (plain (plus c) (den c) (plus x) (den x) (le_of_mul-le-mul_right (turn (plus c) (den c) (plus x) (den x) a b (value_plus c a b v) h) B))))
  where
    plain : (P D N E : ℕ) → P * E ≤ N * D → P * E + 0 * D ≤ N * D + 0 * E
    plain P D N E h = omega arith

    turn : (P D N E a b : ℕ) → P * b ≡ a * D → a * E ≤ N * b → P * E * b ≤ N * D * b
    turn P D N E a b e h =
        let u = simp (mul_assoc, mul_comm, mul_left_comm) at (mul-le-mul_right D h) in
        let w = simp (mul_assoc, mul_comm, mul_left_comm) at (ap (λ (z : ℕ). z * E) e) in
        simp (mul_assoc, mul_comm, mul_left_comm) (omega (arith, u, w))

-- ---- casts of a finite float: below zero there is nothing to cut
pub whole_of : (w : ℕ) (x : Float) → T (finite x) → to_unsigned w x ≡ min (plus x / den x) (2 ^ w - 1)
unfolding to_unsigned
whole_of w nan p = absurd p
whole_of w (inf s) p = absurd p
whole_of w (fin true m e) p = let z : 0 / down e ≡ 0 = div-eq_of_lt (down_pos e) in omega arith
whole_of w (fin false m e) p = refl

pub round_as_u64_of : (x : Float) → T (finite x) → round_as_u64 x ≡ min ((plus x * 2 + den x) / (den x * 2)) (2 ^ 64 - 1)
unfolding round_as_u64
round_as_u64_of nan p = absurd p
round_as_u64_of (inf s) p = absurd p
round_as_u64_of (fin true m e) p = let d = down_pos e in let z : (0 * 2 + down e) / (down e * 2) ≡ 0 = div-eq_of_lt (omega arith) in omega arith
round_as_u64_of (fin false m e) p = refl

-- what is not below zero has nothing below zero
pub nothing_less : (x : Float) → T (le (fin false 0 (pos 0)) x) → less x ≡ 0
unfolding le
nothing_less nan h = absurd h
nothing_less (inf s) h = refl
nothing_less (fin false m e) h = refl
nothing_less (fin true m e) h = let k = le→cross (fin false 0 (pos 0)) (fin true m e) tt tt h in omega (arith, k)
