-- Operations on floats that are the same number give the same number, and the same float where a zero's sign cannot be seen. Assumes nothing.
use Rattle.std.proofs.Common.{◌≡◌, ℕ, zero, suc, ◌-◌, ◌*◌, ◌<◌, Bool, true, false, cond, not, ◌&&◌, T, ltb, pos, sym, refl, ap, ◌∙◌, subst₂, true≢false, suc-le-suc, zero-le, add-zero, mul-pos, mul-zero, zero-add, zero-mul, mul-one, arith, lit<, le-ltb, lt-ltb, ne_eqb}
use native.Mathlib.Nat.{sub-zero}
use lib.Ieee.{Float, nan, inf, fin, binary64, up, down, unlike, below, round, neg, sum, add, sub, mul, div, lt, to_unsigned}
use lib.Ieee.Fits.{down_pos, up_pos}
use lib.Ieee.Positive.{positive}
use lib.Ieee.Scale.{round_same}
use Rattle.spec.specs.Floats.{max_float, min_float, clamp_float}
use Rattle.spec.specs.Number.{Alike, same, zeros}

abbrev nil : Bool → Float
nil s = fin s 0 (pos 0)

one_pos : 0 < 1
one_pos = lit< tt

through : {x y a b : Float} → x ≡ a → y ≡ b → Alike a b → Alike x y
through e f h = subst₂ Alike (sym e) (sym f) h

pub alike_trans : {x y z : Float} → Alike x y → Alike y z → Alike x z
alike_trans same q = q
alike_trans (zeros s t) same = zeros s t
alike_trans (zeros s t) (zeros _ u) = zeros s u

-- a fraction of numerator 0
round_nil : (s : Bool) (a c : ℕ) → a ≡ 0 → 0 < c → round binary64 s a c ≡ nil s
unfolding round
round_nil s a c e h = round_same binary64 s a c 0 1 h (lit< tt) (mul-one a ∙ e ∙ sym (zero-mul c)) ∙ unit s
  where
    unit : (s : Bool) → round binary64 s 0 1 ≡ nil s
    unit true = refl
    unit false = refl

-- ---- a sum with a zero

sum_nil : (s t : Bool) (c : ℕ) → 0 < c → (z : Bool) × (sum binary64 s 0 t 0 c ≡ nil z)
unfolding sum
sum_nil true true c h = (true, round_nil true 0 c refl h)
sum_nil true false c h = (false, round_nil false 0 c refl h)
sum_nil false true c h = (false, round_nil false 0 c refl h)
sum_nil false false c h = (false, round_nil false 0 c refl h)

sum_left : (s t : Bool) (b c : ℕ) → sum binary64 s 0 t (suc b) c ≡ round binary64 t (suc b) c
unfolding sum
sum_left true true b c = ap (λ (k : ℕ). round binary64 true k c) (zero-add (suc b))
sum_left false false b c = ap (λ (k : ℕ). round binary64 false k c) (zero-add (suc b))
sum_left true false b c =
    ap (λ (q : Bool). cond q (round binary64 false (suc b - 0) c) (round binary64 (true && ltb (suc b) 0) (0 - suc b) c)) (lt-ltb 0 (suc b) (suc-le-suc zero-le))
    ∙ ap (λ (k : ℕ). round binary64 false k c) (sub-zero (suc b))
sum_left false true b c =
    ap (λ (q : Bool). cond q (round binary64 true (suc b - 0) c) (round binary64 (false && ltb (suc b) 0) (0 - suc b) c)) (lt-ltb 0 (suc b) (suc-le-suc zero-le))
    ∙ ap (λ (k : ℕ). round binary64 true k c) (sub-zero (suc b))

sum-right : (s t : Bool) (a c : ℕ) → sum binary64 s (suc a) t 0 c ≡ round binary64 s (suc a) c
unfolding sum
sum-right true true a c = ap (λ (k : ℕ). round binary64 true k c) (add-zero (suc a))
sum-right false false a c = ap (λ (k : ℕ). round binary64 false k c) (add-zero (suc a))
sum-right true false a c =
    ap (λ (q : Bool). cond q (round binary64 false (0 - suc a) c) (round binary64 (true && ltb 0 (suc a)) (suc a - 0) c)) (le-ltb (suc a) 0 zero-le)
    ∙ ap (λ (q : Bool). round binary64 q (suc a - 0) c) (lt-ltb 0 (suc a) (suc-le-suc zero-le)) ∙ ap (λ (k : ℕ). round binary64 true k c) (sub-zero (suc a))
sum-right false true a c =
    ap (λ (q : Bool). cond q (round binary64 true (0 - suc a) c) (round binary64 (false && ltb 0 (suc a)) (suc a - 0) c)) (le-ltb (suc a) 0 zero-le)
    ∙ ap (λ (k : ℕ). round binary64 false k c) (sub-zero (suc a))

left_alike : (s s' t : Bool) (b c : ℕ) → 0 < c → Alike (sum binary64 s 0 t b c) (sum binary64 s' 0 t b c)
left_alike s s' t zero c h = through (sum_nil s t c h).1 (sum_nil s' t c h).1 (zeros _ _)
left_alike s s' t (suc b) c h = through (sum_left s t b c) (sum_left s' t b c) same

right_alike : (s t t' : Bool) (a c : ℕ) → 0 < c → Alike (sum binary64 s a t 0 c) (sum binary64 s a t' 0 c)
right_alike s t t' zero c h = through (sum_nil s t c h).1 (sum_nil s t' c h).1 (zeros _ _)
right_alike s t t' (suc a) c h = through (sum-right s t a c) (sum-right s t' a c) same

add_left : (s s' : Bool) (y : Float) → Alike (add binary64 (nil s) y) (add binary64 (nil s') y)
unfolding add
add_left s s' nan = same
add_left s s' (inf t) = same
add_left s s' (fin t n d) =
    through (ap (λ (a : ℕ). sum binary64 s a t (n * up d * 1) (1 * down d)) (zero-mul (down d))) (ap (λ (a : ℕ). sum binary64 s' a t (n * up d * 1) (1 * down d)) (zero-mul (down d)))
    (left_alike s s' t (n * up d * 1) (1 * down d) (mul-pos one_pos (down_pos d)))

add_right : (x : Float) (t t' : Bool) → Alike (add binary64 x (nil t)) (add binary64 x (nil t'))
unfolding add
add_right nan t t' = same
add_right (inf s) t t' = same
add_right (fin s m e) t t' =
    through (ap (λ (b : ℕ). sum binary64 s (m * up e * 1) t b (down e * 1)) (zero-mul (down e))) (ap (λ (b : ℕ). sum binary64 s (m * up e * 1) t' b (down e * 1)) (zero-mul (down e)))
    (right_alike s t t' (m * up e * 1) (down e * 1) (mul-pos (down_pos e) one_pos))

pub add_alike : {x x' y y' : Float} → Alike x x' → Alike y y' → Alike (add binary64 x y) (add binary64 x' y')
add_alike same same = same
add_alike {y} (zeros s t) same = add_left s t y
add_alike {x} same (zeros s t) = add_right x s t
add_alike (zeros s t) (zeros u v) = alike_trans (add_left s t (nil u)) (add_right (nil t) u v)

pub neg_alike : {x x' : Float} → Alike x x' → Alike (neg x) (neg x')
unfolding neg
neg_alike same = same
neg_alike (zeros s t) = zeros (not s) (not t)

pub sub_alike : {x x' y y' : Float} → Alike x x' → Alike y y' → Alike (sub binary64 x y) (sub binary64 x' y')
unfolding sub
sub_alike p q = add_alike p (neg_alike q)

-- ---- products and quotients: a zero gives a zero, or a NaN on both sides

mul_left : (s s' : Bool) (y : Float) → Alike (mul binary64 (nil s) y) (mul binary64 (nil s') y)
unfolding mul
mul_left s s' nan = same
mul_left s s' (inf t) = same
mul_left s s' (fin t n d) =
    through (round_nil (unlike s t) (0 * (n * up d)) (1 * down d) (zero-mul (n * up d)) (mul-pos one_pos (down_pos d)))
    (round_nil (unlike s' t) (0 * (n * up d)) (1 * down d) (zero-mul (n * up d)) (mul-pos one_pos (down_pos d))) (zeros _ _)

mul_right : (x : Float) (t t' : Bool) → Alike (mul binary64 x (nil t)) (mul binary64 x (nil t'))
unfolding mul
mul_right nan t t' = same
mul_right (inf s) t t' = same
mul_right (fin s m e) t t' =
    through (round_nil (unlike s t) (m * up e * 0) (down e * 1) (mul-zero (m * up e)) (mul-pos (down_pos e) one_pos))
    (round_nil (unlike s t') (m * up e * 0) (down e * 1) (mul-zero (m * up e)) (mul-pos (down_pos e) one_pos)) (zeros _ _)

pub mul_alike_right : (x : Float) {y y' : Float} → Alike y y' → Alike (mul binary64 x y) (mul binary64 x y')
mul_alike_right x same = same
mul_alike_right x (zeros s t) = mul_right x s t

pub mul_alike : {x x' : Float} (y : Float) → Alike x x' → Alike (mul binary64 x y) (mul binary64 x' y)
mul_alike y same = same
mul_alike y (zeros s t) = mul_left s t y

div_left : (s s' : Bool) (y : Float) → Alike (div binary64 (nil s) y) (div binary64 (nil s') y)
unfolding div
div_left s s' nan = same
div_left s s' (inf t) = zeros _ _
div_left s s' (fin t zero d) = same
div_left s s' (fin t (suc n) d) = rw (ne_eqb (suc n) 0 (λ e. omega (arith, e)))
    (through (round_nil (unlike s t) (0 * down d) (suc n * up d * 1) (zero-mul (down d)) (mul-pos (mul-pos (suc-le-suc zero-le) (up_pos d)) one_pos))
    (round_nil (unlike s' t) (0 * down d) (suc n * up d * 1) (zero-mul (down d)) (mul-pos (mul-pos (suc-le-suc zero-le) (up_pos d)) one_pos)) (zeros _ _))

pub div_alike : {x x' : Float} (y : Float) → Alike x x' → Alike (div binary64 x y) (div binary64 x' y)
div_alike y same = same
div_alike y (zeros s t) = div_left s t y

-- ---- comparison is blind to a zero's sign

lt_left : (s s' : Bool) (y : Float) → lt (nil s) y ≡ lt (nil s') y
unfolding lt
lt_left s s' nan = refl
lt_left s s' (inf t) = refl
lt_left s s' (fin t n d) = ap (λ (a : ℕ). below s a t (n * up d * 1)) (zero-mul (down d)) ∙ blind s s' t (n * up d * 1) ∙ sym (ap (λ (a : ℕ). below s' a t (n * up d * 1)) (zero-mul (down d)))
  where
    blind : (s s' t : Bool) (b : ℕ) → below s 0 t b ≡ below s' 0 t b
    blind true true t b = refl
    blind false false t b = refl
    blind true false false b = ap (λ (k : ℕ). ltb 0 k) (zero-add b)
    blind true false true b = le-ltb b 0 zero-le
    blind false true false b = sym (ap (λ (k : ℕ). ltb 0 k) (zero-add b))
    blind false true true b = sym (le-ltb b 0 zero-le)

lt-right : (x : Float) (t t' : Bool) → lt x (nil t) ≡ lt x (nil t')
unfolding lt
lt-right nan t t' = refl
lt-right (inf s) t t' = refl
lt-right (fin s m e) t t' = ap (λ (b : ℕ). below s (m * up e * 1) t b) (zero-mul (down e)) ∙ blind s t t' (m * up e * 1) ∙ sym (ap (λ (b : ℕ). below s (m * up e * 1) t' b) (zero-mul (down e)))
  where
    blind : (s t t' : Bool) (a : ℕ) → below s a t 0 ≡ below s a t' 0
    blind s true true a = refl
    blind s false false a = refl
    blind false true false a = sym (le-ltb a 0 zero-le)
    blind false false true a = le-ltb a 0 zero-le
    blind true true false a = ap (λ (k : ℕ). ltb 0 k) (sym (add-zero a))
    blind true false true a = ap (λ (k : ℕ). ltb 0 k) (add-zero a)

pub lt_alike : {x x' y y' : Float} → Alike x x' → Alike y y' → lt x y ≡ lt x' y'
lt_alike same same = refl
lt_alike {y} (zeros s t) same = lt_left s t y
lt_alike {x} same (zeros s t) = lt-right x s t
lt_alike (zeros s t) (zeros u v) = lt_left s t (nil u) ∙ lt-right (nil t) u v

pick_alike : (q q' : Bool) {a a' b b' : Float} → q ≡ q' → Alike a a' → Alike b b' → Alike (cond q a b) (cond q' a' b')
pick_alike true true e p r = p
pick_alike false false e p r = r
pick_alike true false e p r = absurd (true≢false e)
pick_alike false true e p r = absurd (true≢false (sym e))

pub max_float_alike : {a a' b b' : Float} → Alike a a' → Alike b b' → Alike (max_float a b) (max_float a' b')
max_float_alike p r = pick_alike _ _ (lt_alike r p) p r

pub min_float_alike : {a a' b b' : Float} → Alike a a' → Alike b b' → Alike (min_float a b) (min_float a' b')
min_float_alike p r = pick_alike _ _ (lt_alike p r) p r

pub clamp_float_alike : {l l' h h' v v' : Float} → Alike l l' → Alike h h' → Alike v v' → Alike (clamp_float l h v) (clamp_float l' h' v')
clamp_float_alike l h v = min_float_alike (max_float_alike v l) h

-- ---- where the result is the same, and not only the same number

pub whole_alike : {x x' : Float} → Alike x x' → to_unsigned 64 x ≡ to_unsigned 64 x'
unfolding to_unsigned
whole_alike same = refl
whole_alike (zeros true true) = refl
whole_alike (zeros true false) = refl
whole_alike (zeros false true) = refl
whole_alike (zeros false false) = refl

-- the larger of a zero and a value above zero is the latter
max_float_nil : (s : Bool) (c : Float) → T (positive c) → max_float (nil s) c ≡ c
unfolding lt
max_float_nil s nan p = absurd p
max_float_nil s (inf t) p = absurd p
max_float_nil s (fin true n d) p = absurd p
max_float_nil true (fin false n d) p = refl
max_float_nil false (fin false n d) p = ap (λ (q : Bool). cond q (nil false) (fin false n d)) (le-ltb (n * up d * 1) (0 * down d) (omega (arith, zero-mul (down d))))

pub max_float-same : {x x' : Float} (c : Float) → T (positive c) → Alike x x' → max_float x c ≡ max_float x' c
max_float-same c p same = refl
max_float-same c p (zeros s t) = max_float_nil s c p ∙ sym (max_float_nil t c p)
