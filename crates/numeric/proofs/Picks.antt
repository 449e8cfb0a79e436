-- `max_float`, `min_float` and `clamp_float` keep the order and lie where they should, and casts and rounding keep the order. Assumes nothing.
use Rattle.std.proofs.Common.{◌≡◌, ℕ, ◌+◌, ◌-◌, ◌*◌, ◌/◌, ◌^◌, ◌<◌, ◌≤◌, Bool, true, false, cond, not, T, pos, sym, subst, zero-le, mul_assoc, mul_comm, add-mul, mul-pos, mul_left_comm, arith, lit<}
use native.Mathlib.Nat.{zero-div, div-eq_of_lt}
use lib.Ieee.{Float, nan, inf, fin, Format, binary64, up, down, lt, le, of_int, to_unsigned}
use lib.Ieee.Casts.{to_unsigned-lt}
use lib.Ieee.Fits.{down_pos}
use lib.Ieee.Nearest.{div_mono}
use lib.Ieee.Order.{round_mono}
use Rattle.spec.specs.Floats.{of_count, max_float, min_float, clamp_float, round_as_u64}
use Rattle.numeric.proofs.Order.{Number, le→cross, le_left, le_right, le_refl, le_trans, le_of_lt, le_of_not_lt, only_top}

-- ---- the larger
pub max_float-le : (b x y : Float) → Number b → T (le x y) → T (le (max_float x b) (max_float y b))
max_float-le b x y q h = go (lt b x) (lt b y) (le_of_not_lt b y q (le_right x y h)) (le_of_lt b y)
  where
    go : (u v : Bool) → (T (not v) → T (le y b)) → (T v → T (le b y)) → T (le (cond u x b) (cond v y b))
    go true true f g = h
    go true false f g = le_trans x y b h (f tt)
    go false true f g = g tt
    go false false f g = le_refl b q

pub either : (P : Float → Type 0) (b : Bool) (x y : Float) → P x → P y → P (cond b x y)
either P true x y p q = p
either P false x y p q = q

pub above-max : (a b : Float) → Number b → T (le b (max_float a b))
above-max a b q = go (lt b a) (le_of_lt b a)
  where
    go : (u : Bool) → (T u → T (le b a)) → T (le b (cond u a b))
    go true f = f tt
    go false f = le_refl b q

-- ---- the smaller
pub min_float-le : (b x y : Float) → Number b → T (le x y) → T (le (min_float x b) (min_float y b))
min_float-le b x y q h = go (lt x b) (lt y b) (le_of_not_lt x b (le_left x y h) q) (le_of_lt x b)
  where
    go : (u v : Bool) → (T (not u) → T (le b x)) → (T u → T (le x b)) → T (le (cond u x b) (cond v y b))
    go true true f g = h
    go true false f g = g tt
    go false true f g = le_trans b x y (f tt) h
    go false false f g = le_refl b q

pub under-min : (a b : Float) → Number b → T (le (min_float a b) b)
under-min a b q = go (lt a b) (le_of_lt a b)
  where
    go : (u : Bool) → (T u → T (le a b)) → T (le (cond u a b) b)
    go true f = f tt
    go false f = le_refl b q

-- ---- held between: whatever x is, a NaN too
pub clamped_le : (lo hi x y : Float) → Number lo → Number hi → T (le x y) → T (le (clamp_float lo hi x) (clamp_float lo hi y))
clamped_le lo hi x y p q h = min_float-le hi (max_float x lo) (max_float y lo) q (max_float-le lo x y p h)

pub clamped_hi : (x lo hi : Float) → Number hi → T (le (clamp_float lo hi x) hi)
clamped_hi x lo hi q = under-min (max_float x lo) hi q

pub clamped_lo : (x lo hi : Float) → T (le lo hi) → T (le lo (clamp_float lo hi x))
clamped_lo x lo hi h = either (λ (z : Float). T (le lo z)) (lt (max_float x lo) hi) (max_float x lo) hi (above-max x lo (le_left lo hi h)) h

-- ---- `as u64`
room : (w a : ℕ) → a < 2 ^ w → a ≤ 2 ^ w - 1
room w a h = omega arith

pub to_unsigned-le : (w : ℕ) (x y : Float) → T (le x y) → to_unsigned w x ≤ to_unsigned w y
unfolding to_unsigned le
to_unsigned-le w nan y h = absurd h
to_unsigned-le w (inf true) y h = zero-le
to_unsigned-le w (inf false) y h = subst (λ (z : Float). 2 ^ w - 1 ≤ to_unsigned w z) (sym (only_top y h)) (omega arith)
to_unsigned-le w (fin s m e) nan h = absurd h
to_unsigned-le w (fin s m e) (inf true) h = absurd h
to_unsigned-le w (fin s m e) (inf false) h = room w (to_unsigned w (fin s m e)) (to_unsigned-lt w (fin s m e))
to_unsigned-le w (fin true m e) (fin t n d) h = zero-le
to_unsigned-le w (fin false m e) (fin true n d) h =
    let k = le→cross (fin false m e) (fin true n d) tt tt h in
    let a : m * up e / down e ≤ 0 / down d = div_mono (m * up e) (down e) 0 (down d) (down_pos e) (down_pos d) (omega arith) in
    let b = zero-div (down d) in
    omega arith
to_unsigned-le w (fin false m e) (fin false n d) h =
    let k = le→cross (fin false m e) (fin false n d) tt tt h in
    let a : m * up e / down e ≤ n * up d / down d = div_mono (m * up e) (down e) (n * up d) (down d) (down_pos e) (down_pos d) (omega arith) in
    omega arith

-- ---- `round` and then `as u64`
half_mono : (a c b d : ℕ) → 0 < c → 0 < d → a * d ≤ b * c → (a * 2 + c) / (c * 2) ≤ (b * 2 + d) / (d * 2)
half_mono a c b d C D h = div_mono (a * 2 + c) (c * 2) (b * 2 + d) (d * 2) (mul-pos C (lit< tt)) (mul-pos D (lit< tt)) (wide a c b d h)
  where
    wide : (a c b d : ℕ) → a * d ≤ b * c → (a * 2 + c) * (d * 2) ≤ (b * 2 + d) * (c * 2)
    wide a c b d h = simp (add-mul, mul_assoc, mul_comm, mul_left_comm) (omega (arith, simp (mul_comm) at h))

pub round_as_u64-le : (x y : Float) → T (le x y) → round_as_u64 x ≤ round_as_u64 y
unfolding round_as_u64 le
round_as_u64-le nan y h = absurd h
round_as_u64-le (inf true) y h = zero-le
round_as_u64-le (inf false) y h = subst (λ (z : Float). 2 ^ 64 - 1 ≤ round_as_u64 z) (sym (only_top y h)) (omega arith)
round_as_u64-le (fin s m e) nan h = absurd h
round_as_u64-le (fin s m e) (inf true) h = absurd h
round_as_u64-le (fin true m e) (inf false) h = zero-le
round_as_u64-le (fin false m e) (inf false) h = omega arith
round_as_u64-le (fin true m e) (fin t n d) h = zero-le
round_as_u64-le (fin false m e) (fin true n d) h =
    let k = le→cross (fin false m e) (fin true n d) tt tt h in
    let a = half_mono (m * up e) (down e) 0 (down d) (down_pos e) (down_pos d) (omega arith) in
    let D = down_pos d in
    let b : (0 * 2 + down d) / (down d * 2) ≡ 0 = div-eq_of_lt (omega arith) in
    omega arith
round_as_u64-le (fin false m e) (fin false n d) h =
    let k = le→cross (fin false m e) (fin false n d) tt tt h in
    let a = half_mono (m * up e) (down e) (n * up d) (down d) (down_pos e) (down_pos d) (omega arith) in
    omega arith

-- ---- `as f64`, `as f32`
pub of_int-le : (f : Format) (a b : ℕ) → a ≤ b → T (le (of_int f (pos a)) (of_int f (pos b)))
unfolding of_int
of_int-le f a b h = round_mono f a 1 b 1 (lit< tt) (lit< tt) (omega arith)

pub count-le : (a b : ℕ) → a ≤ b → T (le (of_count a) (of_count b))
count-le = of_int-le binary64
