-- What the colour rules give with no look at a table: order in the byte, one answer each, and 0 up to the floor.
-- Assumes nothing.
use mathlib.Core.Path.{◌≡◌, ap, ◌∙◌}
use Prim.Native.Nat.{ℕ, ◌+◌, ◌*◌, ◌-◌, ◌^◌, ◌≤◌, ◌<◌, zero-le}
use native.Mathlib.Nat.{le_trans, lt_of_le_of_lt, mul-zero, one-le-pow, pow-le-pow_left, pow-lt-pow_left, mul-le-mul, mul-le-mul_left, mul-lt-mul_of_pos_right}
use native.Mathlib.Omega.{arith}
use borrow.Author.Tests.{ne_eqb}
use lib.Dec.{leb→le}
use Rattle.spec.specs.Colour.{reached, level, red, green, blue, red_above, green_above, blue_above}
use Rattle.colour_tables.specs.Colours.{Only}
use Rattle.colour_tables.proofs.Levels.{level_is, level_only, no_lower_side, reached-le, reached_mono, zero_pow}

-- each of the four rules is level p (w ^ q) (510 ^ p * x ^ q): x of w, to the power q / p
tone_rises : (p q w : ℕ) {x y : ℕ} → x ≤ y → level p (w ^ q) (510 ^ p * x ^ q) ≤ level p (w ^ q) (510 ^ p * y ^ q)
tone_rises p q w {x} {y} l = reached_mono p (w ^ q) (510 ^ p * x ^ q) (510 ^ p * y ^ q) 255 (mul-le-mul_left (510 ^ p) (pow-le-pow_left l q))

tone_only : (p q w x : ℕ) → 0 < p → 0 < w → x ≤ w → Only p (w ^ q) (510 ^ p * x ^ q) (level p (w ^ q) (510 ^ p * x ^ q))
tone_only p q w x pos wide l =
    let m : 510 ^ p * x ^ q ≤ 510 ^ p * w ^ q = mul-le-mul_left (510 ^ p) (pow-le-pow_left l q) in
    let n : 510 ^ p < 511 ^ p = pow-lt-pow_left (omega arith) (λ e. omega arith) in
    level_only p (w ^ q) (510 ^ p * x ^ q) pos (lt_of_le_of_lt m (mul-lt-mul_of_pos_right n (one-le-pow q w wide)))

-- red and green rise with the byte
pub red_rises : {v w : ℕ} → v ≤ w → red v ≤ red w
unfolding red
red_rises l = tone_rises 10 7 255 l

pub green_rises : {v w : ℕ} → v ≤ w → green v ≤ green w
unfolding green
green_rises l = tone_rises 10 9 255 l

pub red-above_rises : (f : ℕ) {v w : ℕ} → v ≤ w → red_above f v ≤ red_above f w
unfolding red_above
red-above_rises f {v} {w} l = tone_rises 20 23 (255 - f) {x = v - f} {y = w - f} (omega arith)

pub green-above_rises : (f : ℕ) {v w : ℕ} → v ≤ w → green_above f v ≤ green_above f w
unfolding green_above
green-above_rises f {v} {w} l = tone_rises 10 11 (255 - f) {x = v - f} {y = w - f} (omega arith)

-- each is the only number with its rule
pub red_only : (v : ℕ) → v ≤ 255 → Only 10 (255 ^ 7) (510 ^ 10 * v ^ 7) (red v)
unfolding red
red_only v l = tone_only 10 7 255 v (omega arith) (omega arith) l

pub green_only : (v : ℕ) → v ≤ 255 → Only 10 (255 ^ 9) (510 ^ 10 * v ^ 9) (green v)
unfolding green
green_only v l = tone_only 10 9 255 v (omega arith) (omega arith) l

pub red-above_only : (f v : ℕ) → f < 255 → v ≤ 255 → Only 20 ((255 - f) ^ 23) (510 ^ 20 * (v - f) ^ 23) (red_above f v)
unfolding red_above
red-above_only f v h l = tone_only 20 23 (255 - f) (v - f) (omega arith) (omega arith) (omega arith)

pub green-above_only : (f v : ℕ) → f < 255 → v ≤ 255 → Only 10 ((255 - f) ^ 11) (510 ^ 10 * (v - f) ^ 11) (green_above f v)
unfolding green_above
green-above_only f v h l = tone_only 10 11 (255 - f) (v - f) (omega arith) (omega arith) (omega arith)

-- "Default green is 0 only at v2 = 0"
one-green : 1 ≤ green 1
unfolding green reached
one-green = leb→le 1 (level 10 (255 ^ 9) (510 ^ 10 * 1 ^ 9)) tt

pub green_positive : {v : ℕ} → 0 < v → 0 < green v
green_positive l = le_trans one-green (green_rises l)

-- "Bytes up to f give red or green 0"
tone_dark : (p q w x : ℕ) → 0 < p → 0 < q → 0 < w → x ≡ 0 → level p (w ^ q) (510 ^ p * x ^ q) ≡ 0
tone_dark p q w x pos posq wide z =
    let e : 510 ^ p * x ^ q ≡ 0 = ap (λ (y : ℕ). 510 ^ p * y ^ q) z ∙ ap (λ (y : ℕ). 510 ^ p * y) (zero_pow q posq) ∙ mul-zero (510 ^ p) in
    let u : 1 * 1 ≤ 1 ^ p * w ^ q = mul-le-mul (one-le-pow p 1 (omega arith)) (one-le-pow q w wide) in
    level_is p (w ^ q) (510 ^ p * x ^ q) 0 (record { lower = no_lower_side p (w ^ q) (510 ^ p * x ^ q) pos; upper = omega arith }) zero-le

pub red-above-dark : (f v : ℕ) → f < 255 → v ≤ f → red_above f v ≡ 0
unfolding red_above
red-above-dark f v h l = tone_dark 20 23 (255 - f) (v - f) (omega arith) (omega arith) (omega arith) (omega arith)

pub green-above-dark : (f v : ℕ) → f < 255 → v ≤ f → green_above f v ≡ 0
unfolding green_above
green-above-dark f v h l = tone_dark 10 11 (255 - f) (v - f) (omega arith) (omega arith) (omega arith) (omega arith)

-- a colour is a byte
pub level-byte : (p a b : ℕ) → level p a b ≤ 255
level-byte p a b = reached-le p a b 255

-- so is each blue
pub blue_only : (v r g : ℕ) → 0 < v → r ≤ 255 → 0 < g → Only 10 (10 ^ 10 * g) (1224 ^ 10 * r) (blue v r g)
unfolding blue
blue_only v r g lit h pos =
    rw (ne_eqb v 0 (λ e. omega arith)) (level_only 10 (10 ^ 10 * g) (1224 ^ 10 * r) (omega arith) (omega arith))

pub blue-above_only : (r g : ℕ) → r ≤ 255 → Only 10 (10 ^ 10 * (g + 8)) (918 ^ 10 * (r + 8)) (blue_above r g)
unfolding blue_above
blue-above_only r g h = level_only 10 (10 ^ 10 * (g + 8)) (918 ^ 10 * (r + 8)) (omega arith) (omega arith)
