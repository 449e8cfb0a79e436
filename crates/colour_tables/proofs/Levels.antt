-- A byte with the power rule is the one that `level` counts, and the only one; a larger power has no smaller level. Assumes nothing.
use mathlib.Core.Path.{◌≡◌, refl, sym, subst, ap, ◌∙◌}
use mathlib.Core.Bool.{Bool, true, false, cond}
use Prim.Native.Nat.{ℕ, zero, suc, ◌+◌, ◌*◌, ◌-◌, ◌^◌, ◌≤◌, ◌<◌, zero-le}
use native.Mathlib.Nat.{le_trans, le_of_eq, add-le-add, lt_of_lt_of_le, lt_of_not-le, not-le_of_lt, not-suc-le-zero, pow-suc, mul-zero, zero-mul, pow-le-pow_left, mul-le-mul_right}
use native.Mathlib.Omega.{arith}
use native.Mathlib.Decide.{dec_le}
use borrow.Author.Tests.{le-leb, lt-leb}
use lib.Dec.{leb}
use Rattle.spec.specs.Colour.{Rounds, reached, level}
use Rattle.colour_tables.specs.Colours.{Only}

module _ (p a b r : ℕ) (h : Rounds p a b r) where
  -- below r every half step is reached, from r on none is
  below : (k : ℕ) → k < r → leb ((2 * k + 1) ^ p * a) b ≡ true
  below k l = le-leb _ _ (le_trans (mul-le-mul_right a (pow-le-pow_left {n = 2 * k + 1} {m = 2 * r - 1} (omega arith) p)) h.lower)

  above : (k : ℕ) → r ≤ k → leb ((2 * k + 1) ^ p * a) b ≡ false
  above k l = lt-leb _ _ (lt_of_lt_of_le h.upper (mul-le-mul_right a (pow-le-pow_left {n = 2 * r + 1} {m = 2 * k + 1} (omega arith) p)))

  all : (n : ℕ) → n ≤ r → reached p a b n ≡ n
  unfolding reached
  all zero l = refl
  all (suc n) l = ap (λ (t : Bool). cond t 1 0 + reached p a b n) (below n l) ∙ ap (λ (m : ℕ). 1 + m) (all n (omega arith)) ∙ omega arith

  more : (j n : ℕ) → n ≡ j + r → reached p a b n ≡ r
  unfolding reached
  more zero n e = all n (omega arith) ∙ omega arith
  more (suc j) zero e = absurd (omega arith)
  more (suc j) (suc n) e = ap (λ (t : Bool). cond t 1 0 + reached p a b n) (above n (omega arith)) ∙ ap (λ (m : ℕ). 0 + m) (more j n (omega arith)) ∙ omega arith

  -- the byte with the rule is the level
  pub level_is : r ≤ 255 → level p a b ≡ r
  level_is l = more (255 - r) 255 (omega arith)

-- a colour is a byte
pub reached-le : (p a b n : ℕ) → reached p a b n ≤ n
unfolding reached
reached-le p a b zero = zero-le
reached-le p a b (suc n) = one (leb ((2 * n + 1) ^ p * a) b) (reached-le p a b n)
  where
    one : (t : Bool) → reached p a b n ≤ n → cond t 1 0 + reached p a b n ≤ suc n
    one true l = omega arith
    one false l = omega arith

-- a larger power reaches no fewer half steps: the tables are in order
pub reached_mono : (p a b b' n : ℕ) → b ≤ b' → reached p a b n ≤ reached p a b' n
unfolding reached
reached_mono p a b b' zero l = zero-le
reached_mono p a b b' (suc n) l = add-le-add (step (dec_le ((2 * n + 1) ^ p * a) b)) (reached_mono p a b b' n l)
  where
    step : Dec ((2 * n + 1) ^ p * a ≤ b) → cond (leb ((2 * n + 1) ^ p * a) b) 1 0 ≤ cond (leb ((2 * n + 1) ^ p * a) b') 1 0
    step (yes e) = le_of_eq (ap (λ (t : Bool). cond t 1 0) (le-leb _ _ e ∙ sym (le-leb _ _ (le_trans e l))))
    step (no e) = le_trans (le_of_eq (ap (λ (t : Bool). cond t 1 0) (lt-leb _ _ (lt_of_not-le e)))) zero-le

-- ---- the level has the rule

-- all half steps up to the last are reached if that one is
reached_all : (p a b n : ℕ) → (2 * n - 1) ^ p * a ≤ b → reached p a b n ≡ n
unfolding reached
reached_all p a b zero h = refl
reached_all p a b (suc n) h =
    let e : 2 * suc n - 1 ≡ 2 * n + 1 = omega arith in
    let g : (2 * n + 1) ^ p * a ≤ b = subst (λ (k : ℕ). k ^ p * a ≤ b) e h in
    ap (λ (t : Bool). cond t 1 0 + reached p a b n) (le-leb _ _ g)
    ∙ ap (λ (m : ℕ). 1 + m) (reached_all p a b n (le_trans (mul-le-mul_right a (pow-le-pow_left {n = 2 * n - 1} {m = 2 * n + 1} (omega arith) p)) g)) ∙ omega arith

pub zero_pow : (p : ℕ) → 0 < p → 0 ^ p ≡ 0
zero_pow zero h = absurd (not-suc-le-zero h)
zero_pow (suc p) h = pow-suc 0 p ∙ mul-zero (0 ^ p)

-- "At value 0 the lower side is dropped"
pub no_lower_side : (p a b : ℕ) → 0 < p → 0 ^ p * a ≤ b
no_lower_side p a b h = le_trans (le_of_eq (ap (λ (m : ℕ). m * a) (zero_pow p h) ∙ zero-mul a)) zero-le

reached-rounds : (p a b : ℕ) → 0 < p → (n : ℕ) → b < (2 * n + 1) ^ p * a → Rounds p a b (reached p a b n)
unfolding reached
reached-rounds p a b pos zero h = record { lower = no_lower_side p a b pos; upper = h }
reached-rounds p a b pos (suc n) h = step (dec_le ((2 * n + 1) ^ p * a) b) (reached-rounds p a b pos n)
  where
    step : Dec ((2 * n + 1) ^ p * a ≤ b) → (b < (2 * n + 1) ^ p * a → Rounds p a b (reached p a b n)) → Rounds p a b (cond (leb ((2 * n + 1) ^ p * a) b) 1 0 + reached p a b n)
    step (yes e) before =
        let g : (2 * suc n - 1) ^ p * a ≤ b = subst (λ (k : ℕ). k ^ p * a ≤ b) (omega arith) e in
        subst (Rounds p a b) (sym (reached_all p a b (suc n) g)) (record { lower = g; upper = h })
    step (no e) before =
        let u : b < (2 * n + 1) ^ p * a = lt_of_not-le e in
        let s : reached p a b n ≡ cond (leb ((2 * n + 1) ^ p * a) b) 1 0 + reached p a b n =
        omega arith ∙ sym (ap (λ (t : Bool). cond t 1 0 + reached p a b n) (lt-leb _ _ u)) in
        subst (Rounds p a b) s (before u)

-- the level is a byte, has the rule, and no other number has it
pub level_only : (p a b : ℕ) → 0 < p → b < 511 ^ p * a → Only p a b (level p a b)
level_only p a b pos h = record { byte = reached-le p a b 255; rounds = reached-rounds p a b pos 255 h; alone = λ s g. sym (level_is p a b s g (bounded s g)) }
  where
    bounded : (s : ℕ) → Rounds p a b s → s ≤ 255
    bounded s g =
        let l : s < 256 = lt_of_not-le (λ (l : 256 ≤ s). not-le_of_lt h (le_trans (mul-le-mul_right a (pow-le-pow_left {n = 511} {m = 2 * s - 1} (omega arith) p)) g.lower)) in
        omega arith
