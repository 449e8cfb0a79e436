-- The whole-number root, by its squares, and the digits that the program takes. Assumes nothing.
use Rattle.std.proofs.Common.{◌≡◌, ℕ, zero, suc, ◌+◌, ◌*◌, ◌/◌, ◌%◌, ◌^◌, ◌<◌, ◌≤◌, Bool, true, false, cond, not, T, leb, sym, ap, ◌∙◌, subst, le_trans, le_of_eq, lt_of_lt_of_le, lt_of_le_of_lt, mul_assoc, add-mul, mul-le-mul, le_antisymm, pow-suc, lt_of_not-le, mul-add, not-le_of_lt, add-one, arith, leb→le, pow_mono}
use lib.Dec.{nleb→lt}
use Rattle.spec.specs.Root.{whole_root}

-- ---- squares
pub square_le : (a b : ℕ) → a ≤ b → a * a ≤ b * b
square_le a b h = mul-le-mul h h

-- what the squares of r and r + 1 enclose
pub record Floor (n r : ℕ) : Type 0 where
  pub under : r * r ≤ n
  pub over : n < (r + 1) * (r + 1)

floor-le : (n a b : ℕ) → Floor n a → Floor n b → a ≤ b
floor-le n a b p q = le_of_succ (lt_of_not-le (λ (g : b + 1 ≤ a). not-le_of_lt q.over (le_trans (square_le (b + 1) a g) p.under)))
  where
    le_of_succ : a < b + 1 → a ≤ b
    le_of_succ h = omega arith

floor_unique : (n a b : ℕ) → Floor n a → Floor n b → a ≡ b
floor_unique n a b p q = le_antisymm (floor-le n a b p q) (floor-le n b a q p)

-- ---- `whole_root` is the whole part of the root
pub whole_root-floor : (n k r : ℕ) → r * r ≤ n → n < (r + 2 ^ k) * (r + 2 ^ k) → Floor n (whole_root n k r)
unfolding whole_root
whole_root-floor n zero r h g = record { under = h; over = g }
whole_root-floor n (suc k) r h g =
    go (leb ((r + 2 ^ k) * (r + 2 ^ k)) n) (leb→le ((r + 2 ^ k) * (r + 2 ^ k)) n) (nleb→lt ((r + 2 ^ k) * (r + 2 ^ k)) n)
    (λ (p : (r + 2 ^ k) * (r + 2 ^ k) ≤ n). whole_root-floor n k (r + 2 ^ k) p (subst (λ (z : ℕ). n < z * z) twice g)) (whole_root-floor n k r h)
  where
    twice : r + 2 ^ suc k ≡ r + 2 ^ k + 2 ^ k
    twice = omega (arith, pow-suc 2 k)

    go : (b : Bool) → (T b → (r + 2 ^ k) * (r + 2 ^ k) ≤ n) → (T (not b) → n < (r + 2 ^ k) * (r + 2 ^ k))
        → ((r + 2 ^ k) * (r + 2 ^ k) ≤ n → Floor n (whole_root n k (r + 2 ^ k))) → (n < (r + 2 ^ k) * (r + 2 ^ k) → Floor n (whole_root n k r))
        → Floor n (whole_root n k (cond b (r + 2 ^ k) r))
    go true p q set clear = set (p tt)
    go false p q set clear = clear (q tt)

-- ---- the loop: after i digits of the root, the number's 2 * i leading digits are the square and the rest
pub record Under (top root rest left i : ℕ) : Type 0 where
  pub steps : i ≤ 54
  pub is : top * 4 ^ i ≡ (root * root + rest) * 2 ^ 54 + left
  pub few : root < 2 ^ i
  pub within : rest ≤ root * 2
  pub left_lt : left < 2 ^ 54

pub start : (top : ℕ) → top < 2 ^ 54 → Under top 0 0 top 0
start top h = record { steps = omega arith; is = omega arith; few = omega arith; within = omega arith; left_lt = h }

pub root_lt : {top root rest left i : ℕ} → Under top root rest left i → root < 2 ^ 54
root_lt u = lt_of_lt_of_le u.few (pow_mono u.steps)

pub step : (top root rest left i root' rest' left' : ℕ) → Under top root rest left i → i < 54
    → root' * root' + rest' ≡ (root * root + rest) * 4 + left / 2 ^ 52 → rest' ≤ root' * 2 → left' ≡ left % 2 ^ 52 * 4 → root' ≤ root * 2 + 1
    → Under top root' rest' left' (i + 1)
step top root rest left i root' rest' left' u h e w d b =
    record {
      steps = omega arith;
      is = more (root * root + rest) (root' * root' + rest') u.is e;
      few = lt_of_lt_of_le (omega (arith, u.few, b)) (le_of_eq (sym (ap (λ (z : ℕ). 2 ^ z) (add-one i) ∙ pow-suc 2 i)));
      within = w;
      left_lt = omega arith;
    }
  where
    shift : top * 4 ^ (i + 1) ≡ top * 4 ^ i * 4
    shift = ap (λ (z : ℕ). top * 4 ^ z) (add-one i) ∙ ap (λ (z : ℕ). top * z) (pow-suc 4 i) ∙ sym (mul_assoc top (4 ^ i) 4)

    more : (S S' : ℕ) → top * 4 ^ i ≡ S * 2 ^ 54 + left → S' ≡ S * 4 + left / 2 ^ 52 → top * 4 ^ (i + 1) ≡ S' * 2 ^ 54 + left'
    more S S' h e = omega (arith, h, e, d, shift)

pub done : (top root rest left : ℕ) → top < 2 ^ 54 → Under top root rest left 54 → root ≡ whole_root (top * 2 ^ 54) 54 0
done top root rest left h u =
    let X : top * 2 ^ 54 ≡ root * root + rest = whole (root * root + rest) u.is in
    floor_unique (top * 2 ^ 54) root (whole_root (top * 2 ^ 54) 54 0)
    (record { under = omega (arith, X); over = lt_of_le_of_lt (le_of_eq X) (next root rest u.within) })
    (whole_root-floor (top * 2 ^ 54) 54 0 (omega arith) (omega arith))
  where
    whole : (S : ℕ) → top * 4 ^ 54 ≡ S * 2 ^ 54 + left → top * 2 ^ 54 ≡ S
    whole S e = omega (arith, u.left_lt)

    next : (r t : ℕ) → t ≤ r * 2 → r * r + t < (r + 1) * (r + 1)
    next r t h = simp (add-mul, mul-add) (omega arith)
