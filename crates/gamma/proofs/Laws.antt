-- A gamma's value: which byte it is, its order, and that it does not see a zero's sign. Assumes nothing.
use mathlib.Core.Path.{◌≡◌, refl, sym, ap, ◌∙◌, subst}
use mathlib.Core.Bool.{Bool, true, false, cond}
use Prim.Native.Nat.{ℕ, zero, suc, ◌+◌, ◌*◌, ◌≤◌, ◌<◌, zero-le}
use native.Mathlib.Nat.{le_refl, lt_of_not-le}
use native.Mathlib.Decide.{dec_le}
use native.Mathlib.Omega.{arith}
use lib.Dec.{T, not_T, leb→le, le→leb}
use lib.Ieee.{Float, nan, inf, fin, binary64, up, down, le, lt, eq, div}
use lib.IntN.{pos}
use lib.Ieee.Bits.{is_true, is_false}
use lib.Ieee.Fits.{down_pos}
use Rattle.spec.specs.Number.{Alike, same, zeros}
use Rattle.spec.specs.Gamma.{reaches_byte, largest, gamma_value, over, under}
use Rattle.numeric.proofs.Order.{le→cross}
use Rattle.gamma.proofs.Powers.{raises, lowers}

pub holds : {b : Bool} → b ≡ true → T b
holds e = subst T (sym e) tt

T_not_false : {b : Bool} → b ≡ false → T b → ⊥
T_not_false e t = subst T e t

-- ---- the largest number with a property
largest-le : (f : ℕ → Bool) (n : ℕ) → largest f n ≤ n
unfolding largest
largest-le f zero = zero-le
largest-le f (suc n) = pick (f (suc n)) (largest-le f n)
  where
    pick : (b : Bool) → largest f n ≤ n → cond b (suc n) (largest f n) ≤ suc n
    pick true h = le_refl (suc n)
    pick false h = omega arith

pub largest_is : (f : ℕ → Bool) (n r : ℕ) → r ≤ n → (0 < r → f r ≡ true) → ((j : ℕ) → r < j → j ≤ n → f j ≡ false) → largest f n ≡ r
unfolding largest
largest_is f zero r h y z = omega arith
largest_is f (suc n) r h y z = elim (dec_le r n) [
  | yes l ↦ ap (λ (b : Bool). cond b (suc n) (largest f n)) (z (suc n) (omega arith) (le_refl (suc n))) ∙ largest_is f n r l y (λ j a b. z j a (omega arith))
  | no l ↦ let m : n < r = lt_of_not-le l in let e : r ≡ suc n = omega arith in
      ap (λ (b : Bool). cond b (suc n) (largest f n)) (ap f (sym e) ∙ y (omega arith)) ∙ sym e
]

largest_rises : (f g : ℕ → Bool) → ((k : ℕ) → T (f k) → T (g k)) → (n : ℕ) → largest f n ≤ largest g n
unfolding largest
largest_rises f g h zero = zero-le
largest_rises f g h (suc n) = pick (f (suc n)) (g (suc n)) (h (suc n)) (largest_rises f g h n)
  where
    pick : (a b : Bool) → (T a → T b) → largest f n ≤ largest g n → cond a (suc n) (largest f n) ≤ cond b (suc n) (largest g n)
    pick true true i l = le_refl (suc n)
    pick true false i l = absurd (i tt)
    pick false true i l = let m = largest-le f n in omega arith
    pick false false i l = l

-- ---- what reaches k reaches less
reaches_byte_less : (p q : ℕ) (t : Float) (j k : ℕ) → j ≤ k → T (reaches_byte p q t k) → T (reaches_byte p q t j)
unfolding reaches_byte
reaches_byte_less p q nan j k h r = absurd r
reaches_byte_less p q (inf s) j k h r = r
reaches_byte_less p q (fin s m e) j k h r = le→leb _ _ (lowers p q j k (cond s 0 (m * up e)) (down e) h (leb→le _ _ r))

pub value_is : (p q : ℕ) (t : Float) (r : ℕ) → r ≤ 255 → (0 < r → T (reaches_byte p q t r)) → (r < 255 → reaches_byte p q t (suc r) ≡ false) → gamma_value p q t ≡ r
unfolding gamma_value
value_is p q t r h y z = largest_is (reaches_byte p q t) 255 r h (λ l. is_true _ (y l)) above
  where
    above : (j : ℕ) → r < j → j ≤ 255 → reaches_byte p q t j ≡ false
    above j l b = is_false (reaches_byte p q t j) (not_T (reaches_byte p q t j) (λ (u : T (reaches_byte p q t j)). T_not_false (z (omega arith)) (reaches_byte_less p q t (suc r) j l u)))

-- ---- order
reaches_byte_rises : (p q : ℕ) (t u : Float) (k : ℕ) → T (le t u) → T (reaches_byte p q t k) → T (reaches_byte p q u k)
unfolding reaches_byte le lt eq
reaches_byte_rises p q nan u k h r = absurd r
reaches_byte_rises p q (inf true) u k h r = absurd r
reaches_byte_rises p q (inf false) nan k h r = absurd h
reaches_byte_rises p q (inf false) (inf true) k h r = absurd h
reaches_byte_rises p q (inf false) (inf false) k h r = tt
reaches_byte_rises p q (inf false) (fin s m e) k h r = absurd h
reaches_byte_rises p q (fin s m e) nan k h r = absurd h
reaches_byte_rises p q (fin s m e) (inf true) k h r = absurd h
reaches_byte_rises p q (fin s m e) (inf false) k h r = tt
reaches_byte_rises p q (fin s m e) (fin t n d) k h r =
    le→leb _ _ (raises p q k (cond s 0 (m * up e)) (down e) (cond t 0 (n * up d)) (down d) (down_pos e) (go s t (le→cross (fin s m e) (fin t n d) tt tt h)) (leb→le _ _ r))
  where
    go : (s t : Bool) → cond s 0 (m * up e) * down d + cond t (n * up d) 0 * down e ≤ cond t 0 (n * up d) * down e + cond s (m * up e) 0 * down d → cond s 0 (m * up e) * down d ≤ cond t 0 (n * up d) * down e
    go true t c = omega arith
    go false true c = omega arith
    go false false c = omega arith

pub gamma_rises : (p q : ℕ) (t u : Float) → T (le t u) → gamma_value p q t ≤ gamma_value p q u
unfolding gamma_value
gamma_rises p q t u h = largest_rises (reaches_byte p q t) (reaches_byte p q u) (λ k r. reaches_byte_rises p q t u k h r) 255

pub gamma_byte : (p q : ℕ) (t : Float) → gamma_value p q t ≤ 255
unfolding gamma_value
gamma_byte p q t = largest-le (reaches_byte p q t) 255

-- ---- the signs of zeros
pub gamma_alike : (p q : ℕ) {t u : Float} → Alike t u → gamma_value p q t ≡ gamma_value p q u
unfolding gamma_value reaches_byte
gamma_alike p q same = refl
gamma_alike p q (zeros s t) = nought s ∙ sym (nought t)
  where
    nought : (s : Bool) → gamma_value p q (fin s 0 (pos 0)) ≡ gamma_value p q (fin true 0 (pos 0))
    nought true = refl
    nought false = refl

-- ---- under an infinite range every value is 0
gamma_nan : (p q : ℕ) → gamma_value p q nan ≡ 0
unfolding gamma_value reaches_byte largest
gamma_nan p q = refl

pub gamma_zero : (g : ℕ) → gamma_value (over g) (under g) (fin true 0 (pos 0)) ≡ 0
unfolding gamma_value reaches_byte largest
gamma_zero zero = refl
gamma_zero (suc zero) = refl
gamma_zero (suc (suc g)) = refl

pub gamma_top : (g : ℕ) (x : Float) → gamma_value (over g) (under g) (div binary64 x (inf false)) ≡ 0
unfolding div
gamma_top g nan = gamma_nan (over g) (under g)
gamma_top g (inf s) = gamma_nan (over g) (under g)
gamma_top g (fin true m e) = gamma_zero g
gamma_top g (fin false m e) = gamma_alike (over g) (under g) (zeros false true) ∙ gamma_zero g
