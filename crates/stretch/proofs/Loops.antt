-- The ends of a list, a turn at a time, and two maps that agree on a list's elements. Assumes nothing.
use mathlib.Core.Path.{◌≡◌, refl, sym, ap, ◌∙◌}
use mathlib.Core.List.{List, [], ◌∷◌, map, map-id}
use Prim.Native.Nat.{ℕ, zero, suc, ◌+◌, ◌≤◌, ◌<◌, min, max, suc-le-suc, zero-le}
use native.Mathlib.Nat.{le_trans, le_of_suc-le-suc, not-suc-le-zero}
use native.Mathlib.Omega.{arith}
use native.Mathlib.Numerals.{add-one}
use lib.ListN.{length, drop, get_or}
use lib.Seq.{drop-cons}
use Rattle.spec.specs.Lists.{lowest, highest}

pub lowest_more : (m w : ℕ) (xs : List ℕ) (i : ℕ) → i < length xs → lowest m (drop i xs) ≡ w → lowest (min m (get_or xs i 0)) (drop (i + 1) xs) ≡ w
unfolding lowest
lowest_more m w xs i h e = rw (add-one) (sym (ap (lowest m) (drop-cons xs i 0 h)) ∙ e)

pub highest_more : (m w : ℕ) (xs : List ℕ) (i : ℕ) → i < length xs → highest m (drop i xs) ≡ w → highest (max m (get_or xs i 0)) (drop (i + 1) xs) ≡ w
unfolding highest
highest_more m w xs i h e = rw (add-one) (sym (ap (highest m) (drop-cons xs i 0 h)) ∙ e)

-- a list whose values are their own levels
pub of_levels : {lo hi : ℕ} (xs : List ℕ) → (lo ≡ lowest 65535 (map (λ x. x) xs)) × (hi ≡ highest 0 (map (λ x. x) xs)) → (lo ≡ lowest 65535 xs) × (hi ≡ highest 0 xs)
of_levels xs e = (e.0 ∙ ap (lowest 65535) (map-id xs), e.1 ∙ ap (highest 0) (map-id xs))

start_under : (m : ℕ) (xs : List ℕ) → m ≤ highest m xs
unfolding highest
start_under m [] = omega arith
start_under m (x ∷ xs) = (let e : m ≤ max m x = omega arith in le_trans e (start_under (max m x) xs))

-- no element is above the greatest
pub under-highest : (m : ℕ) (xs : List ℕ) (k : ℕ) → k < length xs → get_or xs k 0 ≤ highest m xs
unfolding highest
under-highest m [] k h = absurd (not-suc-le-zero h)
under-highest m (x ∷ xs) zero h = (let e : x ≤ max m x = omega arith in le_trans e (start_under (max m x) xs))
under-highest m (x ∷ xs) (suc k) h = under-highest (max m x) xs k (le_of_suc-le-suc h)

pub map_agree : {A B : Type 0} (f g : A → B) (d : A) (xs : List A) → ((k : ℕ) → k < length xs → f (get_or xs k d) ≡ g (get_or xs k d)) → map f xs ≡ map g xs
map_agree f g d [] h = refl
map_agree {B = B} f g d (x ∷ xs) h =
    ap (λ (y : B). y ∷ map f xs) (h 0 (suc-le-suc zero-le)) ∙ ap (λ (l : List B). g x ∷ l) (map_agree f g d xs (λ k l. h (suc k) (suc-le-suc l)))
