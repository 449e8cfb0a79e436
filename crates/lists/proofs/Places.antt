-- A function of every place 0 .. n - 1: its length and its elements; the row and the column of a place. Assumes nothing.
use mathlib.Core.Path.{◌≡◌, refl, sym, ap, ◌∙◌}
use mathlib.Core.List.{List, [], ◌∷◌, map}
use Prim.Native.Nat.{ℕ, zero, suc, ◌+◌, ◌*◌, ◌/◌, ◌%◌, ◌<◌}
use native.Mathlib.Nat.{add-zero, zero-add, add-suc, suc-add, le_of_suc-le-suc, not-suc-le-zero, add-mul, one-mul, mul-add-div_right, mul-add-mod_self_right, div-eq_of_lt, mod-eq_of_lt}
use native.Mathlib.Omega.{arith}
use lib.ListN.{length, get_or, length-map, get_or-map}
use lib.Seq.{ext_get_or}
use Rattle.spec.specs.Lists.{places_from, places}

pub from-length : (i n : ℕ) → length (places_from i n) ≡ n
unfolding places_from
from-length i zero = refl
from-length i (suc n) = ap suc (from-length (suc i) n)

module _ {A : Type 0} (f : ℕ → A) (d : A) where
  from_at : (i n k : ℕ) → k < n → get_or (map f (places_from i n)) k d ≡ f (i + k)
  unfolding places_from
  from_at i zero k h = absurd (not-suc-le-zero h)
  from_at i (suc n) zero h = ap f (sym (add-zero i))
  from_at i (suc n) (suc k) h = from_at (suc i) n k (le_of_suc-le-suc h) ∙ ap f (suc-add i k ∙ sym (add-suc i k))

  pub places-length : (n : ℕ) → length (map f (places n)) ≡ n
  places-length n = length-map (places n) f ∙ from-length 0 n

  pub places-at : (n k : ℕ) → k < n → get_or (map f (places n)) k d ≡ f k
  places-at n k h = from_at 0 n k h ∙ ap f (zero-add k)

  -- a list of n elements, each known, is the map over the places
  pub from_places : (n : ℕ) (ys : List A) → length ys ≡ n → ((k : ℕ) → k < n → get_or ys k d ≡ f k) → ys ≡ map f (places n)
  from_places n ys e all =
      ext_get_or d ys (map f (places n)) (e ∙ sym (places-length n)) (λ k h. let g : k < n = omega arith in all k g ∙ sym (places-at n k g))

pub place_at : (n k : ℕ) → k < n → get_or (places n) k 0 ≡ k
place_at n k h = sym (get_or-map (λ i. i) (places n) k 0) ∙ places-at (λ i. i) 0 n k h

-- an element of a map
pub map_at : {A B : Type 0} (f : A → B) (a : A) (b : B) (xs : List A) (k : ℕ) → k < length xs → get_or (map f xs) k b ≡ f (get_or xs k a)
map_at f a b [] k h = absurd (not-suc-le-zero h)
map_at f a b (x ∷ xs) zero h = refl
map_at f a b (x ∷ xs) (suc k) h = map_at f a b xs k (le_of_suc-le-suc h)

-- ---- the row and the column of a place

pub next_times : (k n : ℕ) → (k + 1) * n ≡ k * n + n
next_times k n = add-mul k 1 n ∙ ap (λ (m : ℕ). k * n + m) (one-mul n)

pub row_of : (r c cols : ℕ) → c < cols → (r * cols + c) / cols ≡ r
row_of r c cols h = mul-add-div_right {m = cols} (omega arith) r c ∙ ap (λ (n : ℕ). r + n) (div-eq_of_lt {n = c} {m = cols} h) ∙ add-zero r

pub column_of_lem : (r c cols : ℕ) → c < cols → (r * cols + c) % cols ≡ c
column_of_lem r c cols h = mul-add-mod_self_right r cols c ∙ mod-eq_of_lt {n = c} {m = cols} h
