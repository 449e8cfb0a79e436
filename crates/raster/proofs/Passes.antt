-- One turn of a pass, as a law of the definition that its contract cites. Assumes nothing.
use mathlib.Core.Path.{◌≡◌, refl, sym, ap, ◌∙◌}
use mathlib.Core.Bool.{Bool, true, false, ◌||◌, or_assoc, or-false}
use mathlib.Core.List.{List, [], ◌∷◌}
use Prim.Native.Nat.{ℕ, max}
use native.Mathlib.Nat.{max-le, le-max_left, le-max_right}
use native.Mathlib.Omega.{arith}
use borrow.Author.Tests.{lt-ltb, le-ltb, ltb-true, ltb-false}
use lib.Dec.{ltb}
use Rattle.std.specs.List.{fold}
use Rattle.spec.specs.Lists.{any, highest}

-- ---- any

module _ {A : Type 0} (f : A → Bool) where
  pub any_here : (x : A) (xs : List A) → f x ≡ true → any f (x ∷ xs) ≡ true
  unfolding any
  any_here x xs e = rw e

  pub any_not_here : (x : A) (xs : List A) → f x ≡ false → any f (x ∷ xs) ≡ any f xs
  unfolding any
  any_not_here x xs e = rw e

  pub any_none : any f [] ≡ false
  unfolding any
  any_none = refl

-- ---- the greatest

pub fold-highest : (m : ℕ) (xs : List ℕ) → fold max m xs ≡ highest m xs
unfolding highest
fold-highest m [] = refl
fold-highest m (x ∷ xs) = fold-highest (max m x) xs

-- a number above n stands in the list exactly if the greatest is above n
above : (n m x : ℕ) → ltb n (max m x) ≡ (ltb n m || ltb n x)
above n m x = go (ltb n m) (ltb n x) refl refl
  where
    go : (a b : Bool) → ltb n m ≡ a → ltb n x ≡ b → ltb n (max m x) ≡ (a || b)
    go true b p q = lt-ltb n (max m x) (omega (arith, ltb-true n m p, le-max_left m x))
    go false true p q = lt-ltb n (max m x) (omega (arith, ltb-true n x q, le-max_right m x))
    go false false p q = le-ltb n (max m x) (max-le (ltb-false n m p) (ltb-false n x q))

pub any-highest : (n m : ℕ) (xs : List ℕ) → ltb n (highest m xs) ≡ (ltb n m || any (ltb n) xs)
unfolding any highest
any-highest n m [] = sym (or-false (ltb n m))
any-highest n m (x ∷ xs) = any-highest n (max m x) xs ∙ ap (λ (t : Bool). t || any (ltb n) xs) (above n m x) ∙ or_assoc (ltb n m) (ltb n x) (any (ltb n) xs)
