-- A loop that writes f of the elements of two lists, place by place, to a third. Assumes nothing.
use mathlib.Core.Path.{◌≡◌, refl, sym, ap, ◌∙◌}
use mathlib.Core.List.{List, [], ◌∷◌, ◌++◌, zip_with}
use Prim.Native.Nat.{ℕ, zero, suc, ◌+◌, ◌≤◌, ◌<◌}
use native.Mathlib.Nat.{suc_inj, le_of_suc-le-suc, not-suc-le-zero}
use native.Mathlib.Omega.{arith}
use native.Mathlib.Numerals.{add-one}
use lib.ListN.{length, take, drop, set, get_or, length-set}
use lib.Seq.{take-suc, take-suc-set, take_all, length-take-le}

module _ {A B C : Type 0} (f : A → B → C) where
  pub zip_length : (xs : List A) (ys : List B) → length ys ≡ length xs → length (zip_with f xs ys) ≡ length xs
  unfolding zip_with
  zip_length [] ys e = refl
  zip_length (x ∷ xs) [] e = absurd (omega (arith, e))
  zip_length (x ∷ xs) (y ∷ ys) e = ap suc (zip_length xs ys (suc_inj e))

  pub zip-at : (a : A) (b : B) (c : C) (xs : List A) (ys : List B) (k : ℕ) → k < length xs → k < length ys → get_or (zip_with f xs ys) k c ≡ f (get_or xs k a) (get_or ys k b)
  unfolding zip_with
  zip-at a b c [] ys k g h = absurd (not-suc-le-zero g)
  zip-at a b c (x ∷ xs) [] k g h = absurd (not-suc-le-zero h)
  zip-at a b c (x ∷ xs) (y ∷ ys) zero g h = refl
  zip-at a b c (x ∷ xs) (y ∷ ys) (suc k) g h = zip-at a b c xs ys k (le_of_suc-le-suc g) (le_of_suc-le-suc h)

  -- parts of both
  pub zip-take : (n : ℕ) (xs : List A) (ys : List B) → zip_with f (take n xs) (take n ys) ≡ take n (zip_with f xs ys)
  unfolding zip_with
  zip-take zero xs ys = refl
  zip-take (suc n) [] ys = refl
  zip-take (suc n) (x ∷ xs) [] = refl
  zip-take (suc n) (x ∷ xs) (y ∷ ys) = ap (λ (l : List C). f x y ∷ l) (zip-take n xs ys)

  zip-none : (xs : List A) → zip_with f xs [] ≡ []
  unfolding zip_with
  zip-none [] = refl
  zip-none (x ∷ xs) = refl

  pub zip-drop : (n : ℕ) (xs : List A) (ys : List B) → zip_with f (drop n xs) (drop n ys) ≡ drop n (zip_with f xs ys)
  unfolding zip_with
  zip-drop zero xs ys = refl
  zip-drop (suc n) [] ys = refl
  zip-drop (suc n) (x ∷ xs) [] = zip-none (drop n xs)
  zip-drop (suc n) (x ∷ xs) (y ∷ ys) = zip-drop n xs ys

  -- one more element at the end of both
  pub zip_snoc : (xs : List A) (ys : List B) (x : A) (y : B) → length ys ≡ length xs → zip_with f (xs ++ x ∷ []) (ys ++ y ∷ []) ≡ zip_with f xs ys ++ f x y ∷ []
  unfolding zip_with
  zip_snoc [] [] x y e = refl
  zip_snoc [] (v ∷ ys) x y e = absurd (omega (arith, e))
  zip_snoc (u ∷ xs) [] x y e = absurd (omega (arith, e))
  zip_snoc (u ∷ xs) (v ∷ ys) x y e = ap (λ (l : List C). f u v ∷ l) (zip_snoc xs ys x y (suc_inj e))

module _ {A B C : Type 0} (f : A → B → C) (d : A) (d' : B) (xs : List A) (ys : List B) where
  -- the first i of `to` are f of the first i of both lists, and `to` is as long
  abbrev pub Done : List C → ℕ → Type 0
  Done to i = (i ≤ length to) × (length to ≡ length xs) × (take i to ≡ zip_with f (take i xs) (take i ys))

  -- a store at i
  pub step : (to : List C) (i : ℕ) (c : C) → length ys ≡ length xs → i < length to → c ≡ f (get_or xs i d) (get_or ys i d') → Done to i → Done (set to i c) (i + 1)
  step to i c l h v t =
      let j : i < length xs = omega arith in
      let k : i < length ys = omega arith in (
        simp length-set (omega arith),
        length-set to i c ∙ t.1,
        rw (add-one)
            (take-suc-set to i c h ∙ ap (λ (z : List C). z ++ (c ∷ [])) t.2 ∙ ap (λ (z : C). zip_with f (take i xs) (take i ys) ++ (z ∷ [])) v
            ∙ sym (zip_snoc f (take i xs) (take i ys) (get_or xs i d) (get_or ys i d') (length-take-le i ys (omega arith) ∙ sym (length-take-le i xs (omega arith))))
            ∙ sym (ap (λ (z : List A). zip_with f z (take (suc i) ys)) (take-suc xs i d j) ∙ ap (λ (z : List B). zip_with f (take i xs ++ (get_or xs i d ∷ [])) z) (take-suc ys i d' k))),
      )

  pub finish : (to : List C) (i : ℕ) → length ys ≡ length xs → Done to i → length to ≤ i → to ≡ zip_with f xs ys
  finish to i l h k =
      sym (take_all i to k) ∙ h.2 ∙ ap (λ (z : List A). zip_with f z (take i ys)) (take_all i xs (omega arith)) ∙ ap (zip_with f xs) (take_all i ys (omega arith))
