-- "the least and greatest are the first met": of a reordered list they are the same numbers. Assumes nothing.
use mathlib.Core.Path.{◌≡◌, refl, sym, ap, ◌∙◌, subst}
use mathlib.Core.Logic.{◌⊎◌, inl, inr}
use mathlib.Core.Bool.{Bool, true, false, cond, ◌||◌}
use mathlib.Core.List.Permᴰ
use mathlib.Core.List.{List, [], ◌∷◌, Permᴰ}
use native.Mathlib.Omega.{arith}
use borrow.Author.Tests.{ne_eqb}
use lib.Dec.{T}
use lib.Ieee.{Float, binary64, lt, le, fits}
use Rattle.spec.specs.Number.{Alike}
use Rattle.types.specs.declared.Moments.{Moments}
use Rattle.spec.specs.Moments.{with_value, moments_from}
use Rattle.numeric.proofs.Facts.{holds, fails}
use Rattle.numeric.proofs.Order.{Number, le_refl, le_trans, le_of_lt, le_of_not_lt}
use Rattle.numeric.proofs.Ends.{le_antisym}

-- ---- first met: the one kept of a list

-- what holds of each
abbrev pub Each : (Float → Type 0) → List Float → Type 0
Each P [] = Unit
Each P (v ∷ vs) = P v × Each P vs

abbrev Among : Float → List Float → Type 0
Among r [] = ⊥
Among r (v ∷ vs) = (r ≡ v) ⊎ Among r vs

each_perm : (P : Float → Type 0) {xs ys : List Float} → Permᴰ xs ys → Each P xs → Each P ys
each_perm P Permᴰ.nil h = h
each_perm P (Permᴰ.cons e p) h = (subst P e h.0, each_perm P p h.1)
each_perm P (Permᴰ.swap e f) h = (subst P f h.1.0, (subst P e h.0, h.1.1))
each_perm P (Permᴰ.trans p q) h = each_perm P q (each_perm P p h)

each_among : (P : Float → Type 0) (r : Float) (xs : List Float) → Among r xs → Each P xs → P r
each_among P r [] a h = absurd a
each_among P r (x ∷ xs) (inl e) h = subst P (sym e) h.0
each_among P r (x ∷ xs) (inr a) h = each_among P r xs a h.1

-- a strict test and an order that go together
module _ (before : Float → Float → Bool) (up_to : Float → Float → Type 0)
    (taken : (v m : Float) → before v m ≡ true → up_to v m) (left : (v m : Float) → Number v → Number m → before v m ≡ false → up_to m v)
    (self : (v : Float) → Number v → up_to v v) (chain : (u v w : Float) → up_to u v → up_to v w → up_to u w) where
  kept : Float → List Float → Float
  kept m [] = m
  kept m (v ∷ vs) = kept (cond (before v m) v m) vs

  kept_among : (m : Float) (vs : List Float) → Among (kept m vs) (m ∷ vs)
  unfolding kept
  kept_among m [] = inl refl
  kept_among m (v ∷ vs) = which (before v m) (kept_among (cond (before v m) v m) vs)
    where
      which : (t : Bool) → Among (kept (cond t v m) vs) (cond t v m ∷ vs) → Among (kept (cond t v m) vs) (m ∷ v ∷ vs)
      which true (inl e) = inr (inl e)
      which true (inr a) = inr (inr a)
      which false (inl e) = inl e
      which false (inr a) = inr (inr a)

  kept-first : (m : Float) (vs : List Float) → Number m → Each Number vs → up_to (kept m vs) m × Each (up_to (kept m vs)) vs
  unfolding kept
  kept-first m [] n h = (self m n, tt)
  kept-first m (v ∷ vs) n h = which (before v m) refl (kept-first (cond (before v m) v m) vs (number (before v m)) h.1)
    where
      number : (t : Bool) → Number (cond t v m)
      number true = h.0
      number false = n

      which : (t : Bool) → before v m ≡ t → up_to (kept (cond t v m) vs) (cond t v m) × Each (up_to (kept (cond t v m) vs)) vs →
          up_to (kept (cond t v m) vs) m × Each (up_to (kept (cond t v m) vs)) (v ∷ vs)
      which true e ih = (chain _ _ _ ih.0 (taken v m e), (ih.0, ih.1))
      which false e ih = (ih.0, (chain _ _ _ ih.0 (left v m h.0 n e), ih.1))

  kept_perm : (v : Float) (vs : List Float) (w : Float) (ws : List Float) → Permᴰ (v ∷ vs) (w ∷ ws) → Each Number (v ∷ vs) → up_to (kept v vs) (kept w ws)
  kept_perm v vs w ws p h =
      each_among (up_to (kept v vs)) (kept w ws) (w ∷ ws) (kept_among w ws) (each_perm (up_to (kept v vs)) p (kept-first v vs h.0 h.1))

-- ---- the least and the greatest of pass one

pub least_of : Float → List Float → Float
least_of = kept lt (λ x y. T (le x y)) (λ v m e. le_of_lt v m (holds e)) (λ v m a b e. le_of_not_lt v m a b (fails e)) le_refl le_trans

pub greatest_of : Float → List Float → Float
greatest_of = kept (λ v m. lt m v) (λ x y. T (le y x)) (λ v m e. le_of_lt m v (holds e)) (λ v m a b e. le_of_not_lt m v b a (fails e)) le_refl (λ u v w p q. le_trans w v u q p)

least_perm : (v : Float) (vs : List Float) (w : Float) (ws : List Float) → Permᴰ (v ∷ vs) (w ∷ ws) → Each Number (v ∷ vs) → T (le (least_of v vs) (least_of w ws))
unfolding least_of
least_perm = kept_perm lt (λ x y. T (le x y)) (λ v m e. le_of_lt v m (holds e)) (λ v m a b e. le_of_not_lt v m a b (fails e)) le_refl le_trans

greatest_perm : (v : Float) (vs : List Float) (w : Float) (ws : List Float) → Permᴰ (v ∷ vs) (w ∷ ws) → Each Number (v ∷ vs) → T (le (greatest_of w ws) (greatest_of v vs))
unfolding greatest_of
greatest_perm = kept_perm (λ v m. lt m v) (λ x y. T (le y x)) (λ v m e. le_of_lt m v (holds e)) (λ v m a b e. le_of_not_lt m v b a (fails e)) le_refl (λ u v w p q. le_trans w v u q p)

least_among : (v : Float) (vs : List Float) → Among (least_of v vs) (v ∷ vs)
unfolding least_of
least_among = kept_among lt (λ x y. T (le x y)) (λ v m e. le_of_lt v m (holds e)) (λ v m a b e. le_of_not_lt v m a b (fails e)) le_refl le_trans

greatest_among : (v : Float) (vs : List Float) → Among (greatest_of v vs) (v ∷ vs)
unfolding greatest_of
greatest_among = kept_among (λ v m. lt m v) (λ x y. T (le y x)) (λ v m e. le_of_lt m v (holds e)) (λ v m a b e. le_of_not_lt m v b a (fails e)) le_refl (λ u v w p q. le_trans w v u q p)

pub moments_least : (s : Moments) (vs : List Float) → (s.count ≡ 0 → ⊥) → (moments_from s vs).min_db ≡ least_of s.min_db vs
unfolding moments_from with_value least_of kept
moments_least s [] n = refl
moments_least s (v ∷ vs) n =
    moments_least (with_value s v) vs (λ e. omega (arith, e))
    ∙ ap (λ (t : Bool). least_of (cond (t || lt v s.min_db) v s.min_db) vs) (ne_eqb s.count 0 n)

pub moments_greatest : (s : Moments) (vs : List Float) → (s.count ≡ 0 → ⊥) → (moments_from s vs).max_db ≡ greatest_of s.max_db vs
unfolding moments_from with_value greatest_of kept
moments_greatest s [] n = refl
moments_greatest s (v ∷ vs) n =
    moments_greatest (with_value s v) vs (λ e. omega (arith, e))
    ∙ ap (λ (t : Bool). greatest_of (cond (t || lt s.max_db v) v s.max_db) vs) (ne_eqb s.count 0 n)

abbrev pub Fits : Float → Type 0
Fits v = T (fits binary64 v)

module _ (v : Float) (vs : List Float) (w : Float) (ws : List Float) (p : Permᴰ (v ∷ vs) (w ∷ ws)) (a : Each Number (v ∷ vs)) (b : Each Fits (v ∷ vs)) where
  back : Permᴰ (w ∷ ws) (v ∷ vs)
  back = Permᴰ.symm p

  a' : Each Number (w ∷ ws)
  a' = each_perm Number p a

  b' : Each Fits (w ∷ ws)
  b' = each_perm Fits p b

  pub least_alike : Alike (least_of v vs) (least_of w ws)
  least_alike =
      le_antisym binary64 (least_of v vs) (least_of w ws)
      (each_among Fits (least_of v vs) (v ∷ vs) (least_among v vs) b) (each_among Fits (least_of w ws) (w ∷ ws) (least_among w ws) b')
      (least_perm v vs w ws p a) (least_perm w ws v vs back a')

  pub greatest_alike : Alike (greatest_of v vs) (greatest_of w ws)
  greatest_alike =
      le_antisym binary64 (greatest_of v vs) (greatest_of w ws)
      (each_among Fits (greatest_of v vs) (v ∷ vs) (greatest_among v vs) b) (each_among Fits (greatest_of w ws) (w ∷ ws) (greatest_among w ws) b')
      (greatest_perm w ws v vs back a') (greatest_perm v vs w ws p a)
