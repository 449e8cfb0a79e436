-- A loop that writes one value to every place of a list. Assumes nothing.
use mathlib.Core.Path.{◌≡◌, sym, ap, ◌∙◌}
use mathlib.Core.List.{List, [], ◌∷◌, ◌++◌}
use Prim.Native.Nat.{ℕ, ◌+◌, ◌≤◌, ◌<◌}
use native.Mathlib.Omega.{arith}
use native.Mathlib.Numerals.{add-one}
use lib.ListN.{length, take, set, replicate, length-set, replicate-append-replicate}
use lib.Seq.{take-suc-set, take_all}

module _ {A : Type 0} (a : A) (n : ℕ) where
  -- the first i of the n of `to` are a
  abbrev pub Filled : List A → ℕ → Type 0
  Filled to i = (i ≤ n) × (length to ≡ n) × (take i to ≡ replicate i a)

  -- a store at i
  pub step : (to : List A) (i : ℕ) → i < length to → Filled to i → Filled (set to i a) (i + 1)
  step to i h t = (
    omega arith,
    length-set to i a ∙ t.1,
    ap (λ (k : ℕ). take k (set to i a)) (add-one i) ∙ take-suc-set to i a h ∙ ap (λ (z : List A). z ++ (a ∷ [])) t.2 ∙ replicate-append-replicate i 1 a,
  )

  pub finish : (to : List A) (i : ℕ) → Filled to i → length to ≤ i → to ≡ replicate n a
  finish to i t h = let e : i ≡ n = omega arith in sym (take_all i to h) ∙ t.2 ∙ ap (λ (k : ℕ). replicate k a) e
