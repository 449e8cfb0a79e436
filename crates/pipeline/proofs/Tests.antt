-- Tests in the table's order: those of the rasters, and then those of the windows. Assumes nothing.
use mathlib.Core.Path.{◌≡◌, refl, sym, ap, ◌∙◌}
use mathlib.Core.Bool.{Bool, true, false, true≢false}
use mathlib.Core.List.{List, [], ◌∷◌, ◌++◌}
use Prim.Native.Nat.{ℕ, zero, suc, ◌+◌}
use native.Mathlib.Omega.{arith}
use lib.ListN.{length}
use Rattle.spec.specs.Answer.{Answer, refused, done, first_of, or_refused, answer, number}
use Rattle.raster.proofs.Bands.{first_stays, first_later}

-- an answer that refuses has a number
unfoldable pub is_refused : {A : Type 0} → Answer A → Bool
is_refused (refused k) = true
is_refused (done a) = false

refused_not_zero : {A : Type 0} (n k : ℕ) (a : A) → answer n a ≡ refused k → n ≡ 0 → ⊥
unfolding answer or_refused is_refused
refused_not_zero zero k a e z = true≢false (sym (ap is_refused e))
refused_not_zero (suc n) k a e z = absurd (omega (arith, z))

-- the same number for another value
pub renumbered : {A B : Type 0} (n k : ℕ) (a : A) (b : B) → answer n a ≡ refused k → answer n b ≡ refused k
unfolding answer or_refused number
renumbered zero k a b e = absurd (refused_not_zero zero k a e refl)
renumbered (suc j) k a b e = ap refused (ap number e)

module _ {A : Type 0} (v : A) where
  refused-at : (k : ℕ) → (k ≡ 0 → ⊥) → answer k v ≡ refused k
  unfolding answer or_refused
  refused-at zero n = absurd (n refl)
  refused-at (suc k) n = refl

  pub done-at : (k : ℕ) → k ≡ 0 → answer k v ≡ done v
  unfolding answer or_refused
  done-at k e = rw e

  module _ (ts us : List Bool) where
    -- what refuses among the first tests refuses the call
    pub at_first : (k : ℕ) → k ≡ first_of 1 ts → (k ≡ 0 → ⊥) → answer (first_of 1 (ts ++ us)) v ≡ refused k
    at_first k q n = ap (λ (j : ℕ). answer j v) (sym (first_stays 1 ts us (λ z. n (q ∙ z))) ∙ sym q) ∙ refused-at k n

    -- and where none of them does, the others decide
    pub at_later : first_of 1 ts ≡ 0 → answer (first_of 1 (ts ++ us)) v ≡ answer (first_of (1 + length ts) us) v
    at_later e = ap (λ (j : ℕ). answer j v) (first_later 0 ts us e)

  -- 4 and 5 of what is known of them
  module _ (d t : Bool) where
    pub at_four : d ≡ true → refused 4 ≡ answer (first_of 4 (d ∷ t ∷ [])) v
    unfolding answer or_refused first_of
    at_four e = rw e refl

    pub at_five : d ≡ false → t ≡ true → refused 5 ≡ answer (first_of 4 (d ∷ t ∷ [])) v
    unfolding answer or_refused first_of
    at_five e f = rw (e, f) refl

    pub at_none : d ≡ false → t ≡ false → done v ≡ answer (first_of 4 (d ∷ t ∷ [])) v
    unfolding answer or_refused first_of
    at_none e f = rw (e, f) refl
