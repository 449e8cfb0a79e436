-- What the bins have above a limit, one bin after another. Assumes nothing.
use Rattle.std.proofs.Common.{◌≡◌, ℕ, cond, List, [], ◌∷◌, ◌++◌, sym, refl, ap, ◌∙◌, append_assoc, append-nil}
use lib.Ieee.{Float, binary64, add, sub, lt}
use Rattle.spec.specs.Floats.{zero64, of_count}
use Rattle.spec.specs.Clahe.{excess}

module _ (limit : Float) where
  -- the sum of the bins so far: those that follow, from it, give the whole
  pub record Folded (done : List ℕ) (sum : Float) : Type 0 where
    pub on : (rest : List ℕ) → excess limit zero64 (done ++ rest) ≡ excess limit sum rest

  pub folded_none : Folded [] zero64
  folded_none = record { on = λ rest. refl }

  pub folded_next : (done : List ℕ) (sum : Float) (h : ℕ) (next : Float) → Folded done sum
      → next ≡ cond (lt limit (of_count h)) (add binary64 sum (sub binary64 (of_count h) limit)) sum → Folded (done ++ (h ∷ [])) next
  unfolding excess
  folded_next done sum h next f e =
      record { on = λ rest. ap (excess limit zero64) (append_assoc done (h ∷ []) rest) ∙ f.on (h ∷ rest) ∙ ap (λ (s : Float). excess limit s rest) (sym e) }

  pub folded_all : (all : List ℕ) (sum : Float) → Folded all sum → sum ≡ excess limit zero64 all
  unfolding excess
  folded_all all sum f = sym (ap (excess limit zero64) (sym (append-nil all)) ∙ f.on [])
