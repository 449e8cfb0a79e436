-- A pass that calls a step at each valid pixel: where the step may be called, and what its calls lead to. Definitions only.
use Rattle.std.specs.Prelude.{ℕ, suc, ◌≡◌, ⊤, true, false, List, [], ◌∷◌, Option, MatchOption, Float}
use Rattle.spec.specs.Pixels.{Pixel, off, on}
use Rattle.spec.specs.Refusals.{decibels_refused}

-- over the pixels from place i on, after s: the step may be called at each valid one, whatever it gave before
unfoldable pub IsCallableAlong : {S : Type 0} → (S → Float → ℕ → Type 0) → (S → Float → ℕ → S → Type 0) → S → ℕ → List Pixel → Type 0
IsCallableAlong pre post s i [] = ⊤
IsCallableAlong pre post s i (off ∷ px) = IsCallableAlong pre post s (suc i) px
IsCallableAlong {S} pre post s i (on v ∷ px) = pre s v i × ((t : S) → post s v i t → IsCallableAlong pre post t (suc i) px)

-- over the pixels from place i on, the step leads from s to t
unfoldable pub LeadsTo : {S : Type 0} → (S → Float → ℕ → S → Type 0) → S → ℕ → List Pixel → S → Type 0
LeadsTo post s i [] t = s ≡ t
LeadsTo post s i (off ∷ px) t = LeadsTo post s (suc i) px t
LeadsTo {S} post s i (on v ∷ px) t = (u : S) × post s v i u × LeadsTo post u (suc i) px t

-- a pass answers nothing where a valid dB is refused, or what its step leads to
abbrev pub Gathers : {S : Type 0} → (S → Float → ℕ → S → Type 0) → S → List Pixel → Option S → Type 0
Gathers post start px answer = MatchOption answer (decibels_refused px ≡ true) (λ t. (decibels_refused px ≡ false) × LeadsTo post start 0 px t)
