-- A pixel by its mark, and a bound on the counts that levels are added to. Assumes nothing.
use Rattle.std.proofs.Common.{◌≡◌, ℕ, zero, suc, ◌≤◌, List, get_or, refl, arith}
use lib.Ieee.{Float}
use Rattle.spec.specs.Pixels.{off, on, pixel}

pub pixel-on : (m : ℕ) (v : Float) → (m ≡ 0 → ⊥) → pixel m v ≡ on v
unfolding pixel
pixel-on zero v h = absurd (h refl)
pixel-on (suc m) v h = refl

pub pixel-off : (m : ℕ) (v : Float) → m ≡ 0 → pixel m v ≡ off
unfolding pixel
pixel-off zero v h = refl
pixel-off (suc m) v h = absurd (omega arith)

-- ---- counts

-- no count is above m
abbrev pub Most : ℕ → List ℕ → Type 0
Most m h = (k : ℕ) → get_or h k 0 ≤ m
