-- What a table holds: the numbers of its rule, at every place. Definitions only.
use Rattle.std.specs.Prelude.{ℕ, ◌+◌, ◌*◌, ◌-◌, ◌^◌, ◌≤◌, ◌<◌, ◌≡◌, List, [], length, get_or}
use Rattle.spec.specs.Colour.{level}

-- "The red and green tables hold 256 numbers each, one rule per table"
pub record Table (rule : ℕ → ℕ) (t : List ℕ) : Type 0 where
  pub sized : length t ≡ 256
  pub right : (v : ℕ) → v < 256 → get_or t v 0 ≡ rule v

-- "a pair of tables for each f from 3 to 40"
pub record Tables (rule : ℕ → ℕ → ℕ) (ts : List (List ℕ)) : Type 0 where
  pub sized : length ts ≡ 38
  pub right : (f : ℕ) → 3 ≤ f → f ≤ 40 → Table (rule f) (get_or ts (f - 3) [])

-- numerator and denominator of the threshold at place k
abbrev pub n_at : List (List ℕ) → ℕ → ℕ
n_at t k = get_or (get_or t k []) 0 0

abbrev pub d_at : List (List ℕ) → ℕ → ℕ
d_at t k = get_or (get_or t k []) 1 0

-- r / g reaches the threshold at place k and not the next. Place 0 counts as reached
pub record Rank (t : List (List ℕ)) (r g k : ℕ) : Type 0 where
  pub within : k < length t
  pub reaches : 0 < k → n_at t k * g ≤ d_at t k * r
  pub misses : k + 1 < length t → d_at t (k + 1) * r < n_at t (k + 1) * g

-- a place in the thresholds is the byte of blue's rule, for every red and green
pub record Thresholds (scale eps : ℕ) (t : List (List ℕ)) : Type 0 where
  pub least : 1 ≤ length t
  pub most : length t ≤ 256
  pub right : (r g k : ℕ) → r ≤ 255 → g ≤ 255 → 0 < g + eps → Rank t (r + eps) (g + eps) k → k ≡ level 10 (10 ^ 10 * (g + eps)) (scale ^ 10 * (r + eps))
