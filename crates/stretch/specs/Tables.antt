-- What a table holds once it is filled. Definitions only.
use Rattle.std.specs.Prelude.{◌≡◌, List, ℕ, ◌<◌, get_or}
use Rattle.spec.specs.Stretch.{stretch_byte}

-- the stretched byte of each value below n
abbrev pub Stretches : ℕ → ℕ → ℕ → List ℕ → Type 0
Stretches lo hi n table = (k : ℕ) → k < n → get_or table k 0 ≡ stretch_byte lo hi k
