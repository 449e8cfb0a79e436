-- The floor of the suppressed colours: where it lies, and what it is where a twentieth of the bytes rounds to none. Statements only: the proofs are in proofs/.
use Rattle.std.specs.Prelude.{ℕ, ◌+◌, ◌≤◌, ◌≡◌, List, length}
use Rattle.spec.specs.Colour.{floor_level}

pub record Floors : Type 0 where
  -- "plus 3, at most 40, is f"
  pub held : (band1 band2 : List ℕ) → (3 ≤ floor_level band1 band2) × (floor_level band1 band2 ≤ 40)
  -- "when target is 0: level 0 is chosen even if empty"; target = (total + 10) div 20 is 0 up to a total of 9
  pub few : (band1 band2 : List ℕ) → length band1 + length band2 ≤ 9 → floor_level band1 band2 ≡ 3
