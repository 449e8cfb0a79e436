-- The sides that refusal 5 accepts. Definitions and a statement only.
use Rattle.std.specs.Prelude.{◌≡◌, ℕ, Bool, not, ◌&&◌, ◌||◌, ◌==◌, nat_le}
use Rattle.spec.specs.Refusals.{side_refused}

abbrev pub from : ℕ → ℕ → ℕ → Bool
from a b s = nat_le a s && nat_le s b

-- "Sides accepted by 5: 7, 8, 14 to 16, 21 to 24, 28 to 32, 35 to 40, 42 and up." A side of 0 has no pixel, so that 5 does not arise.
unfoldable pub listed : ℕ → Bool
listed s = s == 0 || from 7 8 s || from 14 16 s || from 21 24 s || from 28 32 s || from 35 40 s || nat_le 42 s

unfoldable pub SidesListed : Type 0
SidesListed = (s : ℕ) → side_refused s ≡ not (listed s)
