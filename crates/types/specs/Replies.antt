-- The numbers of the table of replies. Definitions only.
use Rattle.std.specs.Prelude.{ℕ}
use Rattle.types.specs.declared.refusal.Refusal.{Refusal}
use Rattle.types.specs.declared.refusal.Refusal.TheVariants.{Sides, Lengths, Marks, Decibels, Tiles, Gamma}

-- "Returns .. When": the rows of the table
unfoldable pub refusal_number : Refusal → ℕ
refusal_number Sides = 1
refusal_number Lengths = 2
refusal_number Marks = 3
refusal_number Decibels = 4
refusal_number Tiles = 5
refusal_number Gamma = 6
