-- Document 02, F-11: "the row and column of the first valid maximum, 0 and 0 without one". Definitions only.
use Rattle.std.specs.Prelude.{ℕ, suc, ◌/◌, ◌%◌, Bool, cond, ◌||◌, List, [], ◌∷◌, eqb, Float}
use Rattle.std.specs.Float.Ieee.{lt}
use Rattle.types.specs.declared.Moments.{Moments}
use Rattle.types.specs.declared.Place.{Place}
use Rattle.spec.specs.Moments.{no_moments, with_value}
use Rattle.spec.specs.Pixels.{Pixel, off, on}

-- whether a value is greater than all before it; the first is
unfoldable pub is_new_max : Moments → Float → Bool
is_new_max s v = eqb s.count 0 || lt s.max_db v

-- over pixels from place i on, after values with the moments s whose first maximum stands at `at`
unfoldable pub strongest_from : ℕ → Moments → ℕ → List Pixel → ℕ
strongest_from i s at [] = at
strongest_from i s at (off ∷ px) = strongest_from (suc i) s at px
strongest_from i s at (on v ∷ px) = strongest_from (suc i) (with_value s v) (cond (is_new_max s v) i at) px

-- the place of the first valid maximum among all pixels, in raster order
unfoldable pub strongest : List Pixel → ℕ
strongest px = strongest_from 0 no_moments 0 px

-- without a maximum, and for those who read no place
abbrev pub nowhere : Place
nowhere = record { row = 0; col = 0 }

-- as row and column; a raster without columns has no place
unfoldable pub place_in : ℕ → ℕ → Place
place_in cols at = cond (eqb cols 0) nowhere (record { row = at / cols; col = at % cols })
