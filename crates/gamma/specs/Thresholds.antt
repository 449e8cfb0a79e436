-- What the table of thresholds holds, and the cells by which a value is found in it. Definitions only.
use Rattle.std.specs.Prelude.{ℕ, suc, ◌-◌, ◌≤◌, ◌<◌, ◌≡◌, false, List, [], T, Float, length, get_or}
use Rattle.std.specs.Float.{nan, binary64}
use Rattle.std.specs.Float.Ieee.{fits, le, mul, of_bits}
use Rattle.spec.specs.Floats.{zero64, clamp_float}
use Rattle.numeric.specs.Round.{nearest_small}
use Rattle.spec.specs.Gamma.{reaches_byte, gamma_value, over, under}

-- of every f64, exactly those from x on reach k
pub record Threshold (p q k : ℕ) (x : Float) : Type 0 where
  pub right : (t : Float) → T (fits binary64 t) → le x t ≡ reaches_byte p q t k

-- 0..1 in 1,024 cells: t × 1024.0, held to 0.0..1023.0, its nearest whole number
unfoldable pub cell_of : Float → ℕ
cell_of t = nearest_small (clamp_float zero64 (of_bits binary64 0x408f_f800_0000_0000) (mul binary64 t (of_bits binary64 0x4090_0000_0000_0000)))

-- the thresholds of 1 to 255
pub record Row (p q : ℕ) (xs : List Float) : Type 0 where
  pub sized : length xs ≡ 255
  pub each : (k : ℕ) → k < 255 → Threshold p q (suc k) (get_or xs k nan)

-- each in a later cell than the one before
pub record Rising (xs : List Float) : Type 0 where
  pub rising : (k : ℕ) → k < 254 → cell_of (get_or xs k nan) < cell_of (get_or xs (suc k) nan)
  pub last : 1023 ≤ cell_of (get_or xs 254 nan)

-- "a constant table of 765 numbers with one rule over all of them"
pub record Rows (xss : List (List Float)) : Type 0 where
  pub sized : length xss ≡ 3
  pub each : (g : ℕ) → g < 3 → Row (over g) (under g) (get_or xss g []) × Rising (get_or xss g [])

-- g thresholds lie in cells before c
pub record Guess (xs : List Float) (c g : ℕ) : Type 0 where
  pub small : g ≤ 254
  pub before : 0 < g → cell_of (get_or xs (g - 1) nan) < c
  pub after : c ≤ cell_of (get_or xs g nan)

-- .. or one more, in the cell before c
pub record Nearly (xs : List Float) (c g : ℕ) : Type 0 where
  pub small : g ≤ 254
  pub before : 0 < g → cell_of (get_or xs (g - 1) nan) < c
  pub after : c ≤ suc (cell_of (get_or xs g nan))

pub record Guesses (xs : List Float) (gs : List ℕ) : Type 0 where
  pub sized : length gs ≡ 1024
  pub each : (c : ℕ) → c < 1024 → Guess xs c (get_or gs c 0)

-- r thresholds are at most t
pub record Rank (xs : List Float) (t : Float) (r : ℕ) : Type 0 where
  pub within : r ≤ 255
  pub hits : 0 < r → T (le (get_or xs (r - 1) nan) t)
  pub misses : r < 255 → le (get_or xs r nan) t ≡ false

-- r is the value of t, whichever gamma's thresholds these are
abbrev pub Values : List Float → Float → ℕ → Type 0
Values xs t r = (p q : ℕ) → Row p q xs → r ≡ gamma_value p q t
