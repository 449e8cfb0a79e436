-- The codes of strategies, modes and co-pol bands. Definitions only.
use Rattle.std.specs.Prelude.{ℕ, List, [], ◌∷◌, get_or, Option, Some, None, Result}
use Rattle.std.specs.Option.{ok_or}
use Rattle.types.specs.declared.AutoscaleStrategy.{AutoscaleStrategy}
use Rattle.types.specs.declared.AutoscaleStrategy.TheVariants.{Standard, Robust, Adaptive, Equalized, Clahe, Tamed, Default}
use Rattle.types.specs.declared.CoPol.{CoPol}
use Rattle.types.specs.declared.CoPol.TheVariants.{Band1, Band2}
use Rattle.types.specs.declared.SyntheticRgbMode.{SyntheticRgbMode}
use Rattle.types.specs.declared.SyntheticRgbMode.TheVariants as Mode
use Rattle.types.specs.declared.codes.UnknownCode.{UnknownCode}

-- "the strategy and the mode as codes in the order of types.rs"
abbrev pub strategies : List (Option AutoscaleStrategy)
strategies = Some Standard ∷ Some Robust ∷ Some Adaptive ∷ Some Equalized ∷ Some Clahe ∷ Some Tamed ∷ Some Default ∷ []

abbrev pub modes : List (Option SyntheticRgbMode)
modes = Some Mode.Default ∷ Some Mode.RgbRatio ∷ Some Mode.SarUrban ∷ Some Mode.Enhanced ∷ []

unfoldable pub strategy_of : ℕ → Option AutoscaleStrategy
strategy_of code = get_or strategies code None

unfoldable pub mode_of : ℕ → Option SyntheticRgbMode
mode_of code = get_or modes code None

-- document 02, F-2: the number of the co-pol band
abbrev pub copols : List (Option CoPol)
copols = None ∷ Some Band1 ∷ Some Band2 ∷ []

unfoldable pub copol_of : ℕ → Option CoPol
copol_of code = get_or copols code None

-- what reading a code gives: what it names, or an error with the code
abbrev pub named : {A : Type 0} → ℕ → Option A → Result A UnknownCode
named code o = ok_or o (record { code = code })
