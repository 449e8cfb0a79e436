-- The gammas of windows: "Adaptive's gammas are 0.9, 1.1, 0.8, 1.0", Standard's 1.1, 1.0 and 0.9, all others' 1.0. Statements only: the proofs are in proofs/.
use Rattle.std.specs.Prelude.{Bool, true, false, ◌||◌, ◌≡◌, Float}
use Rattle.std.specs.Float.Ieee.{eq}
use Rattle.types.specs.declared.AutoscaleStrategy.{AutoscaleStrategy}
use Rattle.types.specs.declared.HistogramStats.{HistogramStats}
use Rattle.types.specs.declared.WindowFloats.{WindowFloats}
use Rattle.std.specs.Prelude.{Option, Some, None}
use Rattle.spec.specs.Floats.{one64}
use Rattle.spec.specs.Window.{gamma08, gamma09, gamma11, window_of, picture_window}

-- one of the four
unfoldable pub is_gamma : Float → Bool
is_gamma gamma = eq gamma gamma08 || eq gamma gamma09 || eq gamma gamma11 || eq gamma one64

-- a window with one of them, or a blank one
unfoldable pub usual : Option WindowFloats → Bool
usual (Some w) = is_gamma w.gamma
usual None = true

-- no other gamma is chosen, for a grey call or a picture, whatever the statistics
pub record Gammas : Type 0 where
  pub grey : (strategy : AutoscaleStrategy) (s : HistogramStats) → usual (window_of strategy s) ≡ true
  pub picture : (strategy : AutoscaleStrategy) (copol : Bool) (s : HistogramStats) → usual (picture_window strategy copol s) ≡ true
