-- The operation that a `PolarizationOperation` names, and what keeps a rule. Definitions only.
use mathlib.Core.Path.{◌≡◌}
use Rattle.std.specs.Prelude.{Float}
use Rattle.types.specs.declared.PolarizationOperation.{PolarizationOperation}
use Rattle.types.specs.declared.PolarizationOperation.TheVariants.{Sum, Diff, Ratio, NDiff, LogRatio}
use Rattle.spec.specs.Ops.{sum_op, difference_op, ratio_op, normalized_diff_op, log_ratio_op}

abbrev pub operate : PolarizationOperation → Float → Float → Float
operate Sum = sum_op
operate Diff = difference_op
operate Ratio = ratio_op
operate NDiff = normalized_diff_op
operate LogRatio = log_ratio_op

-- what gives each pair of values a value keeps the rule
abbrev pub Keeps : (Float → Float → Float → Type 0) → (Float → Float → Float) → Type 0
Keeps gives rule = (x y z : Float) → gives x y z → z ≡ rule x y
