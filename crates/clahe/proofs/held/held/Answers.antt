-- `clahe::held::held` meets its contract: what is in 0..1 is held to an equal number. Assumes nothing.
use Rattle.std.proofs.Common.{sym, subst}
use lib.Ieee.{Float}
use Rattle.numeric.proofs.Facts.{holds}
use Rattle.spec.specs.Floats.{zero64, one64, clamp_float}
use Rattle.clahe.specs.Within.{InUnit, Alike}
use Rattle.clahe.proofs.Within.{alike_self, clamp_same}
use Rattle.clahe.proofs.Scaled.{held_unit}
use Rattle.clahe.proofs.held.held.Goals as goal

pub returns-then-within : goal.returns-then-within
returns-then-within c =
    let u : InUnit c.args.x = c.requires (holds c.if-within.true) in
    (u, clamp_same zero64 one64 c.args.x u.0 u.1)

pub returns-else-within : goal.returns-else-within
returns-else-within c =
    let z = clamp_float zero64 one64 c.args.x in
    subst (λ (y : Float). InUnit y × Alike y z) (sym c.clamp_f64.ensures) (held_unit c.args.x, alike_self z (held_unit c.args.x))
