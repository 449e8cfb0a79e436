-- `numeric::depth::held` meets its contract: what is held to the full value is at most that. Assumes nothing.
use Rattle.spec.specs.Floats.{zero64}
use Rattle.spec.specs.Gamma.{full_of}
use Rattle.numeric.proofs.Order.{le_right}
use Rattle.numeric.proofs.Picks.{clamped_hi}
use Rattle.numeric.proofs.Full.{full_least}
use Rattle.numeric.proofs.depth.held.Goals as goal

pub truncated-requires-clause-fact_2 : goal.truncated-requires-clause-fact_2
truncated-requires-clause-fact_2 g c =
    let d = g.D.Depth.depth in
    rw (c.clamp_f64.ensures, c.full.ensures) (clamped_hi _ zero64 (full_of d) (le_right zero64 (full_of d) (full_least d)))
