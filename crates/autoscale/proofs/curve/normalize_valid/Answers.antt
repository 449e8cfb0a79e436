-- `autoscale::curve::normalize_valid` meets its contract. The invariant: what stands before i are the dB before i, normalised. Assumes nothing.
use mathlib.Core.Path.{refl, ap, ◌∙◌}
use native.Mathlib.Omega.{arith}
use lib.Ieee.{nan}
use Rattle.spec.specs.Value.{normalized}
use Rattle.lists.proofs.Rows.{next, finish}
use Rattle.autoscale.proofs.curve.normalize_valid.Goals as goal

pub loop-i-init : goal.loop-i-init
loop-i-init c = (omega arith, omega arith, refl)

pub valid_db-v-requires : goal.valid_db-v-requires
valid_db-v-requires c =
    (omega arith, c.requires.fact_2 c.loop-i.i (omega arith))

pub loop-i-preserved : goal.loop-i-preserved
loop-i-preserved c =
    let w = c.args.window in
    let l = c.loop-i in
    let g = normalized w.low w.high w.range in
    next g nan c.args.band.now.db.now l.normal l.i c.normalized.result (omega arith) (c.normalized.ensures ∙ ap g c.valid_db-v.ensures) l.invariant

pub returns : goal.returns
returns c =
    let w = c.args.window in
    let l = c.loop-i in
    finish (normalized w.low w.high w.range) nan c.args.band.now.db.now l.normal l.i l.invariant (omega arith)
