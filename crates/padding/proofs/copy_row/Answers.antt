-- `padding::copy_row` meets its contract. Assumes nothing.
use mathlib.Core.Path.{sym, subst}
use Prim.Native.Nat.{◌+◌}
use lib.ListN.{set}
use Rattle.lists.proofs.Paste.{Copied, copied_none, copied_step, copied_all}
use Rattle.padding.proofs.copy_row.Goals as goal

pub loop-i-init : goal.loop-i-init
loop-i-init g c = copied_none c.args.padded.now c.args.at c.args.row.now

pub loop-i-preserved : goal.loop-i-preserved
loop-i-preserved g c =
    let a = c.args in
    let i = c.loop-i.i in
    subst (λ x. Copied a.padded.now a.at a.row.now (set c.loop-i.padded (a.at + i) x) (i + 1)) (sym c.index-row-i.is)
    (copied_step a.padded.now a.at a.row.now c.index-row-i.result _ i c.requires c.loop-i-test.true c.loop-i.invariant)

pub returns : goal.returns
returns g c = copied_all _ _ _ _ _ c.loop-i.invariant c.loop-i-test.false
