-- `autoscale::paint::least_mark` meets its contract. The invariant: the least of what is left, from the one so far, is the whole list's. Assumes nothing.
use mathlib.Core.Path.{sym, ap, ◌∙◌}
use Prim.Native.Nat.{ℕ, ◌+◌}
use lib.ListN.{drop, drop_of_length-le}
use Rattle.spec.specs.Lists.{lowest}
use Rattle.stretch.proofs.Loops.{lowest_more}
use Rattle.autoscale.proofs.paint.least_mark.Goals as goal

pub loop-mark-preserved : goal.loop-mark-preserved
loop-mark-preserved c =
    let ms = c.args.valid_mask.now in
    let l = c.loop-mark in
    ap (λ (m : ℕ). lowest m (drop (l.mark-index + 1) ms)) c.min-least.ensures ∙ lowest_more l.least (lowest 255 ms) ms l.mark-index c.loop-mark-test.true l.invariant

pub returns : goal.returns
unfolding lowest
returns c =
    let l = c.loop-mark in
    sym (ap (lowest l.least) (drop_of_length-le c.args.valid_mask.now c.loop-mark-test.false)) ∙ l.invariant
