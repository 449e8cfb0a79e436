-- `synthetic_rgb::floor::count_levels` meets its contract: the counts so far, with the bytes left, make the counts of all. Assumes nothing.
use mathlib.Core.Path.{sym, ap, ◌∙◌}
use Prim.Native.Nat.{ℕ, ◌+◌}
use native.Mathlib.Omega.{arith}
use lib.ListN.{drop, length-set}
use Rattle.spec.specs.Lists.{added, stored}
use Rattle.lists.proofs.Counts.{added-most}
use Rattle.synthetic_rgb.proofs.Counted.{stored_step, stored_end}
use Rattle.synthetic_rgb.proofs.floor.count_levels.Goals as goal

pub loop-v-preserved : goal.loop-v-preserved
loop-v-preserved c =
    let l = c.loop-v in
    let band = c.args.band.now in
    let v = c.from in (
      omega arith,
      simp length-set (omega arith),
      λ k. omega (arith, added-most l.histogram v.result (λ j. 16777216 + l.v-index) l.invariant.2 k),
      l.invariant.3 ∙ stored_step l.histogram band l.v-index (omega arith) ∙ ap (λ (b : ℕ). stored (added b l.histogram) (drop (l.v-index + 1) band)) (sym v.ensures),
    )

pub returns : goal.returns
returns c =
    let l = c.loop-v in
    sym (l.invariant.3 ∙ stored_end l.histogram c.args.band.now l.v-index (omega arith))
