-- `synthetic_rgb::floor::first_level` meets its contract: the levels left, from the count so far, give the answer. Assumes nothing.
use mathlib.Core.Path.{sym, ◌∙◌}
use native.Mathlib.Omega.{arith}
use Rattle.synthetic_rgb.proofs.Counted.{level_found, level_next, level_end}
use Rattle.synthetic_rgb.proofs.floor.first_level.Goals as goal

pub loop-level-preserved : goal.loop-level-preserved
loop-level-preserved c =
    let l = c.loop-level in
    let a = c.args in
    let e = c.from-reached.ensures in
    (omega arith, rw e (l.invariant.1 ∙ level_next a.target l.reached l.level a.histogram.now (omega arith) (rw e at c.if-target-reached.false)))

pub returns-then-target-reached : goal.returns-then-target-reached
returns-then-target-reached c =
    let l = c.loop-level in
    let a = c.args in
    let e = c.from-reached.ensures in
    (sym (l.invariant.1 ∙ level_found a.target l.reached l.level a.histogram.now (omega arith) (rw e at c.if-target-reached.true)), omega arith)

pub returns : goal.returns
returns c =
    let l = c.loop-level in
    let a = c.args in
    (sym (l.invariant.1 ∙ level_end a.target l.reached l.level a.histogram.now (omega arith)), omega arith)
