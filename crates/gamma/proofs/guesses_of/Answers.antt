-- `gamma::guesses_of` meets its contract. The invariant: the guesses before the cell are right, and `below` is nearly the next. Assumes nothing.
use mathlib.Core.Path.{◌∙◌}
use native.Mathlib.Omega.{arith}
use lib.ListN.{length-set}
use Rattle.gamma.proofs.Cells.{nearly_next, guess_stored}
use Rattle.gamma.proofs.guesses_of.Goals as goal

pub loop-cell-preserved : goal.loop-cell-preserved
loop-cell-preserved c =
    let l = c.loop-cell in
    let t = c.loop-cell-test.true in
    let u = c.guess_of-below.ensures in (
      omega arith,
      length-set l.guess-items l.cell _ ∙ l.invariant.1,
      nearly_next l.cell c.guess_of-below.result u,
      guess_stored l.guess-items l.cell c.guess_of-below.result (omega arith) u l.invariant.3,
    )
