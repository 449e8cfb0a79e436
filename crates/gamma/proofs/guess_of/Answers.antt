-- `gamma::guess_of` meets its contract. Assumes nothing.
use native.Mathlib.Omega.{arith}
use Rattle.gamma.proofs.Cells.{guess_next}
use Rattle.gamma.proofs.guess_of.Goals as goal

pub returns-then-cell_of-cell : goal.returns-then-cell_of-cell
returns-then-cell_of-cell c =
    let a = c.args in
    guess_next c.requires.fact_1 a.cell a.below c.requires.fact_2 c.requires.fact_3 (omega (arith, c.if-cell_of-cell.true, c.cell_of.ensures.fact_1))
