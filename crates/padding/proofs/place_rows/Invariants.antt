-- `padding::place_rows` meets its contract. The invariant: the rows before `row` are in place. Assumes nothing.
use Rattle.padding.proofs.Square.{Before}
use Rattle.padding.proofs.place_rows.Given as goal

abbrev pub invariant-loop-row : goal.invariant-loop-row
invariant-loop-row g l = Before l.rows l.cols l.fn.zero l.pixels l.padded l.row
