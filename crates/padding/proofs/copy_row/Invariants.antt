-- `padding::copy_row` meets its contract. The invariant: the first i of the row are copied. Assumes nothing.
use Rattle.lists.proofs.Paste.{Copied}
use Rattle.padding.proofs.copy_row.Given as goal

abbrev pub invariant-loop-i : goal.invariant-loop-i
invariant-loop-i g l = Copied l.initial.padded l.at l.row l.padded l.i
