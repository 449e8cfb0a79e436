-- `padding::clear` meets its contract. The invariant: the cells before the index are zeros. Assumes nothing.
use mathlib.Core.Path.{◌≡◌}
use lib.ListN.{take, replicate}
use Rattle.padding.proofs.clear.Given as goal

abbrev pub invariant-loop-cell : goal.invariant-loop-cell
invariant-loop-cell g l = take l.cell-index l.padded ≡ replicate l.cell-index l.fn.zero
