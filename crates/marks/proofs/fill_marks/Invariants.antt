-- `marks::fill_marks` meets its contract. The invariant: the marks before i are those of the values before i. Assumes nothing.
use mathlib.Core.Path.{◌≡◌}
use mathlib.Core.List.{map}
use lib.ListN.{take}
use Rattle.spec.specs.Marks.{mark_of}
use Rattle.marks.proofs.fill_marks.Given as goal

abbrev pub invariant-loop-i : goal.invariant-loop-i
invariant-loop-i l = take l.i l.valid_mask ≡ map mark_of (take l.i l.processed)
