-- `stretch::look_up_bytes` meets its contract. The invariant: the bytes before the turn's are replaced, the others as they were. Assumes nothing.
use mathlib.Core.Path.{◌≡◌}
use mathlib.Core.List.{map, ◌++◌}
use lib.ListN.{get_or, take, drop}
use Rattle.stretch.proofs.look_up_bytes.Given as goal

abbrev pub invariant-loop-byte : goal.invariant-loop-byte
invariant-loop-byte l = l.bytes ≡ map (λ x. get_or l.table x 0) (take l.byte-index l.fn.bytes) ++ drop l.byte-index l.fn.bytes
