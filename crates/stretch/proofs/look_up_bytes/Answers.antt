-- `stretch::look_up_bytes` meets its contract. The invariant: the bytes before the turn's are replaced, the others as they were. Assumes nothing.
use mathlib.Core.Path.{sym, ◌∙◌}
use native.Mathlib.Omega.{arith}
use lib.ListN.{get_or}
use Rattle.std.proofs.lemmas.Grind.{get_or_default_zero}
use Rattle.std.proofs.lemmas.List.Edits.{map_over_more}
use Rattle.stretch.proofs.look_up_bytes.Goals as goal

pub loop-byte-preserved : goal.loop-byte-preserved
loop-byte-preserved c =
    let l = c.loop-byte in
    let i = l.byte-index in
    let byte = c.from.ensures ∙ sym (get_or_default_zero l.bytes i c.from.result (omega arith)) in
    map_over_more (λ x. get_or c.args.table.now x 0) c.args.bytes.now l.bytes i c.from.result (omega arith) l.invariant byte
