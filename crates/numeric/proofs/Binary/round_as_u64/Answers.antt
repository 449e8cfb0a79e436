-- `Binary::round_as_u64` meets its contract: by the whole part. Assumes nothing.
use Rattle.std.proofs.Common.{sym, arith}
use Rattle.numeric.proofs.Facts.{holds, fails}
use Rattle.numeric.proofs.Away.{reached, short}
use Rattle.numeric.proofs.Binary.round_as_u64.Goals.{else-n-WHOLE-via-then-n-WHOLE+else-reaches_half, else-n-WHOLE-via-else-n-WHOLE}
use Rattle.numeric.proofs.Binary.round_as_u64.Goals as goal

pub returns-then-reaches_half : goal.returns-then-reaches_half
returns-then-reaches_half g c =
    reached g.Self.Binary.format _ _ c.as_u64-n.ensures.value (omega (arith, c.if-n-WHOLE.true, c.WHOLE.ensures, g.met.Self.Binary.whole_law)) (holds (sym c.if-reaches_half.ensures))

pub returns-else-n-WHOLE : goal.returns-else-n-WHOLE
returns-else-n-WHOLE g c =
    elim c.else-n-WHOLE.branch [
      | else-n-WHOLE-via-then-n-WHOLE+else-reaches_half w ↦ short g.Self.Binary.format _ _ c.as_u64-n.ensures.value (omega (arith, w.if-n-WHOLE.true, c.WHOLE.ensures, g.met.Self.Binary.whole_law)) (fails (sym w.if-reaches_half.ensures))
      | else-n-WHOLE-via-else-n-WHOLE w ↦ c.as_u64-n.ensures.whole (omega (arith, w.if-n-WHOLE.false, c.WHOLE.ensures))
    ]
