-- `clahe::clip::clip_bins` meets its contract. The invariant: the bins before b are clipped, the others as they were. Assumes nothing.
use Rattle.std.proofs.Common.{map, arith}
use lib.ListN.{length-map}
use Rattle.spec.specs.Clahe.{clipped}
use Rattle.clahe.proofs.InPlace.{turned_none, turned_next, turned_all}
use Rattle.lists.proofs.Places.{map_at}
use Rattle.clahe.proofs.clip.clip_bins.Goals as goal

pub loop-h-init : goal.loop-h-init
loop-h-init c =
    (omega arith, turned_none 0 (λ k h. clipped c.args.limit h) c.args.hist.now)

pub loop-h-preserved : goal.loop-h-preserved
loop-h-preserved c =
    let a = c.args in (
      omega arith,
      turned_next 0 (λ k h. clipped a.limit h) a.hist.now c.loop-h.h-index c.loop-h.hist _ c.loop-h.invariant.1 (omega arith) c.clipped.ensures,
    )

pub returns : goal.returns
returns c =
    let a = c.args in
    turned_all 0 (λ k h. clipped a.limit h) a.hist.now c.loop-h.h-index c.loop-h.hist (map (clipped a.limit) a.hist.now) c.loop-h.invariant.1 (omega arith)
    (length-map a.hist.now (clipped a.limit)) (λ k h. map_at (clipped a.limit) 0 0 a.hist.now k h)
