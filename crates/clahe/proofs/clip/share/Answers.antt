-- `clahe::clip::share` meets its contract. The invariant: the bins before b have their share, the others are as they were. Assumes nothing.
use Rattle.std.proofs.Common.{ℕ, ◌+◌, cond, ltb, map, ap, ◌∙◌, arith}
use lib.ListN.{length-map}
use Rattle.spec.specs.Clahe.{one_by_one}
use Rattle.clahe.proofs.InPlace.{turned_none, turned_next, turned_all}
use Rattle.clahe.proofs.Shares.{one_by_one-length, one_by_one-at}
use Rattle.lists.proofs.Places.{map_at}
use Rattle.clahe.proofs.clip.share.Goals as goal

pub loop-b-init : goal.loop-b-init
loop-b-init c =
    let a = c.args in
    (omega arith, turned_none 0 (λ k h. h + a.each + cond (ltb k a.rest) 1 0) a.hist.now)

pub with_share-requires : goal.with_share-requires
with_share-requires c =
    omega (arith, c.requires c.loop-b.b, c.loop-b.invariant.1.same c.loop-b.b (omega arith))

pub loop-b-preserved : goal.loop-b-preserved
loop-b-preserved c =
    let a = c.args in (
      omega arith,
      turned_next 0 (λ k h. h + a.each + cond (ltb k a.rest) 1 0) a.hist.now c.loop-b.b c.loop-b.hist _ c.loop-b.invariant.1 (omega arith) c.with_share.ensures,
    )

pub returns : goal.returns
returns c =
    let a = c.args in
    let hs = a.hist.now in
    let more = map (λ h. h + a.each) hs in
    let n = length-map hs (λ h. h + a.each) in
    turned_all 0 (λ k h. h + a.each + cond (ltb k a.rest) 1 0) hs c.loop-b.b c.loop-b.hist (one_by_one a.rest more) c.loop-b.invariant.1 (omega arith)
    (one_by_one-length a.rest more ∙ n)
    (λ k h. one_by_one-at a.rest more k (omega arith) ∙ ap (λ (m : ℕ). m + cond (ltb k a.rest) 1 0) (map_at (λ h. h + a.each) 0 0 hs k h))
