-- `clahe::clip::excess` meets its contract: the bins so far, folded, and what is left of them give the whole excess. Assumes nothing.
use Rattle.std.proofs.Common.{◌≡◌, List, ℕ, subst, rules}
use Rattle.std.proofs.lemmas.Fn.{fold_over, slice_gives, fronts}
use Rattle.spec.specs.Floats.{zero64}
use Rattle.spec.specs.Clahe.{excess}
use Rattle.clahe.proofs.Excess.{Folded, folded_none, folded_next, folded_all}
use Rattle.clahe.proofs.clip.excess.Goals as goal

pub returns : goal.returns
returns c =
    let limit = c.args.limit in
    subst (λ (l : List ℕ). c.fold.result ≡ excess limit zero64 l) c.iter.ensures.rest
    (folded_all limit _ _
    (fold_over fronts (λ y. y.now) _ (Folded limit) _ (λ ys a x b f' j k. let next = folded_next limit ys a x.now b j in search rules)
    _ _ _ _ (slice_gives c.iter.result) (folded_none limit) c.fold.ensures.ran))
