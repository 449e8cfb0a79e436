-- `clahe::clip::clip_at` meets its contract: the excess is at most the sum of the bins, so that shares fit. Assumes nothing.
use Rattle.std.proofs.Common.{◌≡◌, ℕ, ◌+◌, ◌^◌, ◌<◌, ◌≤◌, T, List, map, get_or, sym, ap, ◌∙◌, subst, arith}
use lib.Ieee.{Float, binary64, sub, mul, div, le, to_unsigned}
use Rattle.spec.specs.Clahe.{levels64, clipped, excess, shared, one_by_one, clip_at}
use Rattle.spec.specs.Floats.{zero64, round_as_u64}
use Rattle.spec.specs.Lists.{sum_of}
use Rattle.clahe.proofs.Bounds.{each-most, excess_bounds, share_fits}
use Rattle.clahe.proofs.Shares.{shared-from}
use Rattle.clahe.proofs.clip.clip_at.Goals as goal

-- no bin's share is above the sum of the bins
each_fits : (limit over : Float) (hs : List ℕ) (each : ℕ) → T (le zero64 limit) → sum_of hs < 2 ^ 31 → over ≡ excess limit zero64 hs
    → each ≡ to_unsigned 64 (div binary64 over levels64) → each ≤ sum_of hs
each_fits limit over hs each l s o e =
    let q : each ≡ to_unsigned 64 (div binary64 (excess limit zero64 hs) levels64) = e ∙ ap (λ (o : Float). to_unsigned 64 (div binary64 o levels64)) o in
    omega (arith, q, each-most (sum_of hs) (excess limit zero64 hs) (omega arith) (excess_bounds limit l hs (omega arith)).1)

pub overflow_cast-each : goal.overflow_cast-each
overflow_cast-each c =
    omega (arith, each_fits c.args.limit c.excess-over.result c.args.hist.now c.each_of-each.result c.requires.1 c.requires.0 c.excess-over.ensures c.each_of-each.ensures)

pub share-requires : goal.share-requires
share-requires c =
    let hs = c.args.hist.now in
    let limit = c.args.limit in
    let fits = each_fits limit c.excess-over.result hs c.each_of-each.result c.requires.1 c.requires.0 c.excess-over.ensures c.each_of-each.ensures in
    λ k. subst (λ (h : List ℕ). get_or h k 0 + c.each_of-each.result + 1 < 2 ^ 32) (sym c.clip_bins.ensures)
    (share_fits limit hs c.each_of-each.result c.requires.0 fits k)

pub returns : goal.returns
unfolding clip_at
returns c =
    let hs = c.args.hist.now in
    let limit = c.args.limit in
    let over = c.excess-over.result in
    let each = c.each_of-each.result in
    let rest = c.rest_of-rest.result in
    c.share.ensures
    ∙ ap (λ (l : List ℕ). one_by_one rest (map (λ m. m + each) l)) c.clip_bins.ensures
    ∙ shared-from over (map (clipped limit) hs) each rest c.each_of-each.ensures
    (c.rest_of-rest.ensures ∙ ap (λ (y : Float). round_as_u64 (sub binary64 over (mul binary64 y levels64))) c.nearest_u64_to_f64.ensures)
    ∙ ap (λ (o : Float). shared o (map (clipped limit) hs)) c.excess-over.ensures
