-- `synthetic_rgb::floor::count_both` meets its contract: the counts of one band, then of the other, by storing, are those of both. Assumes nothing.
use mathlib.Core.Path.{ap, ◌∙◌}
use mathlib.Core.List.{List, ◌++◌}
use Prim.Native.Nat.{ℕ}
use native.Mathlib.Omega.{arith}
use lib.ListN.{replicate}
use Rattle.spec.specs.Lists.{stored}
use Rattle.lists.proofs.Counts.{stored-most, stored-append, stored-counts, zeros-at}
use Rattle.synthetic_rgb.proofs.Counted.{below_all, below-append}
use borrow.Author.Rules.{rules}
use Rattle.synthetic_rgb.proofs.floor.count_both.Goals as goal

pub count_levels-requires : goal.count_levels-requires
count_levels-requires c = (search rules, λ k. omega (arith, zeros-at 256 k))

pub count_levels-requires-2 : goal.count_levels-requires-2
count_levels-requires-2 c = (
  search rules,
  λ k. rw c.count_levels.ensures (omega (arith, stored-most (replicate 256 0) c.args.band1_data.now 0 (λ j. omega (arith, zeros-at 256 j)) k)),
)

pub returns : goal.returns
returns c =
    let b1 = c.args.band1_data.now in
    let b2 = c.args.band2_data.now in
    let bytes = below-append 256 b1 b2 (below_all 256 b1 (λ j h. omega (arith, c.type_inv.band1_data j))) (below_all 256 b2 (λ j h. omega (arith, c.type_inv.band2_data j))) in
    c.count_levels-2.ensures ∙ ap (λ (h : List ℕ). stored h b2) c.count_levels.ensures ∙ stored-append (replicate 256 0) b1 b2 ∙ stored-counts 256 (b1 ++ b2) bytes
