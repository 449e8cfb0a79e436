-- `stretch::Ends::of` meets its contract. The invariant: the ends of what is left, from those so far, are the whole list's. Assumes nothing.
use mathlib.Core.Path.{sym, ap, ◌∙◌}
use mathlib.Core.List.{map}
use native.Mathlib.Omega.{arith}
use lib.ListN.{drop_of_length-le, length-map}
use Rattle.spec.specs.Lists.{lowest, highest}
use Rattle.lists.proofs.Places.{map_at}
use Rattle.stretch.proofs.Loops.{lowest_more, highest_more}
use Rattle.stretch.proofs.Ends.of.Goals as goal

pub loop-value-preserved : goal.loop-value-preserved
loop-value-preserved g c =
    let level = g.T.Level.level in
    let vs = c.args.values.now in
    let xs = map level vs in
    let l = c.loop-value in
    let i = l.value-index in
    let n = length-map vs level in
    let x = c.level-x.ensures ∙ ap level c.value-item.is ∙ sym (map_at level _ 0 vs i (omega arith)) in (
      omega arith,
      rw (c.min-lo.ensures, x) (lowest_more l.lo (lowest 65535 xs) xs i (omega arith) l.invariant.1),
      rw (c.max-hi.ensures, x) (highest_more l.hi (highest 0 xs) xs i (omega arith) l.invariant.2),
    )

pub returns : goal.returns
unfolding lowest highest
returns g c =
    let xs = map g.T.Level.level c.args.values.now in
    let n = length-map c.args.values.now g.T.Level.level in
    let none = drop_of_length-le xs (omega arith) in
    (sym (ap (lowest c.loop-value.lo) none) ∙ c.loop-value.invariant.1, sym (ap (highest c.loop-value.hi) none) ∙ c.loop-value.invariant.2)
