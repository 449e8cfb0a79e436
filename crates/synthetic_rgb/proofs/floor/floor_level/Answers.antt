-- `synthetic_rgb::floor::floor_level` meets its contract: the first level of the counts of both bands, with the cushion. Assumes nothing.
use mathlib.Core.Path.{ap, ◌∙◌}
use Prim.Native.Nat.{ℕ, ◌+◌, ◌/◌, min}
use lib.ListN.{length}
use Rattle.spec.specs.Colour.{first_level, floor_level}
use Rattle.synthetic_rgb.proofs.floor.floor_level.Goals as goal

pub returns : goal.returns
unfolding floor_level
returns c =
    let b = c.args.bands.now in
    c.cushioned.ensures
    ∙ ap (λ (n : ℕ). min (n + 3) 40) (c.first_level.ensures.0 ∙ ap (first_level ((length b.first.now + length b.second.now + 10) / 20) 0 0) c.count_both-histogram.ensures)
