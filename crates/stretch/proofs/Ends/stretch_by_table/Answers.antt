-- `stretch::Ends::stretch_by_table` meets its contract: each value is at most hi, so its entry is filled. Assumes nothing.
use mathlib.Core.Path.{◌∙◌}
use native.Mathlib.Omega.{arith}
use lib.ListN.{get_or}
use Rattle.spec.specs.Stretch.{stretch_byte}
use Rattle.stretch.proofs.Loops.{under-highest, map_agree}
use Rattle.stretch.proofs.Ends.stretch_by_table.Goals as goal

pub returns : goal.returns
returns c =
    let a = c.args in
    let xs = a.«data».now in
    c.look_up.ensures ∙ map_agree (λ x. get_or c.fill_table.new.table x 0) (stretch_byte a.self.lo a.self.hi) 0 xs
    (λ k h. c.fill_table.ensures (get_or xs k 0) (omega (arith, under-highest 0 xs k h, c.requires.fact_2, c.from.ensures)))
