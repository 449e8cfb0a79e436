-- `padding::place_rows` meets its contract. The invariant: the rows before `row` are in place. Assumes nothing.
use Rattle.padding.proofs.Square.{none, fits, next, finish}
use Rattle.padding.proofs.place_rows.Goals as goal

pub loop-row-init : goal.loop-row-init
loop-row-init g c = none _ _ _ _ _ _ c.requires.1 c.clear.ensures

pub copy_row-requires : goal.copy_row-requires
copy_row-requires g c =
    fits _ _ _ _ c.requires.0 _ c.loop-row-test.true _ _ (cc) c.loop-row.invariant

pub loop-row-preserved : goal.loop-row-preserved
loop-row-preserved g c =
    next _ _ _ _ c.requires.0 _ c.loop-row-test.true _ _ (cc) c.loop-row.invariant _ c.copy_row.ensures

pub returns : goal.returns
returns g c = finish _ _ _ _ _ _ c.loop-row.invariant c.loop-row-test.false
