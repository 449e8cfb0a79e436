-- `quicklook::copol::put_both` meets its contract. Assumes nothing.
use Rattle.quicklook.specs.Numbers.{blanks_of, floats_of_both}
use Rattle.quicklook.proofs.copol.put_both.Goals as goal

pub returns : goal.returns
unfolding blanks_of floats_of_both
returns c =
    let a = c.floats_or_zeros-a.ensures in
    let b = c.floats_or_zeros-b.ensures in
    let v = c.blank_mark.ensures in
    let w = c.blank_mark-2.ensures in
    (cc, cc)
