-- `clahe::paint::row_shades` meets its contract: the values of its two parts, one behind the other. Assumes nothing.
use Rattle.std.proofs.Common.{refl}
use Rattle.spec.specs.Gamma.{full_of}
use Rattle.clahe.proofs.Shades.{joined}
use Rattle.clahe.proofs.paint.row_shades.Goals as goal

pub returns : goal.returns
returns g c =
    let a = c.args in
    joined (full_of g.D.Depth.depth) a.row.now g.D.Depth.of g.D.Depth.level a.valid_mask.now a.columns.now a.out.now a.from c.requires.sized.2 c.requires.sized.0 c.requires.sized.1 _ _ _
    c.part_shades.ensures refl c.part_shades-2.ensures
