-- `synthetic_rgb::palette::Palette::suppressed` meets its contract: the tables are those of the floor. Assumes nothing.
use Rattle.synthetic_rgb.specs.Palette.{red_of, green_of, scale_of}
use Rattle.synthetic_rgb.proofs.palette.Palette.suppressed.Goals as goal

pub invariant_of-result : goal.invariant_of-result
unfolding red_of green_of scale_of
invariant_of-result c =
    let f = c.from.ensures in
    record { fits = record { reds = rw f at c.above.ensures.red; greens = rw f at c.above.ensures.green; ratios = c.above.ensures.blue } }
