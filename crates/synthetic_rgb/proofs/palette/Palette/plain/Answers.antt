-- `synthetic_rgb::palette::Palette::plain` meets its contract: the tables are those of the default colours. Assumes nothing.
use Rattle.synthetic_rgb.specs.Palette.{red_of, green_of, scale_of}
use Rattle.synthetic_rgb.proofs.palette.Palette.plain.Goals as goal

pub invariant_of-result : goal.invariant_of-result
unfolding red_of green_of scale_of
invariant_of-result c = record { fits = record { reds = c.plain.ensures.red; greens = c.plain.ensures.green; ratios = c.plain.ensures.blue } }
