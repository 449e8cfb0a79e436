-- `histogram::bins::count_bins` meets its contract. Assumes nothing.
use mathlib.Core.Path.{sym, ◌∙◌}
use lib.ListN.{length}
use Rattle.spec.specs.Moments.{span_of}
use Rattle.histogram.proofs.Filling.{room_of}
use Rattle.histogram.proofs.Summaries.{flat_filled, spread_filled}
use Rattle.histogram.proofs.bins.count_bins.Goals as goal

pub returns-then-is_flat : goal.returns-then-is_flat
returns-then-is_flat c =
    flat_filled _ _ (sym c.is_flat.ensures ∙ c.if-is_flat.true) _ c.requires.0 _ c.requires.1

pub fill_bins-requires : goal.fill_bins-requires
fill_bins-requires c =
    room_of c.args.hist.now (length c.args.band.now.pixels.db.now) c.requires.0 c.args.band.now.short

pub returns : goal.returns
unfolding span_of
returns c =
    spread_filled _ _ (sym c.is_flat.ensures ∙ c.if-is_flat.false) _ _ c.requires.0 c.fill_bins.ensures
