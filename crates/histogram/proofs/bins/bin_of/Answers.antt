-- `histogram::bins::bin_of` meets its contract. Assumes nothing.
use Rattle.histogram.proofs.Filling.{place_small, bin_is}
use Rattle.histogram.proofs.bins.bin_of.Goals as goal

pub trunc_small-bin-requires : goal.trunc_small-bin-requires
trunc_small-bin-requires c = let r = place_small _ _ c.clamp_f64-t.ensures in record {
  fact_1 = r.0;
  fact_2 = r.1;
}

pub returns : goal.returns
returns c = bin_is _ _ _ _ _ c.clamp_f64-t.ensures c.trunc_small-bin.ensures _ c.min.ensures
