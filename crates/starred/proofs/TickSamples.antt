-- The samples of F-6 hold, each by computation. Assumes nothing.
use mathlib.Core.Path.{refl}
use Rattle.starred.specs.Computing.{computing}
use Rattle.starred.specs.TickSamples.{TickSamples}

pub tick_samples : TickSamples
unfolding computing
tick_samples =
    record {
      four_median = refl;
      four_p05 = refl;
      four_p95 = refl;
      four_first = refl;
      four_last = refl;
      four_sum = refl;
      level_p95 = refl;
      level_first = refl;
      one_p95 = refl;
      blank_median = refl;
      blank_sum = refl;
      short = refl;
      long_side = refl;
    }
