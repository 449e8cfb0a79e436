-- `clahe::counts::level` meets its contract: 255 times a value from 0.0 to 1.0 lies between 0 and 255. Assumes nothing.
use Rattle.std.proofs.Common.{◌∙◌, arith}
use Rattle.spec.specs.Value.{full8, full16}
use Rattle.spec.specs.Gamma.{U8}
use Rattle.numeric.proofs.Order.{le_trans}
use Rattle.numeric.proofs.Full.{full_small}
use Rattle.clahe.proofs.Scaled.{scale, unheld_within}
use Rattle.clahe.proofs.Within.{level_alike}
use Rattle.clahe.proofs.counts.level.Goals as goal

pub round_small-requires : goal.round_small-requires
round_small-requires c = let r = unheld_within (scale U8) _ c.held.ensures.0 in record {
  fact_1 = r.0;
  fact_2 = le_trans _ full8 full16 r.1 (full_small U8);
}

pub overflow_cast-result : goal.overflow_cast-result
overflow_cast-result c = omega (arith, c.round_small.ensures, (level_alike c.args.u _ c.held.ensures.1).1)

pub returns : goal.returns
returns c = c.round_small.ensures ∙ (level_alike c.args.u _ c.held.ensures.1).0
