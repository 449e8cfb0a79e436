-- `histogram::moments::extremes` meets its contract. Assumes nothing.
use Rattle.std.proofs.Common.{rules, refl}
use Rattle.types.specs.declared.Moments.{Moments}
use Rattle.histogram.specs.Extremes.{with_extreme, extremes_from}
use Rattle.histogram.specs.Passes.{extremes}
use Rattle.histogram.proofs.Passes.{callable_counting, none_counted, values_is}
use Rattle.histogram.proofs.moments.extremes.Goals as goal

pub gather_valid-requires : goal.gather_valid-requires
unfolding with_extreme
gather_valid-requires c =
    callable_counting _ _ (λ (s : Moments). s.count) (λ s v i h. search rules) (λ s v i t p. search rules) _ _ _ (none_counted _ c.no_moments.ensures) c.args.band.now.pixels.alike c.args.band.now.short

pub returns : goal.returns
unfolding extremes extremes_from
returns c = values_is with_extreme extremes_from (λ m. refl) (λ m v vs. refl) _ (λ s v i t p. search rules) _ c.no_moments.ensures _ _ c.gather_valid.ensures
