-- `histogram::place::placed_pass` meets its contract. Assumes nothing.
use Prim.Native.Nat.{ℕ}
use Rattle.std.proofs.Common.{rules}
use Rattle.types.specs.declared.Moments.{Moments}
use Rattle.spec.specs.Moments.{with_value}
use Rattle.histogram.proofs.Passes.{callable_counting, none_counted, placed_pass_is}
use Rattle.histogram.proofs.place.placed_pass.Goals as goal

pub gather_valid-requires : goal.gather_valid-requires
unfolding with_value
gather_valid-requires c =
    callable_counting _ _ (λ (s : Moments × ℕ). s.0.count) (λ s v i h. search rules) (λ s v i t p. search rules) _ _ _ (none_counted _ c.no_moments.ensures) c.args.band.now.pixels.alike c.args.band.now.short

pub returns : goal.returns
returns c = placed_pass_is _ (λ s v i t p. search rules) _ c.no_moments.ensures _ _ c.gather_valid.ensures
