-- `synthetic_rgb::compose_by_mode_and_strategy` meets its contract: each arm has the colours of its strategies. Assumes nothing.
use mathlib.Core.Path.{◌≡◌, refl, ap}
use mathlib.Core.Bool.{true, false}
use mathlib.Core.Logic.{◌⊎◌, inl, inr}
use native.Mathlib.Omega.{arith}
use Rattle.types.specs.declared.AutoscaleStrategy.{AutoscaleStrategy}
use Rattle.types.specs.declared.AutoscaleStrategy.TheVariants.{Standard, Robust, Adaptive, Equalized, Clahe, Tamed, Default}
use Rattle.spec.specs.Strategies.{is_clahe, is_tamed, is_suppressed}
use Rattle.spec.specs.Colour.{colours_of}
use Rattle.synthetic_rgb.proofs.Rules.{colour-plain, colour-suppressed}
use Rattle.synthetic_rgb.proofs.Counted.{floor_range}
use Rattle.synthetic_rgb.proofs.compose_by_mode_and_strategy.Goals as goal

-- what each arm of the match says of the strategy
suppressed-arm : (s : AutoscaleStrategy) → (s ≡ Tamed) ⊎ (s ≡ Clahe) → is_suppressed s ≡ true
unfolding is_tamed is_clahe
suppressed-arm s (inl e) = ap is_suppressed e
suppressed-arm s (inr e) = ap is_suppressed e

other_arm : (s : AutoscaleStrategy) → (s ≡ Clahe → ⊥) → (s ≡ Tamed → ⊥) → is_suppressed s ≡ false
unfolding is_tamed is_clahe
other_arm Standard k m = refl
other_arm Robust k m = refl
other_arm Adaptive k m = refl
other_arm Equalized k m = refl
other_arm Clahe k m = absurd (k refl)
other_arm Tamed k m = absurd (m refl)
other_arm Default k m = refl

pub suppressed-requires : goal.suppressed-requires
suppressed-requires c = rw c.floor_level-f.ensures (floor_range c.args.band1_data.now c.args.band2_data.now)

pub returns-in-Tamed : goal.returns-in-Tamed
unfolding colours_of
returns-in-Tamed c =
    let a = c.args in
    let r = floor_range a.band1_data.now a.band2_data.now in
    let e = c.floor_level-f.ensures in
    rw (suppressed-arm a.strategy c.in-Tamed.is, ← e, ← colour-suppressed c.floor_level-f.result (omega arith), ← c.suppressed.ensures) c.colours.ensures

pub returns-in_default : goal.returns-in_default
unfolding colours_of
returns-in_default c =
    rw (other_arm c.args.strategy c.in_default.not-Clahe c.in_default.not-Tamed, ← colour-plain, ← c.plain.ensures) c.colours-in_default.ensures
