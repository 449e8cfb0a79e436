-- `autoscale::clip::picture_clip` meets its contract. Assumes nothing.
use mathlib.Core.Path.{◌≡◌, refl}
use mathlib.Core.Bool.{false}
use Rattle.types.specs.declared.AutoscaleStrategy.{AutoscaleStrategy}
use Rattle.types.specs.declared.AutoscaleStrategy.TheVariants.{Standard, Robust, Adaptive, Equalized, Clahe, Tamed, Default}
use Rattle.spec.specs.Strategies.{is_tamed}
use Rattle.autoscale.proofs.clip.picture_clip.Goals as goal

-- a strategy that is not Tamed is one of the other six
untamed : (s : AutoscaleStrategy) → (s ≡ Tamed → ⊥) → is_tamed s ≡ false
unfolding is_tamed
untamed Standard h = refl
untamed Robust h = refl
untamed Adaptive h = refl
untamed Equalized h = refl
untamed Clahe h = refl
untamed Tamed h = absurd (h refl)
untamed Default h = refl

pub returns-in-Tamed : goal.returns-in-Tamed
unfolding is_tamed
returns-in-Tamed c = rw c.in-Tamed.is c.tamed_clip.ensures

pub returns-in_default : goal.returns-in_default
returns-in_default c = rw (untamed c.args.strategy c.in_default.not-Tamed) c.choose_clip.ensures
