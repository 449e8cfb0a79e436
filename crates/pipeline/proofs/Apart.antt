-- A strategy whose tag is one of the other six does not stand apart. Assumes nothing.
use mathlib.Core.Path.{◌≡◌, refl}
use mathlib.Core.Bool.{false}
use Rattle.types.specs.declared.AutoscaleStrategy.{AutoscaleStrategy}
use Rattle.types.specs.declared.AutoscaleStrategy.TheVariants.{Standard, Robust, Adaptive, Equalized, Clahe, Tamed, Default}
use Rattle.spec.specs.Strategies.{is_clahe, is_tamed}

pub not_clahe : (s : AutoscaleStrategy) → (s ≡ Clahe → ⊥) → false ≡ is_clahe s
unfolding is_clahe
not_clahe Standard h = refl
not_clahe Robust h = refl
not_clahe Adaptive h = refl
not_clahe Equalized h = refl
not_clahe Clahe h = absurd (h refl)
not_clahe Tamed h = refl
not_clahe Default h = refl

pub not_tamed : (s : AutoscaleStrategy) → (s ≡ Tamed → ⊥) → false ≡ is_tamed s
unfolding is_tamed
not_tamed Standard h = refl
not_tamed Robust h = refl
not_tamed Adaptive h = refl
not_tamed Equalized h = refl
not_tamed Clahe h = refl
not_tamed Tamed h = absurd (h refl)
not_tamed Default h = refl
