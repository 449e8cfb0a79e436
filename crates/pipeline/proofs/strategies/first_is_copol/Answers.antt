-- `pipeline::strategies::first_is_copol` meets its contract. Assumes nothing.
use mathlib.Core.Path.{◌≡◌, refl, sym, ap}
use mathlib.Core.Bool.{false}
use Rattle.types.specs.declared.CoPol.{CoPol}
use Rattle.types.specs.declared.CoPol.TheVariants.{Band1, Band2}
use Rattle.spec.specs.Copol.{first_is_copol}
use Rattle.pipeline.proofs.strategies.first_is_copol.Goals as goal

pub returns-in-Band1 : goal.returns-in-Band1
unfolding first_is_copol
returns-in-Band1 c = sym (ap first_is_copol c.in-Band1.is)

other : (copol : CoPol) → (copol ≡ Band1 → ⊥) → false ≡ first_is_copol copol
unfolding first_is_copol
other Band1 h = absurd (h refl)
other Band2 h = refl

pub returns-in_default : goal.returns-in_default
returns-in_default c = other c.args.copol c.in_default.not-Band1
