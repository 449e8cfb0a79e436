-- `pipeline::strategies::second_is_copol` meets its contract. Assumes nothing.
use mathlib.Core.Path.{◌≡◌, refl, sym, ap}
use mathlib.Core.Bool.{false}
use Rattle.types.specs.declared.CoPol.{CoPol}
use Rattle.types.specs.declared.CoPol.TheVariants.{Band1, Band2}
use Rattle.spec.specs.Copol.{second_is_copol}
use Rattle.pipeline.proofs.strategies.second_is_copol.Goals as goal

pub returns-in-Band2 : goal.returns-in-Band2
unfolding second_is_copol
returns-in-Band2 c = sym (ap second_is_copol c.in-Band2.is)

other : (copol : CoPol) → (copol ≡ Band2 → ⊥) → false ≡ second_is_copol copol
unfolding second_is_copol
other Band2 h = absurd (h refl)
other Band1 h = refl

pub returns-in_default : goal.returns-in_default
returns-in_default c = other c.args.copol c.in_default.not-Band2
