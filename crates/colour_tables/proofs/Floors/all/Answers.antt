-- `colour_tables::Floors::all` meets its contract: for each colour one test, computed over the tables of all floors. Assumes nothing.
use Prim.Native.Nat.{ℕ, ◌*◌, ◌-◌, ◌^◌}
use Rattle.spec.specs.Colour.{red_above, green_above}
use Rattle.colour_tables.proofs.Near.{tables_right}
use Rattle.colour_tables.proofs.Floors.all.Goals as goal

pub returns-clause-reds : goal.returns-clause-reds
unfolding red_above
returns-clause-reds c = tables_right 20 (λ (f : ℕ). (255 - f) ^ 23) (λ (f : ℕ) (v : ℕ). 510 ^ 20 * (v - f) ^ 23) _ tt

pub returns-clause-greens : goal.returns-clause-greens
unfolding green_above
returns-clause-greens c = tables_right 10 (λ (f : ℕ). (255 - f) ^ 11) (λ (f : ℕ) (v : ℕ). 510 ^ 10 * (v - f) ^ 11) _ tt
