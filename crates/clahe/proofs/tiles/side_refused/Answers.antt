-- `clahe::tiles::side_refused` meets its contract. Assumes nothing.
use Rattle.std.proofs.Common.{ℕ, ◌*◌, ltb, ap}
use Rattle.spec.specs.Refusals.{side_refused}
use Rattle.clahe.proofs.tiles.side_refused.Goals as goal

pub returns : goal.returns
unfolding side_refused
returns c = ap (λ (m : ℕ). ltb c.args.s (7 * m)) c.tile_side.ensures
