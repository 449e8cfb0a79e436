-- `pipeline::windows::window_tiles_refused` meets its contract. Assumes nothing.
use mathlib.Core.Path.{sym, ◌∙◌}
use Rattle.pipeline.specs.Windows.{window_tiles_refused}
use Rattle.pipeline.proofs.Windowed.{tiles_blank, tiles_open}
use Rattle.pipeline.proofs.windows.window_tiles_refused.Goals as goal

pub returns-then-is_none : goal.returns-then-is_none
returns-then-is_none c = tiles_blank _ _ _ c.args.window (c.if-is_none.ensures)

pub returns-then-is_clahe : goal.returns-then-is_clahe
returns-then-is_clahe c =
    c.either_side_refused.ensures ∙ tiles_open _ _ _ c.args.window (c.if-is_none.ensures) (sym c.is_clahe.ensures ∙ c.if-is_clahe.true)

pub returns-else-is_clahe : goal.returns-else-is_clahe
unfolding window_tiles_refused
returns-else-is_clahe c = rw (sym c.is_clahe.ensures ∙ c.if-is_clahe.false) c.if-is_clahe.false
