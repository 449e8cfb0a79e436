-- `pipeline::windows::either_tiles_refused` meets its contract: both bands have the same sides. Assumes nothing.
use mathlib.Core.Path.{sym, ap, ◌∙◌}
use Rattle.pipeline.specs.Windows.{window_tiles_refused}
use Rattle.pipeline.proofs.windows.either_tiles_refused.Goals as goal

pub returns-else-window_tiles_refused : goal.returns-else-window_tiles_refused
returns-else-window_tiles_refused c =
    rw (sym c.window_tiles_refused.ensures ∙ c.if-window_tiles_refused.false)
    (c.window_tiles_refused-else-window_tiles_refused.ensures ∙ ap (λ s. window_tiles_refused c.args.strategy s.rows s.cols c.args.windows.second) c.args.scene.now.alike)
