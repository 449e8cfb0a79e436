-- `raster::greatest_mark` meets its contract: the pass is the fold of `max`. Assumes nothing.
use mathlib.Core.Path.{◌≡◌, ◌∙◌}
use Prim.Native.Nat.{max}
use Rattle.std.proofs.Common.{rules}
use Rattle.std.specs.List.{fold}
use Rattle.raster.proofs.Passes.{fold-highest}
use Rattle.raster.proofs.greatest_mark.Goals as goal

pub returns : goal.returns
returns c =
    let ran : c.fold.result ≡ fold max 0 c.args.valid_mask.now = search rules in
    ran ∙ fold-highest 0 c.args.valid_mask.now
