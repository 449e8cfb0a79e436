-- `pipeline::bands::scale_bytes` meets its contract. Assumes nothing.
use Rattle.stretch.proofs.Loops.{of_levels}
use Rattle.stretch.proofs.Calls.{stretch_by}
use Rattle.pipeline.proofs.bands.scale_bytes.Goals as goal

pub returns : goal.returns
returns c =
    let xs = c.args.bytes.now in
    let e = of_levels xs c.of-ends.ensures in
    stretch_by _ _ xs _ e.0 e.1 c.stretch_bytes.ensures
