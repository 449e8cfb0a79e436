-- `clahe::sampling::sample` meets its contract. Assumes nothing.
use Rattle.clahe.proofs.Positions.{sampled-from}
use Rattle.clahe.proofs.sampling.sample.Goals as goal

pub returns : goal.returns
returns c =
    let a = c.args in
    sampled-from a.row.now a.x a.b _ _ _ _ _ _ _ c.sum_in.ensures c.sum_in-2.ensures c.blend-top.ensures
    c.sum_in-3.ensures c.sum_in-4.ensures c.blend-bottom.ensures c.blend.ensures
