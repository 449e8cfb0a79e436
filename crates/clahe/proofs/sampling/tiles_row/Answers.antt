-- `clahe::sampling::tiles_row` meets its contract. Assumes nothing.
use Rattle.std.proofs.Common.{ℕ, ◌+◌, ◌-◌, ◌*◌, ◌≡◌, take, drop, ap, arith}
use Rattle.clahe.proofs.sampling.tiles_row.Goals as goal

pub returns : goal.returns
returns c =
    let n : c.args.ty * 2048 + 2048 - c.args.ty * 2048 ≡ 2048 = omega arith in ap (λ (n : ℕ). take n (drop (c.args.ty * 2048) c.args.work.now)) n
