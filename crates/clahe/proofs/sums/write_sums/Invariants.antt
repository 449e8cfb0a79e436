-- `clahe::sums::write_sums` meets its contract. The invariant: the sums before b are written, and the sum so far is that of the bins before b. Assumes nothing.
use Rattle.std.proofs.Common.{◌≡◌, ℕ, ◌*◌, ◌^◌, ◌<◌, ◌≤◌, length, get_or, take}
use lib.Ieee.{nan}
use Rattle.spec.specs.Clahe.{sum_at}
use Rattle.spec.specs.Lists.{sum_of}
use Rattle.clahe.proofs.sums.write_sums.Given as goal

abbrev pub invariant-loop-b : goal.invariant-loop-b
invariant-loop-b l =
    (l.b ≤ 256) × (length l.sums ≡ 256) × (l.so_far ≤ l.b * 2 ^ 32) × (l.so_far ≡ sum_of (take l.b l.hist))
    × ((k : ℕ) → k < l.b → get_or l.sums k nan ≡ sum_at l.hist k)
