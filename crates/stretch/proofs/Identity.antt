-- Between the ends 0 and 255 each byte is its own. Assumes nothing.
use mathlib.Core.Path.{◌≡◌, ◌∙◌}
use mathlib.Core.Bool.{Bool}
use mathlib.Core.List.{List, map, map-id}
use Prim.Native.Nat.{ℕ, ◌<◌}
use lib.Dec.{T, eqb, eqb→eq}
use lib.ListN.{get_or, replicate}
use lib.Ieee.{sub, mul, div, round, of_int, of_bits}
use Rattle.spec.specs.Floats.{round_as_u64}
use Rattle.spec.specs.Stretch.{stretch_byte}
use Rattle.lists.proofs.Table.{every, at}
use Rattle.stretch.proofs.Loops.{map_agree}

-- one computed test over the 256 bytes
abbrev same : ℕ → ℕ → Bool
same k x = eqb (stretch_byte 0 255 k) k

all_same : T (every same 0 (replicate 256 0))
unfolding stretch_byte round_as_u64 sub mul div round of_int of_bits
all_same = tt

pub full_byte : (k : ℕ) → k < 256 → stretch_byte 0 255 k ≡ k
full_byte k h = eqb→eq (stretch_byte 0 255 k) k (at 0 same (replicate 256 0) all_same k h)

pub full_same : (xs : List ℕ) → ((k : ℕ) → get_or xs k 0 < 256) → map (stretch_byte 0 255) xs ≡ xs
full_same xs h = map_agree (stretch_byte 0 255) (λ x. x) 0 xs (λ k l. full_byte (get_or xs k 0) (h k)) ∙ map-id xs
