-- The full value of a depth: at least 0, at most 65535.0. Assumes nothing.
use Rattle.std.proofs.Common.{T}
use lib.Ieee.{le, of_bits}
use Rattle.spec.specs.Floats.{zero64}
use Rattle.spec.specs.Value.{full16}
use Rattle.spec.specs.Gamma.{BitDepth, U8, U16, full_of}

pub full_least : (d : BitDepth) → T (le zero64 (full_of d))
unfolding le of_bits
full_least U8 = tt
full_least U16 = tt

pub full_small : (d : BitDepth) → T (le (full_of d) full16)
unfolding le of_bits
full_small U8 = tt
full_small U16 = tt
