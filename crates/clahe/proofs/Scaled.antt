-- A value held to 0..1 and scaled lies between 0 and the scale, and its level is below 256. Assumes nothing.
use Rattle.std.proofs.Common.{◌≡◌, ℕ, ◌+◌, ◌*◌, ◌/◌, ◌<◌, ◌≤◌, T, div-lt_iff_lt-mul, arith}
use lib.Ieee.{Float, binary64, mul, le, of_bits}
use lib.Ieee.Positive.{positive, den, den_pos}
use Rattle.numeric.proofs.Order.{plus, le_trans as le_trans', finite-between, le→cross}
use Rattle.numeric.proofs.Ops.{mul-le}
use Rattle.numeric.proofs.Picks.{clamped_lo, clamped_hi}
use Rattle.numeric.proofs.Values.{round_as_u64_of, nothing_less}
use Rattle.spec.specs.Floats.{zero64, one64, clamp_float, round_as_u64}
use Rattle.spec.specs.Value.{full8}
use Rattle.spec.specs.Gamma.{BitDepth, U8, U16, full_of}
use Rattle.spec.specs.Clahe.{level_of}
use Rattle.clahe.specs.Within.{InUnit}

-- the scale of a depth
pub record Scale (full : Float) : Type 0 where
  pub above : T (positive full)
  pub least : T (le zero64 (mul binary64 zero64 full))
  pub most : T (le (mul binary64 one64 full) full)

pub scale : (d : BitDepth) → Scale (full_of d)
unfolding le mul of_bits
scale U8 = record { above = tt; least = tt; most = tt }
scale U16 = record { above = tt; least = tt; most = tt }

pub unheld_within : {full : Float} (s : Scale full) (z : Float) → InUnit z → T (le zero64 (mul binary64 z full)) × T (le (mul binary64 z full) full)
unheld_within {full} s z u = (
  le_trans' zero64 (mul binary64 zero64 full) (mul binary64 z full) s.least (mul-le binary64 full s.above zero64 z u.0),
  le_trans' (mul binary64 z full) (mul binary64 one64 full) full (mul-le binary64 full s.above z one64 u.1) s.most,
)

-- what clamps to 0..1 give
pub held_unit : (z : Float) → InUnit (clamp_float zero64 one64 z)
unfolding of_bits le
held_unit z = (clamped_lo z zero64 one64 tt, clamped_hi z zero64 one64 tt)

-- ---- the level

over : (a d : ℕ) → 0 < d → a ≤ 255 * d → (a * 2 + d) / (d * 2) < 256
over a d h l = (div-lt_iff_lt-mul {k = d * 2} {x = a * 2 + d} {y = 256} (omega arith)).1 (omega arith)

round_as_u64_255 : (x : Float) → T (le zero64 x) → T (le x full8) → round_as_u64 x ≤ 255
unfolding of_bits
round_as_u64_255 x l h =
    let f = finite-between zero64 x full8 tt tt l h in
    let k = le→cross x full8 f tt h in
    omega (arith, round_as_u64_of x f, over (plus x) (den x) (den_pos x) (omega (arith, nothing_less x l, k)))

pub level_of_lem : (u : Float) (n : ℕ) → n ≡ round_as_u64 (mul binary64 (clamp_float zero64 one64 u) full8) → (n ≡ level_of u) × (n < 256)
unfolding level_of
level_of_lem u n e = let r = unheld_within (scale U8) (clamp_float zero64 one64 u) (held_unit u) in let h = round_as_u64_255 (mul binary64 (clamp_float zero64 one64 u) full8) r.0 r.1 in (omega arith, omega arith)
