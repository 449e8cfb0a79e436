-- `stretch_byte` rises with the value, whatever the ends. Assumes nothing.
use mathlib.Core.Path.{◌≡◌, refl, sym, ◌∙◌}
use Prim.Native.Nat.{ℕ, ◌+◌, ◌*◌, ◌^◌, ◌≤◌, ◌<◌, min, zero-le}
use native.Mathlib.Omega.{arith}
use native.Mathlib.Nat.{mul_assoc, mul_comm, mul_left_comm, mul-le-mul_right, mul-one, mul-pos}
use mathlib.Core.Bool.{Bool, true, false, cond}
use lib.Dec.{T, ltb, lit<}
use borrow.Author.Tests.{ltb-true}
use lib.Ieee.{Float, nan, inf, fin, binary32, round, sub, mul, div, le, of_int, of_bits}
use lib.Ieee.Back.{round_whole}
use lib.Ieee.Exact.{HasValue}
use lib.Ieee.Positive.{num, den, den_pos, positive, positive-finite, between}
use lib.Ieee.Scale.{finite}
use Rattle.spec.specs.Floats.{round_as_u64}
use Rattle.spec.specs.Stretch.{of16, stretch_byte}
use Rattle.numeric.proofs.Order.{plus, less, le→cross}
use Rattle.numeric.proofs.Round.{Rounds, rounds-le}
use Rattle.numeric.proofs.Picks.{of_int-le, round_as_u64-le}
use Rattle.numeric.proofs.Values.{value-finite, value_plus, value_less}
use Rattle.numeric.proofs.Ops.{sub-le, mul-le, sub-rounds, div-rounds, num_pos}

abbrev full32 : Float
full32 = of_bits binary32 0x437f_0000

-- (x - lo) * (255.0 / (hi - lo))
abbrev scaled : ℕ → ℕ → ℕ → Float
scaled lo hi x = mul binary32 (sub binary32 (of16 x) (of16 lo)) (div binary32 full32 (sub binary32 (of16 hi) (of16 lo)))

-- ---- whole numbers
whole_value : (k : ℕ) → k ≤ 2 ^ 24 → HasValue (of16 k) false k 1
unfolding of_int
whole_value k h = round_whole binary32 false k h

parts : (x : Float) (a : ℕ) → HasValue x false a 1 → T (finite x) × (plus x ≡ a * den x) × (less x ≡ 0)
parts x a h = (value-finite x a 1 h, sym (mul-one (plus x)) ∙ value_plus x a 1 h, value_less x a 1 h)

-- ---- 2 ^ -9, 1.0, 255.0 and 65535.0, as rounded fractions
abbrev least32 : Float
least32 = of_bits binary32 0x3b00_0000

abbrev one32 : Float
one32 = of_bits binary32 0x3f80_0000

abbrev top32 : Float
top32 = of_bits binary32 0x477f_ff00

least-rounds : Rounds binary32 least32 1 0 512
unfolding round of_bits
least-rounds = record { sign = false; size = 1; is = refl; value = refl }

one-rounds : Rounds binary32 one32 1 0 1
unfolding round of_bits
one-rounds = record { sign = false; size = 1; is = refl; value = refl }

full_rounds : Rounds binary32 full32 255 0 1
unfolding round of_bits
full_rounds = record { sign = false; size = 255; is = refl; value = refl }

top_rounds : Rounds binary32 top32 65535 0 1
unfolding round of_bits
top_rounds = record { sign = false; size = 65535; is = refl; value = refl }

-- ---- hi - lo, from 1.0 to 65535.0
apart : (a b dx dy px lx py ly : ℕ) → px ≡ a * dx → lx ≡ 0 → py ≡ b * dy → ly ≡ 0 → b < a → 1 * (dx * dy) + (lx * dy + py * dx) * 1 ≤ (px * dy + ly * dx) * 1 + 0 * (dx * dy)
apart a b dx dy px lx py ly p l q m h =
    let g = simp (mul_comm, mul_left_comm) at (mul-le-mul_right (dx * dy) h) in
    rw (p, l, q, m) (simp (mul_assoc, mul_comm) (omega (arith, g)))

within : (a b dx dy px lx py ly : ℕ) → px ≡ a * dx → lx ≡ 0 → py ≡ b * dy → ly ≡ 0 → a ≤ 65535 → (px * dy + ly * dx) * 1 + 0 * (dx * dy) ≤ 65535 * (dx * dy) + (lx * dy + py * dx) * 1
within a b dx dy px lx py ly p l q m h =
    let g = mul-le-mul_right (dx * dy) h in
    rw (p, l, q, m) (simp (mul_assoc, mul_comm) (omega (arith, g)))

parts_of : (z : Float) → T (positive z) → (plus z ≡ num z) × (less z ≡ 0)
parts_of nan p = absurd p
parts_of (inf s) p = absurd p
parts_of (fin true m e) p = absurd p
parts_of (fin false m e) p = (refl, refl)

-- 255.0 over a value from 1.0 to 65535.0 is from 2 ^ -9 to 255.0
over_ge : (d : Float) → T (positive d) → T (le d top32) → T (le least32 (div binary32 full32 d))
unfolding of_bits
over_ge d p k =
    let c = le→cross d top32 (positive-finite d p) tt k in
    rounds-le binary32 least32 (div binary32 full32 d) 1 0 512 (plus full32 * den d) (less full32 * den d) (num d * den full32)
    (lit< tt) (mul-pos (num_pos d p) (den_pos full32)) least-rounds (div-rounds binary32 full32 d tt p) (omega (arith, parts_of d p))

over-le : (d : Float) → T (positive d) → T (le one32 d) → T (le (div binary32 full32 d) full32)
unfolding of_bits
over-le d p h =
    let c = le→cross one32 d tt (positive-finite d p) h in
    rounds-le binary32 (div binary32 full32 d) full32 (plus full32 * den d) (less full32 * den d) (num d * den full32) 255 0 1
    (mul-pos (num_pos d p) (den_pos full32)) (lit< tt) (div-rounds binary32 full32 d tt p) full_rounds (omega (arith, parts_of d p))

scale_positive : (lo hi : ℕ) → lo < hi → hi ≤ 65535 → T (positive (div binary32 full32 (sub binary32 (of16 hi) (of16 lo))))
unfolding of_bits
scale_positive lo hi h k =
    let x = of16 hi in
    let y = of16 lo in
    let X = parts x hi (whole_value hi (omega arith)) in
    let Y = parts y lo (whole_value lo (omega arith)) in
    let d = sub binary32 x y in
    let r = sub-rounds binary32 x y X.0 Y.0 in
    let c = mul-pos (den_pos x) (den_pos y) in
    let low : T (le one32 d) =
    rounds-le binary32 one32 d 1 0 1 (plus x * den y + less y * den x) (less x * den y + plus y * den x) (den x * den y) (lit< tt) c one-rounds r
    (apart hi lo (den x) (den y) (plus x) (less x) (plus y) (less y) X.1 X.2 Y.1 Y.2 h) in
    let high : T (le d top32) =
    rounds-le binary32 d top32 (plus x * den y + less y * den x) (less x * den y + plus y * den x) (den x * den y) 65535 0 1 c (lit< tt) r top_rounds
    (within hi lo (den x) (den y) (plus x) (less x) (plus y) (less y) X.1 X.2 Y.1 Y.2 k) in
    let p = between one32 d top32 tt tt low high in
    between least32 (div binary32 full32 d) full32 tt tt (over_ge d p high) (over-le d p low)

-- where lo is below hi
rising : (lo hi x y : ℕ) → lo < hi → hi ≤ 65535 → x ≤ y → min (round_as_u64 (scaled lo hi x)) 255 ≤ min (round_as_u64 (scaled lo hi y)) 255
rising lo hi x y h k g =
    let q = div binary32 full32 (sub binary32 (of16 hi) (of16 lo)) in
    let a = sub-le binary32 (of16 lo) (parts (of16 lo) lo (whole_value lo (omega arith))).0 (of16 x) (of16 y) (of_int-le binary32 x y g) in
    let r = round_as_u64-le (scaled lo hi x) (scaled lo hi y) (mul-le binary32 q (scale_positive lo hi h k) (sub binary32 (of16 x) (of16 lo)) (sub binary32 (of16 y) (of16 lo)) a) in
    omega arith

-- Of two values the larger is stretched to no smaller byte, between any ends of a u16.
pub stretch_rises : (lo hi x y : ℕ) → hi ≤ 65535 → x ≤ y → stretch_byte lo hi x ≤ stretch_byte lo hi y
unfolding stretch_byte
stretch_rises lo hi x y k g = go (ltb lo hi) refl
  where
    go : (t : Bool) → ltb lo hi ≡ t → cond t (min (round_as_u64 (scaled lo hi x)) 255) 0 ≤ cond t (min (round_as_u64 (scaled lo hi y)) 255) 0
    go true e = rising lo hi x y (ltb-true lo hi e) k g
    go false e = zero-le
