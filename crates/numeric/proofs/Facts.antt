-- What tests on a float show: that it is finite and no NaN, and what |x| is. Assumes nothing.
use Rattle.std.proofs.Common.{◌≡◌, zero, suc, ◌*◌, ◌^◌, ◌<◌, Bool, true, false, not, T, ℤ, pos, negsuc, sym, refl, subst, suc-le-suc, zero-le, arith, eqb→eq}
use lib.Pow.{pow-lt}
use lib.Ieee.{Float, nan, inf, fin, Format, binary64, neg, le, of_bits, fits}
use lib.Ieee.Scale.{finite}
use Rattle.std.specs.Float.{float_with_sign}
use Rattle.spec.specs.Floats.{abs_float}
use Rattle.numeric.proofs.Order.{finite-between}

-- a flag, as a test
pub holds : {b : Bool} → b ≡ true → T b
holds e = subst T (sym e) tt

pub fails : {b : Bool} → b ≡ false → T (not b)
fails e = subst (λ (b : Bool). T (not b)) (sym e) tt

-- ---- v >= -1000.0 and v <= 1000.0
abbrev pub thousand : Float
thousand = of_bits binary64 0x408f_4000_0000_0000

abbrev pub minus_thousand : Float
minus_thousand = neg thousand

pub bounded_finite : (v : Float) → T (le minus_thousand v) → T (le v thousand) → T (finite v)
unfolding neg of_bits
bounded_finite v h k = finite-between minus_thousand v thousand tt tt h k

-- ---- |x|
pub abs_is : (x : Float) → float_with_sign false x ≡ abs_float x
unfolding float_with_sign abs_float
abs_is nan = refl
abs_is (inf s) = refl
abs_is (fin s m e) = refl

-- ---- a zero
pub zero_exponent : (f : Format) (s : Bool) (e : ℤ) → T (fits f (fin s 0 e)) → e ≡ pos 0
unfolding fits
zero_exponent f s (pos zero) h = refl
zero_exponent f s (pos (suc k)) h =
    let a : 1 < 2 ^ suc k = pow-lt {i = 0} {j = suc k} (suc-le-suc zero-le) in
    let b : 2 ^ suc k * 1 ≡ 1 = eqb→eq (2 ^ suc k * 1) 1 h in
    absurd (omega arith)
zero_exponent f s (negsuc k) h =
    let a : 1 < 2 ^ suc k = pow-lt {i = 0} {j = suc k} (suc-le-suc zero-le) in
    let b : 1 * 2 ^ suc k ≡ 1 = eqb→eq (1 * 2 ^ suc k) 1 h in
    absurd (omega arith)
