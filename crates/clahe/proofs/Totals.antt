-- Running sums of a list, one element after another. Assumes nothing.
use Rattle.std.proofs.Common.{◌≡◌, ℕ, zero, suc, ◌+◌, ◌*◌, ◌^◌, ◌<◌, ◌≤◌, List, [], ◌∷◌, length, get_or, take, sum, refl, ap, ◌∙◌, le_of_suc-le-suc, not-suc-le-zero, arith}
use Rattle.std.proofs.lemmas.List.Elements.{All-from_get_or}
use Rattle.std.proofs.lemmas.List.Sums.{sum_by-cons, sum_by-le}
use lib.Ieee.{Float, binary64, div}
use Rattle.spec.specs.Floats.{zero64, one64, of_count, max_float, clamp_float}
use Rattle.spec.specs.Lists.{sum_of}
use Rattle.spec.specs.Clahe.{sum_at}

-- the library's sum, and a bound on it
pub sum_is : (hs : List ℕ) → sum hs ≡ sum_of hs
unfolding sum_of
sum_is [] = refl
sum_is (h ∷ hs) = sum_by-cons (λ x. x) h hs ∙ ap (λ (n : ℕ). h + n) (sum_is hs)

pub sum_most : (hs : List ℕ) → ((i : ℕ) → get_or hs i 0 < 2 ^ 32) → sum hs ≤ length hs * 2 ^ 32
sum_most hs fits = sum_by-le (λ x. x) (2 ^ 32) hs (All-from_get_or (λ x. x ≤ 2 ^ 32) hs 0 (λ i h. omega (arith, fits i)))

pub sum-take : (hs : List ℕ) (i : ℕ) → i < length hs → sum_of (take (suc i) hs) ≡ sum_of (take i hs) + get_or hs i 0
unfolding sum_of
sum-take [] i h = absurd (not-suc-le-zero h)
sum-take (x ∷ hs) zero h = omega arith
sum-take (x ∷ hs) (suc i) h = ap (λ (m : ℕ). x + m) (sum-take hs i (le_of_suc-le-suc h)) ∙ omega arith

-- the running sum at bin b, from the sum so far and the whole
pub sum-at : (hs : List ℕ) (b sum : ℕ) (whole r : Float) → sum ≡ sum_of (take (suc b) hs) → whole ≡ max_float (of_count (sum_of hs)) one64
    → r ≡ clamp_float zero64 one64 (div binary64 (of_count sum) whole) → r ≡ sum_at hs b
unfolding sum_at
sum-at hs b sum whole r p q e = cc
