-- Two counts added as f64 are exact. Assumes nothing.
use Rattle.std.proofs.Common.{◌≡◌, ℕ, ◌+◌, ◌*◌, ◌^◌, ◌≤◌, false, ap, ◌∙◌, arith, lit<}
use lib.Ieee.{binary64, add, round, of_int}
use Rattle.spec.specs.Floats.{of_count}
use Rattle.numeric.proofs.Values.{add-values, count-value}

pub count_add : (a b : ℕ) → a ≤ 2 ^ 53 → b ≤ 2 ^ 53 → add binary64 (of_count a) (of_count b) ≡ of_count (a + b)
unfolding of_int
count_add a b h g =
    add-values binary64 (of_count a) (of_count b) a b 1 1 (lit< tt) (lit< tt) (count-value a h) (count-value b g)
    ∙ ap (λ (n : ℕ). round binary64 false n 1) (let e : a * 1 + b * 1 ≡ a + b = omega arith in e)
