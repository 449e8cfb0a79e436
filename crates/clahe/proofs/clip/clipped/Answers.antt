-- `clahe::clip::clipped` meets its contract. Assumes nothing.
use Rattle.std.proofs.Common.{◌≡◌, ℕ, Bool, cond, sym, ap, ◌∙◌}
use lib.Ieee.{Float, lt, to_unsigned}
use Rattle.spec.specs.Floats.{of_count}
use Rattle.spec.specs.Clahe.{clipped}
use Rattle.clahe.proofs.clip.clipped.Goals as goal

-- what the test says of a bin decides between the limit and the bin
chosen : (limit : Float) (h : ℕ) (t : Bool) → lt limit (of_count h) ≡ t → cond t (to_unsigned 32 limit) h ≡ clipped limit h
unfolding clipped
chosen limit h t e = sym (ap (λ (t : Bool). cond t (to_unsigned 32 limit) h) e)

pub returns-then-from-limit : goal.returns-then-from-limit
returns-then-from-limit c = c.f64_as_u32.ensures ∙ chosen _ _ _ (rw c.from.ensures at c.if-from-limit.true)

pub returns-else-from-limit : goal.returns-else-from-limit
returns-else-from-limit c = chosen _ _ _ (rw c.from.ensures at c.if-from-limit.false)
