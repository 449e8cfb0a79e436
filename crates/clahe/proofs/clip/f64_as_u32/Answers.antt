-- `clahe::clip::f64_as_u32` meets its contract: a number of 64 bits that does not fit becomes the greatest that does. Assumes nothing.
use Rattle.std.proofs.Common.{◌≡◌, ℕ, ◌-◌, ◌^◌, ◌<◌, min, Result, Ok, Err, ◌∙◌, ap, arith}
use Rattle.std.specs.Result.{OkIff, result_unwrap_or}
use Rattle.clahe.proofs.Whole.{cut}
use Rattle.clahe.proofs.clip.f64_as_u32.Goals as goal

held : {E : Type 0} (r : Result ℕ E) (n : ℕ) → OkIff r (n < 2 ^ 32) n → result_unwrap_or r (2 ^ 32 - 1) ≡ min n (2 ^ 32 - 1)
held (Ok x) n h = omega (arith, h.0, h.1)
held (Err e) n h = omega (arith, h)

pub returns : goal.returns
returns c =
    c.unwrap_or.ensures ∙ held c.try_from.result c.as_u64.result c.try_from.ensures
    ∙ ap (λ (n : ℕ). min n (2 ^ 32 - 1)) c.as_u64.ensures.value ∙ cut c.args.x
