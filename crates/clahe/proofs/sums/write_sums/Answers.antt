-- `clahe::sums::write_sums` meets its contract. The invariant: the sums before b are written, and the sum so far is that of the bins before b. Assumes nothing.
use Rattle.std.proofs.Common.{◌≡◌, ℕ, suc, ◌+◌, take, sym, refl, ap, ◌∙◌, add-one, arith, length-set}
use lib.Ieee.{nan}
use Rattle.spec.specs.Floats.{one64, of_count, max_float}
use Rattle.spec.specs.Clahe.{sum_at}
use Rattle.spec.specs.Lists.{sum_of}
use Rattle.clahe.proofs.Totals.{sum-take, sum-at}
use Rattle.clahe.proofs.Whole.{whole_in_float}
use Rattle.clahe.proofs.Cells.{kept_or_stored}
use Rattle.lists.proofs.Places.{from_places}
use Rattle.clahe.proofs.sums.write_sums.Goals as goal

pub int_to_float-sum_of : goal.int_to_float-sum_of
int_to_float-sum_of c = whole_in_float c.sum_of.result (omega arith)

pub loop-b-init : goal.loop-b-init
unfolding sum_of
loop-b-init c = (omega arith, omega arith, omega arith, refl, λ k h. absurd (omega arith))

pub loop-b-preserved : goal.loop-b-preserved
loop-b-preserved c =
    let hs = c.args.hist.now in
    let b = c.loop-b.b in
    let next : sum_of (take (suc b) hs) ≡ c.loop-b.so_far + c.from-so_far.result = omega (arith, sum-take hs b (omega arith), c.from-so_far.ensures) in (
      omega arith,
      simp length-set (omega arith),
      omega arith,
      rw (add-one) (sym next),
      kept_or_stored (λ k x. x ≡ sum_at hs k) nan c.loop-b.sums b _ (omega arith) c.loop-b.invariant.4
          (sum-at hs b (c.loop-b.so_far + c.from-so_far.result) _ _ (sym next)
          (c.max_f64-whole.ensures ∙ ap (λ (n : ℕ). max_float (of_count n) one64) c.sum_of.ensures.0) c.part.ensures),
    )

pub returns : goal.returns
returns c =
    let hs = c.args.hist.now in
    from_places (sum_at hs) nan 256 c.loop-b.sums (omega arith) (λ k h. c.loop-b.invariant.4 k (omega arith))
