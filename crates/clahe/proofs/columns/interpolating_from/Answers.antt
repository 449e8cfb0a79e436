-- `clahe::columns::interpolating_from` meets its contract. The invariant: from `from` on no column before c has another weight, and the one before it has. Assumes nothing.
use Rattle.std.proofs.Common.{rules, ◌≡◌, ℕ, ◌≤◌, false, ◌&&◌, get_or, sym, ◌∙◌, subst, arith, below_more}
use lib.Ieee.{le}
use Rattle.spec.specs.Floats.{zero64, one64}
use Rattle.clahe.specs.Within.{InUnit}
use Rattle.clahe.specs.Paint.{no_column}
use Rattle.clahe.proofs.columns.interpolating_from.Goals as goal
use Rattle.clahe.proofs.columns.interpolating_from.Goals.{then-not-interpolates, else-not-interpolates}

pub loop-c-init : goal.loop-c-init
loop-c-init c = (omega arith, omega arith, (λ j h. absurd (omega arith)), λ j e. absurd (omega arith))

pub loop-c-preserved : goal.loop-c-preserved
loop-c-preserved c =
    elim c.if-not-interpolates.branch [
      | then-not-interpolates w ↦ rw w.from-is (
        omega arith,
        omega arith,
        (λ j h l. absurd (omega arith)),
        λ j e. let d : j ≡ c.loop-c.c = omega arith in
            subst (λ (i : ℕ). (le zero64 (get_or c.args.columns.now i no_column).weight && le (get_or c.args.columns.now i no_column).weight one64) ≡ false) (sym d) (sym c.interpolates.ensures ∙ w.if-not-interpolates.true),
      )
      | else-not-interpolates w ↦ rw w.from-is (
        omega arith,
        omega arith,
        below_more (λ (j : ℕ). c.loop-c.from ≤ j → InUnit (get_or c.args.columns.now j no_column).weight) c.loop-c.c c.loop-c.invariant.2 (λ l. search rules),
        c.loop-c.invariant.3,
      )
    ]

pub returns-clause-end : goal.returns-clause-end
returns-clause-end c = omega (arith, c.loop-c.invariant)

pub returns-clause-within : goal.returns-clause-within
returns-clause-within c = λ j h l. c.loop-c.invariant.2 j (omega arith) h

pub returns-clause-first : goal.returns-clause-first
returns-clause-first c = c.loop-c.invariant.3
