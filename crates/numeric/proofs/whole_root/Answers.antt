-- `numeric::whole_root` meets its contract: each turn gives one digit more, and 54 give the root. Assumes nothing.
use Rattle.std.proofs.Common.{◌≡◌, ℕ, ◌≤◌, subst, arith}
use Rattle.numeric.proofs.Root.{Under, start, root_lt, step, done}
use Rattle.numeric.proofs.whole_root.Goals as goal

pub loop-init : goal.loop-init
loop-init c = start c.args.digits c.requires

pub next_digit-s-requires : goal.next_digit-s-requires
next_digit-s-requires c = let u = c.loop.invariant in (root_lt u, (u.within, u.left_lt))

pub loop-preserved : goal.loop-preserved
loop-preserved c =
    let l = c.loop in
    let r = c.next_digit-s.result in
    let e = c.next_digit-s.ensures in
    step c.args.digits l.s.root l.s.rest l.s.digits l.counter r.root r.rest r.digits l.invariant (omega (arith, c.loop-test.true)) e.0 e.1.0 e.1.1.0 e.1.1.1

pub returns : goal.returns
returns c =
    let l = c.loop in
    let top = c.args.digits in
    done top l.s.root l.s.rest l.s.digits c.requires (subst (λ (i : ℕ). Under top l.s.root l.s.rest l.s.digits i) (whole l.counter l.invariant.steps c.loop-test.false) l.invariant)
  where
    whole : (i : ℕ) → i ≤ 54 → 54 ≤ i → i ≡ 54
    whole i h k = omega arith
