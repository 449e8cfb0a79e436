-- `synthetic_rgb::pixels::paint` meets its contract: whatever rule the closure keeps, what is written and what is left make the whole. Assumes nothing.
use native.Mathlib.Omega.{arith}
use lib.ListN.{get_or}
use borrow.Author.Rules.{rules}
use Rattle.std.proofs.Common.{Fits, w8}
use Rattle.synthetic_rgb.proofs.Painted.{painted_step, painted_end}
use Rattle.synthetic_rgb.proofs.pixels.paint.Goals as goal

pub loop-i-preserved : goal.loop-i-preserved
loop-i-preserved g c =
    let l = c.loop-i in
    let b = c.args.bands.now in
    let f1 : Fits w8 (get_or b.first.now l.i 0) = search rules in
    let f2 : Fits w8 (get_or b.second.now l.i 0) = search rules in (
      c.requires.callable,
      λ rule keeps.
          rw c.put.ensures
          (painted_step rule b.first.now b.second.now l.rgb_data l.i c.colour.result (omega arith) b.alike (keeps _ _ _ (omega (arith, f1.fits)) (omega (arith, f2.fits)) c.colour.ensures) (l.invariant.1 rule keeps)),
    )

pub returns : goal.returns
returns g c = λ rule keeps.
    let l = c.loop-i in
    let b = c.args.bands.now in
    painted_end rule b.first.now b.second.now l.rgb_data l.i (omega arith) (l.invariant.1 rule keeps)
