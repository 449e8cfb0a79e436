-- `stretch::Ends::stretch_bytes` meets its contract: each byte's entry is filled, and between 0 and 255 each byte is its own. Assumes nothing.
use mathlib.Core.Path.{sym, ap, ◌∙◌}
use mathlib.Core.List.{map}
use Prim.Native.Nat.{ℕ}
use native.Mathlib.Omega.{arith}
use borrow.Author.Rules.{rules}
use lib.ListN.{get_or}
use Rattle.spec.specs.Stretch.{stretch_byte}
use Rattle.stretch.proofs.Loops.{map_agree}
use Rattle.stretch.proofs.Identity.{full_same}
use Rattle.stretch.proofs.Ends.stretch_bytes.Goals as goal

pub returns-then-self-eq255 : goal.returns-then-self-eq255
returns-then-self-eq255 c =
    let a = c.args in
    sym (ap (λ (l : ℕ). map (stretch_byte l a.self.hi) a.bytes.now) c.if-self-eq0.true ∙ ap (λ (h : ℕ). map (stretch_byte 0 h) a.bytes.now) c.if-self-eq255.true
    ∙ full_same a.bytes.now (λ k. omega (arith, c.type_inv.bytes k)))

pub returns : goal.returns
returns c =
    let a = c.args in
    let xs = a.bytes.now in
    c.look_up_bytes.ensures ∙ map_agree (λ x. get_or c.fill_table.new.table x 0) (stretch_byte a.self.lo a.self.hi) 0 xs
    (λ k h. c.fill_table.ensures (get_or xs k 0) (search rules))
