-- `synthetic_rgb::pixels::paint` meets its contract: whatever rule the closure keeps, what is written and what is left make the whole. Assumes nothing.
use Prim.Native.Nat.{ℕ}
use Rattle.types.specs.declared.Rgb.{Rgb}
use Rattle.synthetic_rgb.specs.Palette.{Keeps}
use Rattle.synthetic_rgb.proofs.Painted.{Painted}
use Rattle.synthetic_rgb.proofs.pixels.paint.Given as goal

abbrev pub invariant-loop-i : goal.invariant-loop-i
invariant-loop-i g l =
    goal.F-IsAlwaysCallable g l.colour
    × ((rule : ℕ → ℕ → Rgb) → Keeps (goal.F-post g l.colour) rule → Painted rule l.bands.first.now l.bands.second.now l.rgb_data l.i)
