-- Every colour is the only number with its rule. Assumes nothing.
use mathlib.Core.Path.{◌≡◌, refl}
use mathlib.Core.Bool.{Bool, true, false}
use mathlib.Core.Logic.{⊎_elim}
use Prim.Native.Nat.{ℕ, ◌≤◌, ◌<◌}
use native.Mathlib.Omega.{arith}
use borrow.Author.Tests.{leb-true, leb-false}
use lib.Dec.{leb}
use Rattle.spec.specs.Colour.{red, green, blue, red_above, green_above, blue_above, plain, suppressed}
use Rattle.colour_tables.specs.Colours.{DefaultColour, SuppressedColour, Colours}
use Rattle.colour_tables.proofs.Laws.{red_only, green_only, blue_only, red-above_only, green-above_only, blue-above_only, red-above-dark, green-above-dark, green_positive}

default-colour : (v1 v2 : ℕ) → v1 ≤ 255 → v2 ≤ 255 → DefaultColour v1 v2 (red v1) (green v2) (blue v2 (red v1) (green v2))
unfolding blue
default-colour v1 v2 h1 h2 =
    let reds = red_only v1 h1 in
    record {
      red = reds;
      green = green_only v2 h2;
      no_blue = λ e. rw e;
      blue = λ lit. blue_only v2 (red v1) (green v2) lit reds.byte (green_positive lit);
    }

module _ (f v1 v2 : ℕ) (h : f < 255) (h1 : v1 ≤ 255) (h2 : v2 ≤ 255) where
  -- both bytes at most f
  water : v1 ≤ f → v2 ≤ f → SuppressedColour f v1 v2 0 0 0
  water l1 l2 =
      record {
        no_red = λ l. refl;
        red = λ l. absurd (omega arith);
        no_green = λ l. refl;
        green = λ l. absurd (omega arith);
        no_blue = λ l m. refl;
        blue = λ l. absurd (⊎_elim (λ m. omega arith) (λ m. omega arith) l);
      }

  -- one of them above f
  land : (v1 ≤ f → v2 ≤ f → ⊥) → SuppressedColour f v1 v2 (red_above f v1) (green_above f v2) (blue_above (red_above f v1) (green_above f v2))
  land not =
      let reds = red-above_only f v1 h h1 in
      record {
        no_red = λ l. red-above-dark f v1 h l;
        red = λ l. reds;
        no_green = λ l. green-above-dark f v2 h l;
        green = λ l. green-above_only f v2 h h2;
        no_blue = λ l m. absurd (not l m);
        blue = λ l. blue-above_only (red_above f v1) (green_above f v2) reds.byte;
      }

  suppressed-colour : SuppressedColour f v1 v2 (suppressed f v1 v2).r (suppressed f v1 v2).g (suppressed f v1 v2).b
  unfolding suppressed
  suppressed-colour = pick (leb v1 f) (leb v2 f) refl refl
    where
      pick : (a b : Bool) → leb v1 f ≡ a → leb v2 f ≡ b → SuppressedColour f v1 v2 (suppressed f v1 v2).r (suppressed f v1 v2).g (suppressed f v1 v2).b
      pick true true e1 e2 = rw (e1, e2) (water (leb-true v1 f e1) (leb-true v2 f e2))
      pick true false e1 e2 = rw (e1, e2) (land (λ l m. let g = leb-false v2 f e2 in omega arith))
      pick false b e1 e2 = rw e1 (land (λ l m. let g = leb-false v1 f e1 in omega arith))

pub colours : Colours
unfolding plain
colours = record { default = default-colour; above = λ f v1 v2 l h h1 h2. suppressed-colour f v1 v2 (omega arith) h1 h2 }
