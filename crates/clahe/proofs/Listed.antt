-- The sides that refusal 5 accepts are those listed: below 42 by a computed test, and from 42 on all. Assumes nothing.
use Rattle.std.proofs.Common.{◌≡◌, ℕ, ◌+◌, ◌*◌, ◌/◌, ◌<◌, ◌≤◌, Bool, true, false, not, ◌||◌, T, eqb, sym, refl, ap, ◌∙◌, arith, le-ltb, le-leb}
use mathlib.Core.Bool.{beq}
use native.Mathlib.Decide.{dec_lt}
use Rattle.lists.proofs.Table.{at}
use Rattle.spec.specs.Lists.{places_from, places}
use Rattle.spec.specs.Refusals.{side_refused}
use Rattle.clahe.specs.Sides.{from, listed, SidesListed}

alike : (a b : Bool) → T (beq a b) → a ≡ b
alike true true t = refl
alike true false t = absurd t
alike false true t = absurd t
alike false false t = refl

test : ℕ → ℕ → Bool
unfolding side_refused listed
test s x = beq (side_refused s) (not (listed s))

below : (s : ℕ) → s < 42 → side_refused s ≡ not (listed s)
unfolding side_refused listed test places_from
below s h = alike (side_refused s) (not (listed s)) (at 0 test (places 42) tt s h)

or_true : (a : Bool) → (a || true) ≡ true
or_true true = refl
or_true false = refl

above : (s : ℕ) → 42 ≤ s → side_refused s ≡ not (listed s)
unfolding side_refused listed
above s h = le-ltb s (7 * ((s + 7) / 8)) (omega arith) ∙ sym (ap (λ (t : Bool). not (eqb s 0 || from 7 8 s || from 14 16 s || from 21 24 s || from 28 32 s || from 35 40 s || t)) (le-leb 42 s h) ∙ ap not (all s))
  where
    all : (s : ℕ) → (eqb s 0 || from 7 8 s || from 14 16 s || from 21 24 s || from 28 32 s || from 35 40 s || true) ≡ true
    all s = go (eqb s 0) (from 7 8 s) (from 14 16 s) (from 21 24 s) (from 28 32 s) (from 35 40 s)
      where
        go : (a b c d e f : Bool) → (a || b || c || d || e || f || true) ≡ true
        go true b c d e f = refl
        go false true c d e f = refl
        go false false true d e f = refl
        go false false false true e f = refl
        go false false false false true f = refl
        go false false false false false f = or_true f

pub sides_listed : SidesListed
unfolding SidesListed
sides_listed s = go (dec_lt s 42)
  where
    go : Dec (s < 42) → side_refused s ≡ not (listed s)
    go (yes h) = below s h
    go (no h) = above s (omega (arith, h))
