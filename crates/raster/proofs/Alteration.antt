-- "An alteration puts any f64 .. at any places of a band that its own marks give as 0": the pixels are the same. Assumes nothing.
use mathlib.Core.Path.{◌≡◌, refl, ap, ◌∙◌}
use mathlib.Core.List.{List, [], ◌∷◌, zip_with}
use Prim.Native.Nat.{ℕ, zero, suc, suc-le-suc}
use native.Mathlib.Nat.{suc_inj}
use native.Mathlib.Omega.{arith}
use lib.Ieee.{Float}
use Rattle.spec.specs.Pixels.{Pixel, off, on, pixel, pixels}
use Rattle.spec.specs.Altered.{Altered}

pub same-pixels : (m : List ℕ) (d d' : List Float) → Altered m d d' → pixels m d ≡ pixels m d'
unfolding pixels pixel zip_with
same-pixels [] d d' a = refl
same-pixels (k ∷ m) [] [] a = refl
same-pixels (k ∷ m) [] (v ∷ d') a = absurd (omega (arith, a.sized))
same-pixels (k ∷ m) (v ∷ d) [] a = absurd (omega (arith, a.sized))
same-pixels (zero ∷ m) (v ∷ d) (w ∷ d') a =
    ap (λ (ps : List Pixel). off ∷ ps) (same-pixels m d d' (record { sized = suc_inj a.sized; kept = λ i h n. a.kept (suc i) (suc-le-suc h) n }))
same-pixels (suc k ∷ m) (v ∷ d) (w ∷ d') a =
    ap (λ (x : Float). on x ∷ pixels m d) (a.kept 0 (omega arith) (λ e. omega (arith, e)))
    ∙ ap (λ (ps : List Pixel). on w ∷ ps) (same-pixels m d d' (record { sized = suc_inj a.sized; kept = λ i h n. a.kept (suc i) (suc-le-suc h) n }))
