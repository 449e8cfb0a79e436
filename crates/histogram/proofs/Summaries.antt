-- The bins of a band as they are filled, and the record from its parts. Assumes nothing.
use mathlib.Core.Path.{◌≡◌, sym, ap, ◌∙◌}
use mathlib.Core.Bool.{true, false}
use mathlib.Core.List.{List, [], ◌∷◌, map}
use Prim.Native.Nat.{ℕ, ◌+◌}
use native.Mathlib.Nat.{add-zero, zero-add}
use native.Mathlib.Omega.{arith}
use lib.Dec.{lit<}
use lib.ListN.{length, set, replicate}
use lib.Ieee.{Float, binary64, div}
use Rattle.types.specs.declared.Moments.{Moments}
use Rattle.spec.specs.Floats.{one64}
use Rattle.spec.specs.Moments.{span_of, is_flat}
use Rattle.spec.specs.Bins.{bin_of, histogram, bins_of}
use Rattle.spec.specs.Lists.{stored}
use Rattle.lists.proofs.Counts.{Below, stored-counts}
use Rattle.histogram.proofs.Filling.{bin_most}

pub bins-below : (least inv : Float) (vs : List Float) → Below 4096 (map (bin_of least inv) vs)
bins-below least inv [] = tt
bins-below least inv (v ∷ vs) = (bin_most least inv v, bins-below least inv vs)

-- ---- a flat scene has all values in bin 0

pub zeros-below : (vs : List Float) → Below 4096 (map (λ v. 0) vs)
zeros-below [] = tt
zeros-below (v ∷ vs) = (lit< tt, zeros-below vs)

stored-zeros : (h : ℕ) (hs : List ℕ) (vs : List Float) → stored (h ∷ hs) (map (λ v. 0) vs) ≡ (h + length vs) ∷ hs
unfolding stored
stored-zeros h hs [] = ap (λ (n : ℕ). n ∷ hs) (sym (add-zero h))
stored-zeros h hs (v ∷ vs) =
    stored-zeros (h + 1) hs vs
    ∙ ap (λ (n : ℕ). n ∷ hs)
    (let e : h + 1 + length vs ≡ h + length (v ∷ vs) = omega arith in
    e)

zeros-counts : (vs : List Float) → set (replicate 4096 0) 0 (length vs) ≡ histogram (map (λ v. 0) vs)
unfolding histogram
zeros-counts vs =
    ap (λ (n : ℕ). n ∷ replicate 4095 0) (sym (zero-add (length vs))) ∙ sym (stored-zeros 0 (replicate 4095 0) vs)
    ∙ stored-counts 4096 (map (λ v. 0) vs) (zeros-below vs)

-- ---- the bins of a band, as they are filled

module _ (s : Moments) (vs : List Float) where
  pub flat_filled : is_flat s ≡ true → (hist : List ℕ) → hist ≡ replicate 4096 0 → (n : ℕ) → n ≡ length vs → set hist 0 n ≡ bins_of s vs
  unfolding bins_of
  flat_filled e hist h n c = rw (h, c, e) (zeros-counts vs)

  pub spread_filled : is_flat s ≡ false → (hist new : List ℕ) → hist ≡ replicate 4096 0 → new ≡ stored hist (map (bin_of s.min_db (div binary64 one64 (span_of s))) vs) → new ≡ bins_of s vs
  unfolding bins_of histogram
  spread_filled e hist new h f =
      f ∙ ap (λ (l : List ℕ). stored l (map (bin_of s.min_db (div binary64 one64 (span_of s))) vs)) h
      ∙ stored-counts 4096 (map (bin_of s.min_db (div binary64 one64 (span_of s))) vs) (bins-below s.min_db (div binary64 one64 (span_of s)) vs) ∙ rw e
