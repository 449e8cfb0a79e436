-- The call for the bins by the answers of its parts. Assumes nothing.
use mathlib.Core.Path.{◌≡◌, refl, sym, ap, ◌∙◌}
use mathlib.Core.Bool.{Bool, true, false, ◌||◌}
use mathlib.Core.List.{List, [], ◌∷◌}
use Prim.Native.Nat.{ℕ}
use native.Mathlib.Omega.{arith}
use lib.ListN.{length}
use lib.Ieee.{Float}
use Rattle.std.specs.Prelude.{Some, None}
use Rattle.types.specs.declared.Moments.{Moments}
use Rattle.spec.specs.Answer.{Answer, refused, done, first_of, answer, number, after}
use Rattle.spec.specs.Moments.{no_moments}
use Rattle.spec.specs.Pixels.{Pixel, pixels, valid_of}
use Rattle.spec.specs.Refusals.{sides_refused, lengths_refused, unlike, marks_refused, decibels_refused}
use Rattle.spec.specs.Bins.{bins_of}
use Rattle.spec.specs.Curve.{curve_of, compute_histogram}
use Rattle.raster.proofs.Bands.{first_stays, first_later, first-here, first_not_here, first-none}
use Rattle.histogram.specs.Extremes.{extremes_from}
use Rattle.histogram.specs.Passes.{extremes}
use Rattle.histogram.proofs.Extremes.{bins-extremes, extremes-count}
use Rattle.histogram.proofs.Statistics.{pass_bad, pass_good, answer-refused, answer-done}

-- ---- the pass that keeps count, least and greatest
module _ (px : List Pixel) (s : Moments) (e : extremes px ≡ Some s) where
  passed_is : (decibels_refused px ≡ false) × (extremes_from no_moments (valid_of px) ≡ s)
  unfolding extremes
  passed_is = pass_good px (extremes_from no_moments (valid_of px)) s e

  pub passed-count : s.count ≡ length (valid_of px)
  passed-count = ap (λ (t : Moments). t.count) (sym passed_is.1) ∙ extremes-count (valid_of px)

-- ---- the call

-- what is owed with the reply r and the list `new` afterwards
abbrev pub Owed : Answer (List ℕ) → List ℕ → ℕ → List ℕ → Type 0
Owed a old r new = (r ≡ number a) × (new ≡ after (λ l. l) a old)

by_refusal : (a : Answer (List ℕ)) (old : List ℕ) (k : ℕ) → a ≡ refused k → Owed a old k old
unfolding number after
by_refusal a old k e = rw e (refl, refl)

module _ (rows cols : ℕ) (m : List ℕ) (d : List Float) (old : List ℕ) where
  abbrev shape : List Bool
  shape = sides_refused rows cols ∷ (lengths_refused rows cols m d || unlike (length old) 4096) ∷ marks_refused m ∷ []

  abbrev px : List Pixel
  px = pixels m d

  abbrev call : Answer (List ℕ)
  call = compute_histogram rows cols m d (length old)

  is_call : (k : ℕ) → first_of 1 (sides_refused rows cols ∷ (lengths_refused rows cols m d || unlike (length old) 4096) ∷ marks_refused m ∷ decibels_refused px ∷ []) ≡ k → call ≡ answer k (curve_of px)
  unfolding compute_histogram
  is_call k e = ap (λ (n : ℕ). answer n (curve_of px)) e

  pub shape_refused : (k : ℕ) → k ≡ first_of 1 shape → (k ≡ 0 → ⊥) → Owed call old k old
  shape_refused k e n =
      by_refusal call old k (is_call k (sym (first_stays 1 shape (decibels_refused px ∷ []) (λ z. n (e ∙ z))) ∙ sym e) ∙ answer-refused k (curve_of px) n)

  module _ (good : first_of 1 shape ≡ 0) where
    pub decibel_refused_lem : extremes px ≡ None → Owed call old 4 old
    unfolding extremes
    decibel_refused_lem e =
        let b : decibels_refused px ≡ true = pass_bad px (extremes_from no_moments (valid_of px)) e in
        by_refusal call old 4
        (is_call 4 (first_later 0 shape (decibels_refused px ∷ []) good ∙ first-here 4 (decibels_refused px) [] b) ∙ answer-refused 4 (curve_of px) (λ z. omega (arith, z)))

    pub bins-done : (s : Moments) → extremes px ≡ Some s → (new : List ℕ) → new ≡ bins_of s (valid_of px) → Owed call old 0 new
    unfolding curve_of number after
    bins-done s e new q =
        let p = passed_is px s e in
        let w : new ≡ curve_of px = q ∙ ap (λ (t : Moments). bins_of t (valid_of px)) (sym p.1) ∙ bins-extremes (valid_of px) in
        let c : call ≡ done (curve_of px) = is_call 0 (first_later 0 shape (decibels_refused px ∷ []) good ∙ first_not_here 4 (decibels_refused px) [] p.0 ∙ first-none 5) ∙ answer-done 0 (curve_of px) refl in
        by_done c w
      where
        by_done : call ≡ done (curve_of px) → new ≡ curve_of px → Owed call old 0 new
        by_done c w = rw c (refl, w)
