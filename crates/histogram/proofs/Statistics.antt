-- The statistics call by the answers of its parts. Assumes nothing.
use mathlib.Core.Path.{◌≡◌, refl, sym, ap, ◌∙◌}
use mathlib.Core.Bool.{Bool, true, false, cond}
use mathlib.Core.List.{List, [], ◌∷◌}
use Prim.Native.Nat.{ℕ, zero, suc}
use native.Mathlib.Omega.{arith}
use lib.ListN.{length}
use lib.Ieee.{Float}
use Rattle.std.specs.Prelude.{Some, None}
use Rattle.types.specs.declared.HistogramStats.{HistogramStats}
use Rattle.types.specs.declared.Moments.{Moments}
use Rattle.types.specs.declared.Place.{Place}
use Rattle.spec.specs.Answer.{refused, done, first_of, or_refused, answer}
use Rattle.spec.specs.Moments.{no_moments, moments_from}
use Rattle.spec.specs.Pixels.{Pixel, pixels, valid_of}
use Rattle.spec.specs.Refusals.{sides_refused, lengths_refused, marks_refused, decibels_refused}
use Rattle.spec.specs.Statistics.{summary, placed_statistics, compute_histogram_stats}
use Rattle.spec.specs.Strongest.{strongest, place_in}
use Rattle.raster.proofs.Bands.{first_stays, first_later, first-here, first_not_here, first-none}
use Rattle.histogram.specs.Passes.{passed, placed_pass}
use Rattle.histogram.proofs.Counting.{none-count}

-- ---- a pass, by its answer

passed_bad : {A : Type 0} (b : Bool) (s : A) → cond b None (Some s) ≡ None → b ≡ true
passed_bad true s e = refl
passed_bad false s e = cc

passed_good : {A : Type 0} (b : Bool) (s m : A) → cond b None (Some s) ≡ Some m → (b ≡ false) × (s ≡ m)
passed_good true s m e = absurd cc
passed_good false s m e = (refl, cc)

pub pass_bad : {A : Type 0} (px : List Pixel) (s : A) → passed px s ≡ None → decibels_refused px ≡ true
unfolding passed
pass_bad px s e = passed_bad (decibels_refused px) s e

pub pass_good : {A : Type 0} (px : List Pixel) (s m : A) → passed px s ≡ Some m → (decibels_refused px ≡ false) × (s ≡ m)
unfolding passed
pass_good px s m e = passed_good (decibels_refused px) s m e

-- the pass that keeps the place
module _ (px : List Pixel) where
  pub placed-refused : placed_pass px ≡ None → decibels_refused px ≡ true
  unfolding placed_pass
  placed-refused e = pass_bad px (moments_from no_moments (valid_of px), strongest px) e

  pub placed-passed : (m : Moments) (q : ℕ) → placed_pass px ≡ Some (m, q) → (decibels_refused px ≡ false) × (moments_from no_moments (valid_of px) ≡ m) × (strongest px ≡ q)
  unfolding placed_pass
  placed-passed m q e = let g = pass_good px (moments_from no_moments (valid_of px), strongest px) (m, q) e in (g.0, ap (λ (u : Moments × ℕ). u.0) g.1, ap (λ (u : Moments × ℕ). u.1) g.1)

  pub placed-count : (m : Moments) (q : ℕ) → placed_pass px ≡ Some (m, q) → m.count ≡ length (valid_of px)
  placed-count m q e = ap (λ (t : Moments). t.count) (sym (placed-passed m q e).1) ∙ none-count (valid_of px)

-- ---- the call

pub answer-refused : {A : Type 0} (k : ℕ) (a : A) → (k ≡ 0 → ⊥) → answer k a ≡ refused k
unfolding answer or_refused
answer-refused zero a n = absurd (n refl)
answer-refused (suc k) a n = refl

pub answer-done : {A : Type 0} (k : ℕ) (a : A) → k ≡ 0 → answer k a ≡ done a
unfolding answer or_refused
answer-done k a e = rw e

module _ (rows cols : ℕ) (m : List ℕ) (d : List Float) where
  abbrev shape : List Bool
  shape = sides_refused rows cols ∷ lengths_refused rows cols m d ∷ marks_refused m ∷ []

  abbrev px : List Pixel
  px = pixels m d

  is_call : (k : ℕ) → first_of 1 (sides_refused rows cols ∷ lengths_refused rows cols m d ∷ marks_refused m ∷ decibels_refused px ∷ []) ≡ k → compute_histogram_stats rows cols m d ≡ answer k (placed_statistics cols px)
  unfolding compute_histogram_stats
  is_call k e = ap (λ (n : ℕ). answer n (placed_statistics cols px)) e

  pub call_shape : (k : ℕ) → k ≡ first_of 1 shape → (k ≡ 0 → ⊥) → refused k ≡ compute_histogram_stats rows cols m d
  call_shape k e n =
      sym (is_call k (sym (first_stays 1 shape (decibels_refused px ∷ []) (λ z. n (e ∙ z))) ∙ sym e) ∙ answer-refused k (placed_statistics cols px) n)

  module _ (good : first_of 1 shape ≡ 0) where
    pub call_bad : placed_pass px ≡ None → refused 4 ≡ compute_histogram_stats rows cols m d
    call_bad e =
        let b : decibels_refused px ≡ true = placed-refused px e in
        sym (is_call 4 (first_later 0 shape (decibels_refused px ∷ []) good ∙ first-here 4 (decibels_refused px) [] b) ∙ answer-refused 4 (placed_statistics cols px) (λ z. omega (arith, z)))

    pub call_done : (s : Moments) (q : ℕ) → placed_pass px ≡ Some (s, q) → (place : Place) → place ≡ place_in cols q → (r : HistogramStats) → r ≡ summary s place (valid_of px) →
        done r ≡ compute_histogram_stats rows cols m d
    unfolding placed_statistics
    call_done s q e place h r f =
        let g = placed-passed px s q e in
        let w : r ≡ placed_statistics cols px = f ∙ ap (λ (z : Place). summary s z (valid_of px)) (h ∙ ap (place_in cols) (sym g.2)) ∙ ap (λ (t : Moments). summary t (place_in cols (strongest px)) (valid_of px)) (sym g.1) in
        sym (is_call 0 (first_later 0 shape (decibels_refused px ∷ []) good ∙ first_not_here 4 (decibels_refused px) [] g.0 ∙ first-none 5) ∙ answer-done 0 (placed_statistics cols px) refl ∙ ap done (sym w))
