-- The window of a grey call by the answers of its parts. Assumes nothing.
use mathlib.Core.Path.{◌≡◌, refl, sym, ap, ◌∙◌}
use mathlib.Core.Bool.{Bool, true, false, true≢false}
use mathlib.Core.List.{List, [], ◌∷◌}
use Prim.Native.Nat.{ℕ}
use Rattle.types.specs.declared.AutoscaleStrategy.{AutoscaleStrategy}
use Rattle.types.specs.declared.Sides.{Sides}
use Rattle.types.specs.declared.WindowFloats.{WindowFloats}
use Rattle.types.specs.declared.refusal.Refusal.{Refusal}
use Rattle.types.specs.declared.refusal.Refusal.TheVariants.{Decibels}
use Rattle.types.specs.Replies.{refusal_number}
use Rattle.std.specs.Prelude.{Option, Result, Ok, Err}
use Rattle.spec.specs.Answer.{refused, done, first_of, or_refused, answer}
use Rattle.spec.specs.Pixels.{Pixel}
use Rattle.spec.specs.Refusals.{decibels_refused}
use Rattle.spec.specs.Statistics.{statistics_of}
use Rattle.spec.specs.Window.{window_of, gamma_refused}
use Rattle.autoscale.specs.Bands.{band_window}
use Rattle.pipeline.specs.Windows.{window_tiles_refused, grey_window, grey_window16}
use Rattle.lists.proofs.Replies.{err_by, ok_by, done-same}
use Rattle.pipeline.proofs.Tests.{is_refused, at_four, at_five, at_none}
use Rattle.pipeline.proofs.Windowed.{tiles_window}

module _ (strategy : AutoscaleStrategy) (sides : Sides) (px : List Pixel) where
  abbrev w0 : Option WindowFloats
  w0 = window_of strategy (statistics_of px)

  module _ (r : Result (Option WindowFloats) Refusal) (q : r ≡ band_window strategy px) where
    pub grey_bad : (k : Refusal) → r ≡ Err k → refused (refusal_number k) ≡ grey_window strategy sides px
    unfolding grey_window band_window refusal_number
    grey_bad k e =
        let b = err_by (decibels_refused px) w0 Decibels k (sym q ∙ e) in
        ap (λ (j : Refusal). refused (refusal_number j)) (sym b.1) ∙ at_four w0 _ _ b.0

    module _ (w : Option WindowFloats) (is : r ≡ Ok w) where
      known : (decibels_refused px ≡ false) × (w0 ≡ w)
      unfolding band_window
      known = ok_by (decibels_refused px) w0 w Decibels (sym q ∙ is)

      pub grey_tiles : window_tiles_refused strategy sides.rows sides.cols w ≡ true → refused 5 ≡ grey_window strategy sides px
      unfolding grey_window
      grey_tiles e = at_five w0 _ _ known.0 (sym (tiles_window strategy sides.rows sides.cols px w (sym known.1)) ∙ e)

      pub grey_unrefused : window_tiles_refused strategy sides.rows sides.cols w ≡ false → done w ≡ grey_window strategy sides px
      unfolding grey_window
      grey_unrefused t = ap done (sym known.1) ∙ at_none w0 _ _ known.0 (sym (tiles_window strategy sides.rows sides.cols px w (sym known.1)) ∙ t)

-- ---- 6, at U16, after the two

sixth_refused :
    (v : Option WindowFloats) (d t : Bool) (k : ℕ) → refused k ≡ answer (first_of 4 (d ∷ t ∷ [])) v →
    refused k ≡ answer (first_of 4 (d ∷ t ∷ gamma_refused v ∷ [])) v
unfolding answer or_refused first_of is_refused
sixth_refused v true t k e = e
sixth_refused v false true k e = e
sixth_refused v false false k e = absurd (true≢false (ap is_refused e))

sixth_taken :
    (v : Option WindowFloats) (d t : Bool) (w : Option WindowFloats) → done w ≡ answer (first_of 4 (d ∷ t ∷ [])) v → gamma_refused w ≡ true →
    refused 6 ≡ answer (first_of 4 (d ∷ t ∷ gamma_refused v ∷ [])) v
unfolding answer or_refused first_of is_refused
sixth_taken v true t w e g = absurd (true≢false (sym (ap is_refused e)))
sixth_taken v false true w e g = absurd (true≢false (sym (ap is_refused e)))
sixth_taken v false false w e g = rw (ap gamma_refused (sym (done-same w v e)) ∙ g) refl

sixth_left :
    (v : Option WindowFloats) (d t : Bool) (w : Option WindowFloats) → done w ≡ answer (first_of 4 (d ∷ t ∷ [])) v → gamma_refused w ≡ false →
    done w ≡ answer (first_of 4 (d ∷ t ∷ gamma_refused v ∷ [])) v
unfolding answer or_refused first_of is_refused
sixth_left v true t w e g = absurd (true≢false (sym (ap is_refused e)))
sixth_left v false true w e g = absurd (true≢false (sym (ap is_refused e)))
sixth_left v false false w e g = rw (ap gamma_refused (sym (done-same w v e)) ∙ g) e

module _ (strategy : AutoscaleStrategy) (sides : Sides) (px : List Pixel) where
  pub grey_kept : (k : ℕ) → refused k ≡ grey_window strategy sides px → refused k ≡ grey_window16 strategy sides px
  unfolding grey_window grey_window16
  grey_kept k e = sixth_refused _ _ _ k e

  module _ (w : Option WindowFloats) (is : done w ≡ grey_window strategy sides px) where
    pub grey_gamma : gamma_refused w ≡ true → refused 6 ≡ grey_window16 strategy sides px
    unfolding grey_window grey_window16
    grey_gamma e = sixth_taken _ _ _ w is e

    pub grey_straight : gamma_refused w ≡ false → done w ≡ grey_window16 strategy sides px
    unfolding grey_window grey_window16
    grey_straight e = sixth_left _ _ _ w is e
