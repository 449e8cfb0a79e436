-- The calls at U8 are those before F-1 wherever these did not answer 6, and done where they did. Assumes nothing.
use mathlib.Core.Path.{◌≡◌, refl, ap, ap₂}
use mathlib.Core.Bool.{Bool, true, false, cond, true≢false}
use mathlib.Core.List.{List, [], ◌∷◌, map}
use Prim.Native.Nat.{ℕ}
use native.Mathlib.Omega.{arith}
use lib.Ieee.{Float, binary64, sub, eq, ne, of_bits}
use Rattle.types.specs.declared.AutoscaleStrategy.{AutoscaleStrategy}
use Rattle.types.specs.declared.Clip.{Clip}
use Rattle.types.specs.declared.HistogramStats.{HistogramStats}
use Rattle.types.specs.declared.Lent.{Lent}
use Rattle.types.specs.declared.SyntheticRgbMode.{SyntheticRgbMode}
use Rattle.types.specs.declared.WindowFloats.{WindowFloats}
use Rattle.std.specs.Prelude.{Option, Some, None}
use Rattle.spec.specs.Answer.{first_of, or_refused, answer, number}
use Rattle.spec.specs.Floats.{one64, max_float}
use Rattle.spec.specs.Gamma.{U8, curve, curved, grey_value}
use Rattle.spec.specs.Grey.{normal_pixel, values, grey_tests, autoscale_db_image_to_u8}
use Rattle.spec.specs.Picture.{picture_greys, composed, picture_tests, synthetic_rgb_picture}
use Rattle.spec.specs.Clahe.{clahe_values}
use Rattle.spec.specs.Before.{values_before, grey_before, picture_before}
use Rattle.spec.specs.Pixels.{Pixel, pixels}
use Rattle.spec.specs.Statistics.{statistics_of}
use Rattle.spec.specs.Strategies.{is_clahe, is_tamed}
use Rattle.spec.specs.Stretch.{stretch}
use Rattle.spec.specs.Value.{full8, value_of, paint}
use Rattle.spec.specs.Window.{opened, window_of, picture_window, gamma_refused}
use Rattle.gamma.proofs.Gammas.{Chosen, eight, nine, eleven, one, of_window, of_picture}
use Rattle.raster.proofs.Bands.{or_false}
use Rattle.demands.specs.Sixth.{Sixth}

-- ---- five tests and a sixth
module _ {A : Type 0} (x y : A) where
  same : (a b c d e f : Bool) → (f ≡ false → x ≡ y) → (number (answer (first_of 1 (a ∷ b ∷ c ∷ d ∷ e ∷ f ∷ [])) y) ≡ 6 → ⊥) →
      answer (first_of 1 (a ∷ b ∷ c ∷ d ∷ e ∷ [])) x ≡ answer (first_of 1 (a ∷ b ∷ c ∷ d ∷ e ∷ f ∷ [])) y
  unfolding first_of answer or_refused number
  same true b c d e f h n = refl
  same false true c d e f h n = refl
  same false false true d e f h n = refl
  same false false false true e f h n = refl
  same false false false false true f h n = refl
  same false false false false false true h n = absurd (n refl)
  same false false false false false false h n = ap (λ (z : A). answer 0 z) (h refl)

  done-at_six : (a b c d e f : Bool) → number (answer (first_of 1 (a ∷ b ∷ c ∷ d ∷ e ∷ f ∷ [])) y) ≡ 6 → number (answer (first_of 1 (a ∷ b ∷ c ∷ d ∷ e ∷ [])) x) ≡ 0
  unfolding first_of answer or_refused number
  done-at_six true b c d e f n = absurd (omega (arith, n))
  done-at_six false true c d e f n = absurd (omega (arith, n))
  done-at_six false false true d e f n = absurd (omega (arith, n))
  done-at_six false false false true e f n = absurd (omega (arith, n))
  done-at_six false false false false true f n = absurd (omega (arith, n))
  done-at_six false false false false false f n = refl

-- ---- under gamma 1.0 the value is document 01's
straight : (g low high range : Float) (px : List Pixel) → Chosen g → ne g one64 ≡ false → map (paint (grey_value U8 g low high range)) px ≡ map (paint (value_of full8 low high range)) px
unfolding grey_value curved curve ne eq of_bits
straight g low high range px eight e = absurd (true≢false e)
straight g low high range px nine e = absurd (true≢false e)
straight g low high range px eleven e = absurd (true≢false e)
straight g low high range px one e = refl

module _ (strategy : AutoscaleStrategy) (rows cols : ℕ) (px : List Pixel) where
  abbrev Unmoved : Option WindowFloats → Type 0
  Unmoved w = gamma_refused w ≡ false → values U8 strategy rows cols px w ≡ values_before strategy rows cols px w

  blank_unmoved : Unmoved None
  unfolding values values_before
  blank_unmoved e = refl

  opened_unmoved : (c : Clip) → Chosen c.gamma → Unmoved (Some (opened c))
  unfolding values values_before opened gamma_refused
  opened_unmoved c h e =
      let range = max_float (sub binary64 c.high c.low) one64 in
      let tiles = clahe_values full8 rows cols (map (normal_pixel c.low c.high range) px) in
      ap (λ (l : List ℕ). cond (is_clahe strategy) tiles l) (straight c.gamma c.low c.high range px h e)

  grey_unmoved : (s : HistogramStats) → Unmoved (window_of strategy s)
  grey_unmoved s = of_window Unmoved blank_unmoved opened_unmoved strategy s

  picture_unmoved : (copol : Bool) (s : HistogramStats) → Unmoved (picture_window strategy copol s)
  picture_unmoved copol s = of_picture Unmoved blank_unmoved opened_unmoved strategy copol s

-- ---- the calls
module _ (strategy : AutoscaleStrategy) (rows cols : ℕ) (m : List ℕ) (d : List Float) (out work : ℕ) where
  grey-same_is : (number (grey_before strategy rows cols m d out work) ≡ 6 → ⊥) → autoscale_db_image_to_u8 strategy rows cols m d out work ≡ grey_before strategy rows cols m d out work
  unfolding grey_before autoscale_db_image_to_u8 grey_tests
  grey-same_is n = same _ _ _ _ _ _ _ _ (λ e. ap stretch (grey_unmoved strategy rows cols (pixels m d) (statistics_of (pixels m d)) e)) n

  grey-done_is : number (grey_before strategy rows cols m d out work) ≡ 6 → number (autoscale_db_image_to_u8 strategy rows cols m d out work) ≡ 0
  unfolding grey_before autoscale_db_image_to_u8 grey_tests
  grey-done_is n = done-at_six _ _ _ _ _ _ _ _ n

module _ (strategy : AutoscaleStrategy) (mode : SyntheticRgbMode) (rows cols : ℕ) (m1 : List ℕ) (d1 : List Float) (m2 : List ℕ) (d2 : List Float) (lent : Lent) where
  abbrev w1 : Option WindowFloats
  w1 = picture_window strategy true (statistics_of (pixels m1 d1))

  abbrev w2 : Option WindowFloats
  w2 = picture_window strategy false (statistics_of (pixels m2 d2))

  abbrev tamed : List ℕ → List ℕ
  tamed l = cond (is_tamed strategy) l (stretch l)

  picture-same_is : (number (picture_before strategy mode rows cols m1 d1 m2 d2 lent) ≡ 6 → ⊥) →
      synthetic_rgb_picture strategy mode rows cols m1 d1 m2 d2 lent ≡ picture_before strategy mode rows cols m1 d1 m2 d2 lent
  unfolding picture_before synthetic_rgb_picture picture_tests picture_greys
  picture-same_is n =
      same _ _ _ _ _ _ _ _
      (λ e. let h = or_false (gamma_refused w1) (gamma_refused w2) e in
      ap₂ (λ (a b : List ℕ). composed strategy (tamed a) (tamed b)) (picture_unmoved strategy rows cols (pixels m1 d1) true _ h.0) (picture_unmoved strategy rows cols (pixels m2 d2) false _ h.1))
      n

  picture-done_is : number (picture_before strategy mode rows cols m1 d1 m2 d2 lent) ≡ 6 → number (synthetic_rgb_picture strategy mode rows cols m1 d1 m2 d2 lent) ≡ 0
  unfolding picture_before synthetic_rgb_picture picture_tests
  picture-done_is n = done-at_six _ _ _ _ _ _ _ _ n

pub sixth : Sixth
sixth = record { grey_same = grey-same_is; picture_same = picture-same_is; grey_done = grey-done_is; picture_done = picture-done_is }
