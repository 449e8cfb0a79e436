-- The windows of a picture by the answers of its parts. Assumes nothing.
use mathlib.Core.Path.{◌≡◌, refl, sym, ap, ◌∙◌}
use mathlib.Core.Bool.{Bool, true, false, cond, ◌||◌}
use mathlib.Core.List.{List, [], ◌∷◌}
use Prim.Native.Nat.{ℕ}
use lib.Ieee.{Float}
use Rattle.types.specs.declared.AutoscaleStrategy.{AutoscaleStrategy}
use Rattle.types.specs.declared.CoPol.{CoPol}
use Rattle.types.specs.declared.PictureWindows.{PictureWindows}
use Rattle.types.specs.declared.Sides.{Sides}
use Rattle.types.specs.declared.WindowFloats.{WindowFloats}
use Rattle.types.specs.declared.refusal.Refusal.{Refusal}
use Rattle.types.specs.declared.refusal.Refusal.TheVariants.{Decibels}
use Rattle.types.specs.Replies.{refusal_number}
use Rattle.std.specs.Prelude.{Option, Result, Ok, Err}
use Rattle.spec.specs.Answer.{refused, done, first_of, or_refused, answer, read}
use Rattle.spec.specs.Copol.{first_is_copol, second_is_copol, windows_of, synthetic_rgb_windows}
use Rattle.spec.specs.Pixels.{Pixel, pixels}
use Rattle.spec.specs.Refusals.{sides_refused, lengths_refused, marks_refused, decibels_refused, tiles_refused}
use Rattle.spec.specs.Statistics.{statistics_of}
use Rattle.spec.specs.Window.{picture_window}
use Rattle.autoscale.specs.Bands.{band_picture_window}
use Rattle.pipeline.specs.Windows.{window_tiles_refused, both_windows, picture_windows}
use Rattle.lists.proofs.Replies.{err_by, ok_by}
use Rattle.pipeline.proofs.Tests.{at_first, at_later, at_four, at_five, at_none}
use Rattle.pipeline.proofs.Windowed.{tiles_picture}

-- a test over both bands
either_first : {a : Bool} (b : Bool) → a ≡ true → (a || b) ≡ true
either_first b e = rw e

either_second : {a b c : Bool} → a ≡ false → b ≡ c → (a || b) ≡ c
either_second e f = rw e f

both_same : {a b c d : Bool} → a ≡ c → b ≡ d → (a || b) ≡ (c || d)
both_same e f = rw (e, f)

-- a value, or 4
read_by : {A : Type 0} (b : Bool) (a : A) → read (cond b (Err Decibels) (Ok a)) ≡ answer (first_of 4 (b ∷ [])) a
unfolding read refusal_number answer or_refused first_of
read_by true a = refl
read_by false a = refl

-- ---- the windows of two bands by those of each
module _ (strategy : AutoscaleStrategy) (copol : CoPol) (px1 px2 : List Pixel) where
  abbrev w01 : Option WindowFloats
  w01 = picture_window strategy (first_is_copol copol) (statistics_of px1)

  abbrev w02 : Option WindowFloats
  w02 = picture_window strategy (second_is_copol copol) (statistics_of px2)

  abbrev bad : Bool
  bad = decibels_refused px1 || decibels_refused px2

  at_once : (b : Bool) → bad ≡ b → cond b (Err Decibels) (Ok (windows_of strategy copol px1 px2)) ≡ both_windows strategy copol px1 px2
  unfolding both_windows
  at_once b e = ap (λ (t : Bool). cond t (Err Decibels) (Ok (windows_of strategy copol px1 px2))) (sym e)

  module _ (c1 : Bool) (is1 : c1 ≡ first_is_copol copol) (r1 : Result (Option WindowFloats) Refusal) (q1 : r1 ≡ band_picture_window strategy c1 px1) where
    banded1 : r1 ≡ cond (decibels_refused px1) (Err Decibels) (Ok w01)
    unfolding band_picture_window
    banded1 = q1 ∙ ap (λ (c : Bool). cond (decibels_refused px1) (Err Decibels) (Ok (picture_window strategy c (statistics_of px1)))) is1

    pub both_bad_first : (k : Refusal) → r1 ≡ Err k → Err k ≡ both_windows strategy copol px1 px2
    both_bad_first k e =
        let b = err_by (decibels_refused px1) w01 Decibels k (sym banded1 ∙ e) in
        ap Err (sym b.1) ∙ at_once true (either_first (decibels_refused px2) b.0)

    module _ (w1 : Option WindowFloats) (o1 : r1 ≡ Ok w1) (c2 : Bool) (is2 : c2 ≡ second_is_copol copol) (r2 : Result (Option WindowFloats) Refusal) (q2 : r2 ≡ band_picture_window strategy c2 px2) where
      good1 : (decibels_refused px1 ≡ false) × (w01 ≡ w1)
      good1 = ok_by (decibels_refused px1) w01 w1 Decibels (sym banded1 ∙ o1)

      banded2 : r2 ≡ cond (decibels_refused px2) (Err Decibels) (Ok w02)
      unfolding band_picture_window
      banded2 = q2 ∙ ap (λ (c : Bool). cond (decibels_refused px2) (Err Decibels) (Ok (picture_window strategy c (statistics_of px2)))) is2

      pub both_bad_second : (k : Refusal) → r2 ≡ Err k → Err k ≡ both_windows strategy copol px1 px2
      both_bad_second k e =
          let b = err_by (decibels_refused px2) w02 Decibels k (sym banded2 ∙ e) in
          ap Err (sym b.1) ∙ at_once true (either_second good1.0 b.0)

      pub both_good : (w2 : Option WindowFloats) → r2 ≡ Ok w2 → Ok (record { first = w1; second = w2 }) ≡ both_windows strategy copol px1 px2
      both_good w2 o2 =
          let good2 = ok_by (decibels_refused px2) w02 w2 Decibels (sym banded2 ∙ o2) in
          rw (← good1.1, ← good2.1) (at_once false (either_second good1.0 good2.0))

  -- ---- and what they tell
  pub both_refused : (k : Refusal) → both_windows strategy copol px1 px2 ≡ Err k → (bad ≡ true) × (Decibels ≡ k)
  unfolding both_windows
  both_refused k e = err_by bad (windows_of strategy copol px1 px2) Decibels k e

  pub both_known : (v : PictureWindows) → both_windows strategy copol px1 px2 ≡ Ok v → (bad ≡ false) × (windows_of strategy copol px1 px2 ≡ v)
  unfolding both_windows
  both_known v e = ok_by bad (windows_of strategy copol px1 px2) v Decibels e

-- ---- the windows of a picture
module _ (strategy : AutoscaleStrategy) (copol : CoPol) (sides : Sides) (px1 px2 : List Pixel) (r : Result PictureWindows Refusal) (q : r ≡ both_windows strategy copol px1 px2) where
  abbrev both : PictureWindows
  both = windows_of strategy copol px1 px2

  pub picture-four : (k : Refusal) → r ≡ Err k → refused (refusal_number k) ≡ picture_windows strategy copol sides px1 px2
  unfolding picture_windows refusal_number
  picture-four k e =
      let b = both_refused strategy copol px1 px2 k (sym q ∙ e) in
      ap (λ (j : Refusal). refused (refusal_number j)) (sym b.1) ∙ at_four both _ _ b.0

  module _ (v : PictureWindows) (e : r ≡ Ok v) where
    known : ((decibels_refused px1 || decibels_refused px2) ≡ false) × (both ≡ v)
    known = both_known strategy copol px1 px2 v (sym q ∙ e)

    abbrev tiles : Bool
    tiles = window_tiles_refused strategy sides.rows sides.cols v.first || window_tiles_refused strategy sides.rows sides.cols v.second

    tiles_are : tiles ≡ (tiles_refused strategy sides.rows sides.cols px1 || tiles_refused strategy sides.rows sides.cols px2)
    tiles_are =
        both_same (tiles_picture strategy sides.rows sides.cols px1 (first_is_copol copol) v.first (sym (ap (λ (t : PictureWindows). t.first) known.1)))
        (tiles_picture strategy sides.rows sides.cols px2 (second_is_copol copol) v.second (sym (ap (λ (t : PictureWindows). t.second) known.1)))

    pub picture_tiles : tiles ≡ true → refused 5 ≡ picture_windows strategy copol sides px1 px2
    unfolding picture_windows
    picture_tiles t = at_five both _ _ known.0 (sym tiles_are ∙ t)

    pub picture_unrefused : tiles ≡ false → done v ≡ picture_windows strategy copol sides px1 px2
    unfolding picture_windows
    picture_unrefused t = ap done (sym known.1) ∙ at_none both _ _ known.0 (sym tiles_are ∙ t)

-- ---- the windows of two bands by themselves, as they are read
module _ (strategy : AutoscaleStrategy) (copol : CoPol) (rows cols : ℕ) (m1 : List ℕ) (d1 : List Float) (m2 : List ℕ) (d2 : List Float) where
  abbrev band1 : List Pixel
  band1 = pixels m1 d1

  abbrev band2 : List Pixel
  band2 = pixels m2 d2

  abbrev shape : List Bool
  shape = sides_refused rows cols ∷ (lengths_refused rows cols m1 d1 || lengths_refused rows cols m2 d2) ∷ (marks_refused m1 || marks_refused m2) ∷ []

  abbrev bad_bands : Bool
  bad_bands = decibels_refused band1 || decibels_refused band2

  pub bands_refused : (k : ℕ) → k ≡ first_of 1 shape → (k ≡ 0 → ⊥) → refused k ≡ synthetic_rgb_windows strategy copol rows cols m1 d1 m2 d2
  unfolding synthetic_rgb_windows
  bands_refused k e n = sym (at_first _ shape (bad_bands ∷ []) k e n)

  pub bands_windows : first_of 1 shape ≡ 0 → (v : Result PictureWindows Refusal) → v ≡ both_windows strategy copol band1 band2 → read v ≡ synthetic_rgb_windows strategy copol rows cols m1 d1 m2 d2
  unfolding both_windows synthetic_rgb_windows
  bands_windows good v e = ap read e ∙ read_by bad_bands _ ∙ sym (at_later _ shape (bad_bands ∷ []) good)
