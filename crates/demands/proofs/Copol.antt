-- The choice of the co-pol band sets Tamed's windows alone, and bands and choice swapped swap the greys. Assumes nothing.
use mathlib.Core.Path.{◌≡◌, refl, sym, ap, subst, ◌∙◌}
use mathlib.Core.Bool.{Bool, true, false, ◌||◌}
use mathlib.Core.List.{List, [], ◌∷◌}
use Prim.Native.Nat.{ℕ, zero, suc, ◌*◌}
use lib.Ieee.{Float}
use Rattle.types.specs.declared.AutoscaleStrategy.{AutoscaleStrategy}
use Rattle.types.specs.declared.CoPol.{CoPol}
use Rattle.types.specs.declared.CoPol.TheVariants.{Band1, Band2}
use Rattle.types.specs.declared.Lent.{Lent}
use Rattle.types.specs.declared.PictureChoices.{PictureChoices}
use Rattle.types.specs.declared.SyntheticRgbMode.{SyntheticRgbMode}
use Rattle.types.specs.declared.PictureWindows.{PictureWindows}
use Rattle.types.specs.declared.WindowFloats.{WindowFloats}
use Rattle.std.specs.Prelude.{Option}
use Rattle.spec.specs.Answer.{done, first_of, or_refused, answer, number}
use Rattle.spec.specs.Colour.{colours_of}
use Rattle.spec.specs.Copol.{first_is_copol, second_is_copol, windows_of, synthetic_rgb_picture_copol, synthetic_rgb_windows}
use Rattle.spec.specs.Picture.{Picture, picture_greys, composed, picture_tests, synthetic_rgb_picture}
use Rattle.spec.specs.Pixels.{Pixel, pixels}
use Rattle.spec.specs.Refusals.{sides_refused, lengths_refused, unlike, work_refused, marks_refused, decibels_refused, tiles_refused}
use Rattle.spec.specs.Statistics.{statistics_of}
use Rattle.spec.specs.Strategies.{is_tamed}
use Rattle.spec.specs.Window.{window_of}
use Rattle.lists.proofs.Replies.{done-answer, none_holds, all_clear, or_left}
use Rattle.demands.specs.Copol.{Copol, told, other_band, swapped_lent, swapped_picture, swapped_windows}
use Rattle.demands.proofs.Beside.{or_zero, not_tamed, window_same}

-- a number does not tell what is answered behind it
number_same : {A : Type 0} (k : ℕ) (a b : A) → number (answer k a) ≡ number (answer k b)
unfolding answer or_refused number
number_same zero a b = refl
number_same (suc k) a b = refl

answer-same : {A : Type 0} (k : ℕ) {a b : A} → a ≡ b → answer k a ≡ answer k b
answer-same k e = ap (answer k) e

-- what comes of the same tests is swapped
swap_answer : (strategy : AutoscaleStrategy) (k : ℕ) (g1 g2 : List ℕ) → answer k (composed strategy g2 g1) ≡ swapped_picture strategy (answer k (composed strategy g1 g2))
unfolding answer or_refused swapped_picture composed
swap_answer strategy zero g1 g2 = refl
swap_answer strategy (suc k) g1 g2 = refl

swap_pictures : (strategy : AutoscaleStrategy) (ts us : List Bool) → ts ≡ us → (g1 g2 : List ℕ) →
    answer (first_of 1 ts) (composed strategy g2 g1) ≡ swapped_picture strategy (answer (first_of 1 us) (composed strategy g1 g2))
swap_pictures strategy ts us e g1 g2 = ap (λ (l : List Bool). answer (first_of 1 l) (composed strategy g2 g1)) e ∙ swap_answer strategy (first_of 1 us) g1 g2

abbrev two : Option WindowFloats → Option WindowFloats → PictureWindows
two v w = record { first = v; second = w }

swap_two : (k : ℕ) (v w : Option WindowFloats) → answer k (two w v) ≡ swapped_windows (answer k (two v w))
unfolding answer or_refused swapped_windows
swap_two zero v w = refl
swap_two (suc k) v w = refl

swap_windows : (ts us : List Bool) → ts ≡ us → (v w : Option WindowFloats) → answer (first_of 1 ts) (two w v) ≡ swapped_windows (answer (first_of 1 us) (two v w))
swap_windows ts us e v w = ap (λ (l : List Bool). answer (first_of 1 l) (two w v)) e ∙ swap_two (first_of 1 us) v w

-- outside Tamed a picture's windows are the window call's
windows-plain : (strategy : AutoscaleStrategy) → is_tamed strategy ≡ false → (px1 px2 : List Pixel) (c : CoPol) →
    windows_of strategy c px1 px2 ≡ two (window_of strategy (statistics_of px1)) (window_of strategy (statistics_of px2))
windows-plain strategy t px1 px2 c =
    let same1 = window_same strategy t (first_is_copol c) (statistics_of px1) in
    let same2 = window_same strategy t (second_is_copol c) (statistics_of px2) in
    λ i. two (same1 i) (same2 i)

-- ---- tests over both bands, in either order

or_swap : (a b : Bool) → (b || a) ≡ (a || b)
or_swap true true = refl
or_swap true false = refl
or_swap false true = refl
or_swap false false = refl

-- two tests of each band
or_swaps : (a b c d : Bool) → (b || a || d || c) ≡ (a || b || c || d)
or_swaps true true c d = refl
or_swaps true false c d = refl
or_swaps false true c d = refl
or_swaps false false c d = or_swap c d

module _ (strategy : AutoscaleStrategy) (rows cols : ℕ) (m1 : List ℕ) (d1 : List Float) (m2 : List ℕ) (d2 : List Float) where
  abbrev px1 : List Pixel
  px1 = pixels m1 d1

  abbrev px2 : List Pixel
  px2 = pixels m2 d2

  abbrev greys : Option WindowFloats → List Pixel → List ℕ
  greys w px = picture_greys strategy rows cols px w

  tests_swapped : (lent : Lent) → picture_tests strategy rows cols m2 d2 m1 d1 (swapped_lent lent) px2 px1 ≡ picture_tests strategy rows cols m1 d1 m2 d2 lent px1 px2
  unfolding picture_tests
  tests_swapped lent =
      let lengths = or_swaps (lengths_refused rows cols m1 d1) (lengths_refused rows cols m2 d2) (unlike lent.grey1 (rows * cols)) (unlike lent.grey2 (rows * cols)) in
      let marks = or_swap (marks_refused m1) (marks_refused m2) in
      let decibels = or_swap (decibels_refused px1) (decibels_refused px2) in
      let tiles = or_swap (tiles_refused strategy rows cols px1) (tiles_refused strategy rows cols px2) in
      λ i. sides_refused rows cols ∷ (lengths i || unlike lent.rgb (3 * (rows * cols)) || work_refused strategy lent.work) ∷ marks i ∷ decibels i ∷ tiles i ∷ []

  -- ---- the picture

  module _ (lent : Lent) where
    abbrev n : ℕ
    n = first_of 1 (picture_tests strategy rows cols m1 d1 m2 d2 lent px1 px2)

    -- outside Tamed
    outside : is_tamed strategy ≡ false → (mode : SyntheticRgbMode) (c c' : CoPol) →
        synthetic_rgb_picture_copol (told strategy mode c) rows cols m1 d1 m2 d2 lent ≡ synthetic_rgb_picture_copol (told strategy mode c') rows cols m1 d1 m2 d2 lent
    unfolding synthetic_rgb_picture_copol
    outside t mode c c' =
        let same1 = window_same strategy t (first_is_copol c) (statistics_of px1) ∙ sym (window_same strategy t (first_is_copol c') (statistics_of px1)) in
        let same2 = window_same strategy t (second_is_copol c) (statistics_of px2) ∙ sym (window_same strategy t (second_is_copol c') (statistics_of px2)) in
        λ i. answer n (composed strategy (greys (same1 i) px1) (greys (same2 i) px2))

    swapped_is : (mode : SyntheticRgbMode) (c : CoPol) →
        synthetic_rgb_picture_copol (told strategy mode (other_band c)) rows cols m2 d2 m1 d1 (swapped_lent lent)
        ≡ swapped_picture strategy (synthetic_rgb_picture_copol (told strategy mode c) rows cols m1 d1 m2 d2 lent)
    unfolding synthetic_rgb_picture_copol first_is_copol second_is_copol other_band
    swapped_is mode Band1 = swap_pictures strategy _ _ (tests_swapped lent) _ _
    swapped_is mode Band2 = swap_pictures strategy _ _ (tests_swapped lent) _ _

  -- ---- the windows

  both_swapped : (sides_refused rows cols ∷ (lengths_refused rows cols m2 d2 || lengths_refused rows cols m1 d1) ∷ (marks_refused m2 || marks_refused m1) ∷ (decibels_refused px2 || decibels_refused px1) ∷ [])
      ≡ (sides_refused rows cols ∷ (lengths_refused rows cols m1 d1 || lengths_refused rows cols m2 d2) ∷ (marks_refused m1 || marks_refused m2) ∷ (decibels_refused px1 || decibels_refused px2) ∷ [])
  both_swapped =
      let lengths = or_swap (lengths_refused rows cols m1 d1) (lengths_refused rows cols m2 d2) in
      let marks = or_swap (marks_refused m1) (marks_refused m2) in
      let decibels = or_swap (decibels_refused px1) (decibels_refused px2) in
      λ i. sides_refused rows cols ∷ lengths i ∷ marks i ∷ decibels i ∷ []

  windows_outside : is_tamed strategy ≡ false → (c c' : CoPol) → synthetic_rgb_windows strategy c rows cols m1 d1 m2 d2 ≡ synthetic_rgb_windows strategy c' rows cols m1 d1 m2 d2
  unfolding synthetic_rgb_windows
  windows_outside t c c' = answer-same _ (windows-plain strategy t px1 px2 c ∙ sym (windows-plain strategy t px1 px2 c'))

  windows-swapped : (c : CoPol) → synthetic_rgb_windows strategy (other_band c) rows cols m2 d2 m1 d1 ≡ swapped_windows (synthetic_rgb_windows strategy c rows cols m1 d1 m2 d2)
  unfolding synthetic_rgb_windows first_is_copol second_is_copol other_band
  windows-swapped Band1 = swap_windows _ _ both_swapped _ _
  windows-swapped Band2 = swap_windows _ _ both_swapped _ _

colours_are : (choices : PictureChoices) (rows cols : ℕ) (m1 : List ℕ) (d1 : List Float) (m2 : List ℕ) (d2 : List Float) (lent : Lent) (p : Picture) →
    synthetic_rgb_picture_copol choices rows cols m1 d1 m2 d2 lent ≡ done p → p.colours ≡ colours_of choices.strategy p.grey1 p.grey2
unfolding synthetic_rgb_picture_copol composed
colours_are choices rows cols m1 d1 m2 d2 lent p e =
    subst (λ (q : Picture). q.colours ≡ colours_of choices.strategy q.grey1 q.grey2) (done-answer _ _ _ e).1 refl

-- a done picture's windows and greys
module _ (choices : PictureChoices) (rows cols : ℕ) (m1 : List ℕ) (d1 : List Float) (m2 : List ℕ) (d2 : List Float) (lent : Lent) where
  abbrev both : PictureWindows
  both = windows_of choices.strategy choices.copol (pixels m1 d1) (pixels m2 d2)

  abbrev named : Bool
  named = lengths_refused rows cols m1 d1 || lengths_refused rows cols m2 d2

  abbrev grey1_named : Bool
  grey1_named = named || unlike lent.grey1 (rows * cols)

  abbrev greys_named : Bool
  greys_named = grey1_named || unlike lent.grey2 (rows * cols)

  abbrev outputs_named : Bool
  outputs_named = greys_named || unlike lent.rgb (3 * (rows * cols))

  painted_is : (p : Picture) → synthetic_rgb_picture_copol choices rows cols m1 d1 m2 d2 lent ≡ done p →
      (synthetic_rgb_windows choices.strategy choices.copol rows cols m1 d1 m2 d2 ≡ done both)
      × (p.grey1 ≡ picture_greys choices.strategy rows cols (pixels m1 d1) both.first) × (p.grey2 ≡ picture_greys choices.strategy rows cols (pixels m2 d2) both.second)
  unfolding synthetic_rgb_picture_copol synthetic_rgb_windows picture_tests composed answer
  painted_is p e =
      let h = done-answer _ _ _ e in
      let a = none_holds 0 _ h.0 in
      let lengths =
      or_left named _ (or_left grey1_named _ (or_left greys_named _ (or_left outputs_named (work_refused choices.strategy lent.work) a.1.0))) in (
        or_zero _ _ (all_clear 1 _ (a.0, (lengths, (a.1.1.0, (a.1.1.1.0, tt))))),
        sym (ap (λ (q : Picture). q.grey1) h.1),
        sym (ap (λ (q : Picture). q.grey2) h.1),
      )

pub copol : Copol
unfolding synthetic_rgb_picture_copol synthetic_rgb_picture first_is_copol second_is_copol
copol =
    record {
      old_call = λ strategy mode rows cols m1 d1 m2 d2 lent. refl;
      outside_tamed = λ strategy t mode c c' rows cols m1 d1 m2 d2 lent. outside strategy rows cols m1 d1 m2 d2 lent (not_tamed strategy t) mode c c';
      windows_outside_tamed = λ strategy t c c' rows cols m1 d1 m2 d2. windows_outside strategy rows cols m1 d1 m2 d2 (not_tamed strategy t) c c';
      window_call = λ strategy t c px1 px2. windows-plain strategy (not_tamed strategy t) px1 px2 c;
      replies = λ strategy mode c c' rows cols m1 d1 m2 d2 lent. number_same _ _ _;
      colours = colours_are;
      painted = painted_is;
      swapped = λ strategy mode c rows cols m1 d1 m2 d2 lent. swapped_is strategy rows cols m1 d1 m2 d2 lent mode c;
      swapped_windows = λ strategy c rows cols m1 d1 m2 d2. windows-swapped strategy rows cols m1 d1 m2 d2 c;
    }
