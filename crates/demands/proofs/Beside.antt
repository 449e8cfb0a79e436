-- What stands beside the three claims. Assumes nothing.
use mathlib.Core.Path.{◌≡◌, refl, sym, ap, ◌∙◌, subst}
use mathlib.Core.Bool.{Bool, true, false, cond, ◌||◌, true≢false}
use mathlib.Core.List.{List, [], ◌∷◌, map}
use Prim.Native.Nat.{ℕ, zero, suc, ◌*◌, suc-le-suc}
use native.Mathlib.Nat.{min-le_right}
use native.Mathlib.Omega.{arith}
use borrow.Author.Tests.{eq-eqb, eqb-true}
use lib.Dec.{eqb}
use lib.ListN.{length, length-map}
use lib.Ieee.{Float}
use Rattle.types.specs.declared.AutoscaleStrategy.{AutoscaleStrategy}
use Rattle.types.specs.declared.AutoscaleStrategy.TheVariants.{Standard, Robust, Adaptive, Equalized, Clahe, Tamed, Default}
use Rattle.types.specs.declared.PictureChoices.{PictureChoices}
use Rattle.types.specs.declared.Clip.{Clip}
use Rattle.types.specs.declared.HistogramStats.{HistogramStats}
use Rattle.types.specs.declared.WindowFloats.{WindowFloats}
use Rattle.std.specs.Prelude.{Option, Some, None}
use Rattle.spec.specs.Answer.{Answer, done, first_of, or_refused, answer, number}
use Rattle.spec.specs.Lists.{count_of, sum_of}
use Rattle.spec.specs.Pixels.{pixels}
use Rattle.spec.specs.Refusals.{sides_refused, lengths_refused, unlike, work_refused, marks_refused, decibels_refused, tiles_refused}
use Rattle.spec.specs.Strategies.{is_tamed}
use Rattle.spec.specs.Bins.{bin_of, histogram}
use Rattle.spec.specs.Statistics.{gathered, summary, summary_of, statistics_of, placed_statistics, compute_histogram_stats}
use Rattle.spec.specs.Strongest.{strongest, place_in, nowhere}
use Rattle.spec.specs.Window.{valid_range, low_contrast_clip, heavy_tailed_clip, high_range_clip, normal_clip, standard_clip, robust_clip, skew_factor, tail_heaviness, adaptive_clip, choose_clip, tamed_clip, opened, window_of, picture_window, window_floats, autoscale_window}
use Rattle.spec.specs.Gamma.{U8}
use Rattle.spec.specs.Stretch.{stretch}
use Rattle.spec.specs.Grey.{values, grey_tests, autoscale_db_image_to_u8}
use Rattle.spec.specs.Colour.{create_synthetic_rgb_by_mode_and_strategy}
use Rattle.types.specs.declared.Lent.{Lent}
use Rattle.spec.specs.Picture.{Picture, picture_greys, composed, picture_tests}
use Rattle.spec.specs.Copol.{first_is_copol, second_is_copol, synthetic_rgb_picture_copol}
use Rattle.lists.proofs.Counts.{Below, counts-sum}
use Rattle.raster.proofs.Bands.{or_false}
use Rattle.demands.specs.Beside.{with_mean, with_bins, with_place, Beside}
use Rattle.lists.proofs.Replies.{done_or_refused, done-same, done-answer, none_holds, all_clear, both_false}
use Rattle.demands.proofs.Accepted.{named_lengths}
use Rattle.demands.proofs.Counted.{count-marks}

-- ---- the count

count_is : (rows cols : ℕ) (m : List ℕ) (d : List Float) (s : HistogramStats) → compute_histogram_stats rows cols m d ≡ done s → s.valid_count ≡ count_of 1 m
unfolding compute_histogram_stats placed_statistics
count_is rows cols m d s e =
    let h = done-answer _ _ _ e in
    let a = none_holds 0 _ h.0 in
    ap (λ (t : HistogramStats). t.valid_count) (sym h.1) ∙ count-marks m d (place_in cols (strongest (pixels m d))) (named_lengths rows cols m d a.1.0) a.1.1.0

bins-below : (least inv : Float) (vs : List Float) → Below 4096 (map (bin_of least inv) vs)
unfolding bin_of
bins-below least inv [] = tt
bins-below least inv (v ∷ vs) = (suc-le-suc (min-le_right _ 4095), bins-below least inv vs)

bins-sum : (least inv : Float) (vs : List Float) → sum_of (histogram (map (bin_of least inv) vs)) ≡ length vs
unfolding histogram
bins-sum least inv vs = counts-sum 4096 (map (bin_of least inv) vs) (bins-below least inv vs) ∙ length-map vs (bin_of least inv)

-- ---- blank windows

number-zero : {A : Type 0} (k : ℕ) (a : Answer A) → number (or_refused k a) ≡ 0 → k ≡ 0
unfolding number or_refused
number-zero zero a e = refl
number-zero (suc k) a e = absurd (omega (arith, e))

pub or_zero : {A : Type 0} (k : ℕ) (a : Answer A) → k ≡ 0 → or_refused k a ≡ a
unfolding or_refused
or_zero zero a e = refl
or_zero (suc k) a e = absurd (omega (arith, e))

blank-window : (t : Bool) (c : Clip) → t ≡ true → ◌≡◌ {A = Answer (List Float)} (done (window_floats (cond t None (Some (opened c))))) (done [])
unfolding window_floats
blank-window true c e = refl
blank-window false c e = absurd (true≢false (sym e))

blank_only : (t : Bool) (c : Clip) → ◌≡◌ {A = Answer (List Float)} (done (window_floats (cond t None (Some (opened c))))) (done []) → t ≡ true
unfolding window_floats opened
blank_only true c e = refl
blank_only false c e = let z = ap length (done-same _ _ e) in absurd (omega (arith, z))

module _ (strategy : AutoscaleStrategy) (rows cols : ℕ) (m : List ℕ) (d : List Float) where
  named : first_of 1 (sides_refused rows cols ∷ lengths_refused rows cols m d ∷ marks_refused m ∷ decibels_refused (pixels m d) ∷ []) ≡ 0 → (statistics_of (pixels m d)).valid_count ≡ count_of 1 m
  unfolding statistics_of summary_of
  named e = let a = none_holds 0 _ e in count-marks m d nowhere (named_lengths rows cols m d a.1.0) a.1.1.0

  is_blank : number (autoscale_window strategy rows cols m d) ≡ 0 → count_of 1 m ≡ 0 → autoscale_window strategy rows cols m d ≡ done []
  unfolding autoscale_window window_of
  is_blank e z =
      let k = number-zero _ _ e in
      or_zero _ _ k ∙ blank-window _ (choose_clip strategy (statistics_of (pixels m d))) (eq-eqb _ _ (named k ∙ z))

  none_marked : autoscale_window strategy rows cols m d ≡ done [] → count_of 1 m ≡ 0
  unfolding autoscale_window window_of
  none_marked e =
      let h = done_or_refused _ _ _ e in
      sym (named h.0) ∙ eqb-true _ _ (blank_only _ (choose_clip strategy (statistics_of (pixels m d))) h.1)

-- ---- the mean and the deviation

clip_unread : (strategy : AutoscaleStrategy) → (strategy ≡ Adaptive → ⊥) → (s : HistogramStats) (m d : Float) → choose_clip strategy (with_mean m d s) ≡ choose_clip strategy s
unfolding choose_clip standard_clip robust_clip valid_range low_contrast_clip heavy_tailed_clip high_range_clip normal_clip
clip_unread Standard n s m d = refl
clip_unread Robust n s m d = refl
clip_unread Adaptive n s m d = absurd (n refl)
clip_unread Equalized n s m d = refl
clip_unread Clahe n s m d = refl
clip_unread Tamed n s m d = refl
clip_unread Default n s m d = refl

tamed_clip_unread : (copol : Bool) (s : HistogramStats) (m d : Float) → tamed_clip copol (with_mean m d s) ≡ tamed_clip copol s
unfolding tamed_clip
tamed_clip_unread true s m d = refl
tamed_clip_unread false s m d = refl

window_unread : (strategy : AutoscaleStrategy) → (strategy ≡ Adaptive → ⊥) → (s : HistogramStats) (m d : Float) → window_of strategy (with_mean m d s) ≡ window_of strategy s
unfolding window_of
window_unread strategy n s m d = ap (λ (c : Clip). cond (eqb s.valid_count 0) None (Some (opened c))) (clip_unread strategy n s m d)

picture_unread : (strategy : AutoscaleStrategy) → (strategy ≡ Adaptive → ⊥) → (copol : Bool) (s : HistogramStats) (m d : Float) →
    picture_window strategy copol (with_mean m d s) ≡ picture_window strategy copol s
unfolding picture_window
picture_unread strategy n copol s m d =
    ap (λ (c : Clip). cond (eqb s.valid_count 0) None (Some (opened (cond (is_tamed strategy) c (choose_clip strategy (with_mean m d s)))))) (tamed_clip_unread copol s m d)
    ∙ ap (λ (c : Clip). cond (eqb s.valid_count 0) None (Some (opened (cond (is_tamed strategy) (tamed_clip copol s) c)))) (clip_unread strategy n s m d)

-- ---- the bins

clip-bins_unread : (strategy : AutoscaleStrategy) (s : HistogramStats) (b05 b95 : ℕ) → choose_clip strategy (with_bins b05 b95 s) ≡ choose_clip strategy s
unfolding choose_clip standard_clip robust_clip adaptive_clip skew_factor tail_heaviness valid_range low_contrast_clip heavy_tailed_clip high_range_clip normal_clip
clip-bins_unread Standard s b05 b95 = refl
clip-bins_unread Robust s b05 b95 = refl
clip-bins_unread Adaptive s b05 b95 = refl
clip-bins_unread Equalized s b05 b95 = refl
clip-bins_unread Clahe s b05 b95 = refl
clip-bins_unread Tamed s b05 b95 = refl
clip-bins_unread Default s b05 b95 = refl

tamed_clip-bins_unread : (copol : Bool) (s : HistogramStats) (b05 b95 : ℕ) → tamed_clip copol (with_bins b05 b95 s) ≡ tamed_clip copol s
unfolding tamed_clip
tamed_clip-bins_unread true s b05 b95 = refl
tamed_clip-bins_unread false s b05 b95 = refl

window-bins_unread : (strategy : AutoscaleStrategy) (s : HistogramStats) (b05 b95 : ℕ) → window_of strategy (with_bins b05 b95 s) ≡ window_of strategy s
unfolding window_of
window-bins_unread strategy s b05 b95 = ap (λ (c : Clip). cond (eqb s.valid_count 0) None (Some (opened c))) (clip-bins_unread strategy s b05 b95)

picture-window-bins_unread : (strategy : AutoscaleStrategy) (copol : Bool) (s : HistogramStats) (b05 b95 : ℕ) → picture_window strategy copol (with_bins b05 b95 s) ≡ picture_window strategy copol s
unfolding picture_window
picture-window-bins_unread strategy copol s b05 b95 =
    ap (λ (c : Clip). cond (eqb s.valid_count 0) None (Some (opened (cond (is_tamed strategy) c (choose_clip strategy (with_bins b05 b95 s)))))) (tamed_clip-bins_unread copol s b05 b95)
    ∙ ap (λ (c : Clip). cond (eqb s.valid_count 0) None (Some (opened (cond (is_tamed strategy) (tamed_clip copol s) c)))) (clip-bins_unread strategy s b05 b95)

-- ---- the place

clip_place_unread : (strategy : AutoscaleStrategy) (s : HistogramStats) (row col : ℕ) → choose_clip strategy (with_place row col s) ≡ choose_clip strategy s
unfolding choose_clip standard_clip robust_clip adaptive_clip skew_factor tail_heaviness valid_range low_contrast_clip heavy_tailed_clip high_range_clip normal_clip
clip_place_unread Standard s row col = refl
clip_place_unread Robust s row col = refl
clip_place_unread Adaptive s row col = refl
clip_place_unread Equalized s row col = refl
clip_place_unread Clahe s row col = refl
clip_place_unread Tamed s row col = refl
clip_place_unread Default s row col = refl

tamed_clip_place_unread : (copol : Bool) (s : HistogramStats) (row col : ℕ) → tamed_clip copol (with_place row col s) ≡ tamed_clip copol s
unfolding tamed_clip
tamed_clip_place_unread true s row col = refl
tamed_clip_place_unread false s row col = refl

window_place_unread : (strategy : AutoscaleStrategy) (s : HistogramStats) (row col : ℕ) → window_of strategy (with_place row col s) ≡ window_of strategy s
unfolding window_of
window_place_unread strategy s row col = ap (λ (c : Clip). cond (eqb s.valid_count 0) None (Some (opened c))) (clip_place_unread strategy s row col)

picture-window_place_unread : (strategy : AutoscaleStrategy) (copol : Bool) (s : HistogramStats) (row col : ℕ) → picture_window strategy copol (with_place row col s) ≡ picture_window strategy copol s
unfolding picture_window
picture-window_place_unread strategy copol s row col =
    ap (λ (c : Clip). cond (eqb s.valid_count 0) None (Some (opened (cond (is_tamed strategy) c (choose_clip strategy (with_place row col s)))))) (tamed_clip_place_unread copol s row col)
    ∙ ap (λ (c : Clip). cond (eqb s.valid_count 0) None (Some (opened (cond (is_tamed strategy) (tamed_clip copol s) c)))) (clip_place_unread strategy s row col)

placed_is : (rows cols : ℕ) (m : List ℕ) (d : List Float) (s : HistogramStats) → compute_histogram_stats rows cols m d ≡ done s → s ≡ with_place s.max_row s.max_col (statistics_of (pixels m d))
unfolding compute_histogram_stats placed_statistics statistics_of summary_of summary gathered
placed_is rows cols m d s e = subst (λ (t : HistogramStats). t ≡ with_place t.max_row t.max_col (statistics_of (pixels m d))) (done-answer _ _ _ e).1 refl

-- ---- the greys of a picture

pub not_tamed : (strategy : AutoscaleStrategy) → (strategy ≡ Tamed → ⊥) → is_tamed strategy ≡ false
unfolding is_tamed
not_tamed Standard n = refl
not_tamed Robust n = refl
not_tamed Adaptive n = refl
not_tamed Equalized n = refl
not_tamed Clahe n = refl
not_tamed Tamed n = absurd (n refl)
not_tamed Default n = refl

pub window_same : (strategy : AutoscaleStrategy) → is_tamed strategy ≡ false → (copol : Bool) (s : HistogramStats) → picture_window strategy copol s ≡ window_of strategy s
unfolding picture_window window_of
window_same strategy n copol s = rw n refl

greys_same : (strategy : AutoscaleStrategy) → is_tamed strategy ≡ false → (rows cols : ℕ) (px : List _) (w : Option WindowFloats) →
    picture_greys strategy rows cols px w ≡ stretch (values U8 strategy rows cols px w)
unfolding picture_greys
greys_same strategy n rows cols px w = rw n refl

module _ (strategy : AutoscaleStrategy) (n : is_tamed strategy ≡ false) (rows cols : ℕ) (m : List ℕ) (d : List Float) (out work : ℕ) (copol : Bool) where
  win : Option WindowFloats
  win = picture_window strategy copol (statistics_of (pixels m d))

  grey-done : sides_refused rows cols ≡ false → lengths_refused rows cols m d ≡ false → unlike out (rows * cols) ≡ false → work_refused strategy work ≡ false → marks_refused m ≡ false →
      decibels_refused (pixels m d) ≡ false → tiles_refused strategy rows cols (pixels m d) ≡ false →
      autoscale_db_image_to_u8 strategy rows cols m d out work ≡ done (picture_greys strategy rows cols (pixels m d) win)
  unfolding autoscale_db_image_to_u8 grey_tests win answer
  grey-done a b c e f g h =
      or_zero _ _ (all_clear 1 _ (a, (both_false (both_false b c) e, (f, (g, (h, tt))))))
      ∙ ap done (ap (λ (w : Option WindowFloats). stretch (values U8 strategy rows cols (pixels m d) w)) (sym (window_same strategy n copol (statistics_of (pixels m d))))
      ∙ sym (greys_same strategy n rows cols (pixels m d) _))

module _ (choices : PictureChoices) (n : is_tamed choices.strategy ≡ false) (rows cols : ℕ) (m1 : List ℕ) (d1 : List Float) (m2 : List ℕ) (d2 : List Float) (lent : Lent) where
  abbrev strategy : AutoscaleStrategy
  strategy = choices.strategy

  picture-grey : (p : Picture) → synthetic_rgb_picture_copol choices rows cols m1 d1 m2 d2 lent ≡ done p →
      (autoscale_db_image_to_u8 strategy rows cols m1 d1 lent.grey1 lent.work ≡ done p.grey1) × (autoscale_db_image_to_u8 strategy rows cols m2 d2 lent.grey2 lent.work ≡ done p.grey2)
  unfolding synthetic_rgb_picture_copol picture_tests composed win
  picture-grey p e =
      let h = done-answer _ _ _ e in
      let a = none_holds 0 _ h.0 in
      let b5 = or_false _ (work_refused strategy lent.work) a.1.0 in
      let b4 = or_false _ (unlike lent.rgb (3 * (rows * cols))) b5.0 in
      let b3 = or_false _ (unlike lent.grey2 (rows * cols)) b4.0 in
      let b2 = or_false (lengths_refused rows cols m1 d1 || lengths_refused rows cols m2 d2) (unlike lent.grey1 (rows * cols)) b3.0 in
      let names = or_false (lengths_refused rows cols m1 d1) (lengths_refused rows cols m2 d2) b2.0 in
      let marks = or_false (marks_refused m1) (marks_refused m2) a.1.1.0 in
      let good = or_false (decibels_refused (pixels m1 d1)) (decibels_refused (pixels m2 d2)) a.1.1.1.0 in
      let tiles = or_false (tiles_refused strategy rows cols (pixels m1 d1)) (tiles_refused strategy rows cols (pixels m2 d2)) a.1.1.1.1.0 in (
        grey-done strategy n rows cols m1 d1 lent.grey1 lent.work (first_is_copol choices.copol) a.0 names.0 b2.1 b5.1 marks.0 good.0 tiles.0
            ∙ ap done (ap (λ (q : Picture). q.grey1) h.1),
        grey-done strategy n rows cols m2 d2 lent.grey2 lent.work (second_is_copol choices.copol) a.0 names.1 b3.1 b5.1 marks.1 good.1 tiles.1
            ∙ ap done (ap (λ (q : Picture). q.grey2) h.1),
      )

pub beside : Beside
unfolding synthetic_rgb_picture_copol create_synthetic_rgb_by_mode_and_strategy
beside =
    record {
      count = count_is;
      bins = bins-sum;
      blank = is_blank;
      only_blank = none_marked;
      mean_unread = window_unread;
      picture_mean_unread = picture_unread;
      bins_unread = window-bins_unread;
      picture_bins_unread = picture-window-bins_unread;
      place_unread = window_place_unread;
      picture_place_unread = picture-window_place_unread;
      placed = placed_is;
      picture_greys = λ choices n rows cols m1 d1 m2 d2 lent. picture-grey choices (not_tamed choices.strategy n) rows cols m1 d1 m2 d2 lent;
      picture_modes = λ choices mode rows cols m1 d1 m2 d2 lent. refl;
      composition_modes = λ strategy mode mode' band1 band2 out. refl;
    }
