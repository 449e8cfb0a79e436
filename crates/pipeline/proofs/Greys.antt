-- The grey calls by the window that `grey_window` answers. Assumes nothing.
use mathlib.Core.Path.{◌≡◌, refl, sym, ap, ◌∙◌}
use mathlib.Core.Bool.{Bool, true, false, ◌||◌}
use mathlib.Core.List.{List, [], ◌∷◌, ◌++◌, map}
use Prim.Native.Nat.{ℕ, ◌*◌}
use borrow.Author.Tests.{not-false}
use lib.ListN.{length}
use lib.Ieee.{Float, ne}
use Rattle.types.specs.declared.AutoscaleStrategy.{AutoscaleStrategy}
use Rattle.types.specs.declared.Sides.{Sides}
use Rattle.types.specs.declared.WindowFloats.{WindowFloats}
use Rattle.types.specs.declared.refusal.Refusal.{Refusal}
use Rattle.types.specs.Replies.{refusal_number}
use Rattle.std.specs.Prelude.{Option, Some, None, Result, Ok, Err}
use Rattle.spec.specs.Answer.{Answer, refused, done, first_of, answer, number, after, read}
use Rattle.spec.specs.Pixels.{Pixel, pixels}
use Rattle.spec.specs.Statistics.{statistics_of}
use Rattle.spec.specs.Stretch.{stretch}
use Rattle.spec.specs.Strategies.{is_clahe}
use Rattle.spec.specs.Window.{window_of, gamma_refused}
use Rattle.spec.specs.Refusals.{sides_refused, lengths_refused, unlike, work_refused, marks_refused, decibels_refused, tiles_refused}
use Rattle.spec.specs.Clahe.{clahe_values}
use Rattle.spec.specs.Gamma.{BitDepth, U8, U16, full_of}
use Rattle.spec.specs.Grey.{normal_pixel, values}
use Rattle.gamma.specs.Gammas.{usual}
use Rattle.gamma.proofs.Gammas.{gammas}
use Rattle.autoscale.specs.Painted.{plain_values, opens}
use Rattle.raster.specs.declared.band.Raster.{Raster}
use Rattle.raster.specs.Bands.{pixels_of, Holds}
use Rattle.raster.proofs.Bands.{none_applies}
use Rattle.pipeline.specs.Windows.{grey_window, grey_window16}
use Rattle.pipeline.specs.Work.{uses, Kept}
use Rattle.pipeline.proofs.Accepted.{held}
use Rattle.lists.proofs.Replies.{done-answer}
use Rattle.pipeline.proofs.Tests.{at_first, at_later, done-at, renumbered}
use Rattle.autoscale.proofs.Painted.{NoWindow}

-- ---- a window that painting starts from

-- at U16: no number refuses it
pub opens_straight : (w : Option WindowFloats) → gamma_refused w ≡ false → opens U16 w ≡ true
unfolding opens gamma_refused ne
opens_straight (Some w) e = not-false _ e
opens_straight None e = refl

-- at U8: its gamma is one of four
pub opens-usual : (w : Option WindowFloats) → usual w ≡ true → opens U8 w ≡ true
unfolding opens usual
opens-usual (Some w) e = e
opens-usual None e = refl

-- the last of three tests does not hold where none does
last_clear : (d e f : Bool) → first_of 4 (d ∷ e ∷ f ∷ []) ≡ 0 → f ≡ false
last_clear d e f q =
    let q5 = (none_applies 3 d (e ∷ f ∷ []) q).1 in
    let q6 = (none_applies 4 e (f ∷ []) q5).1 in
    (none_applies 5 f [] q6).0

-- ---- a reply that reads as an answer
pub read_refused : {A : Type 0} (r : Result A Refusal) (a : Answer A) (k : Refusal) → read r ≡ a → r ≡ Err k → a ≡ refused (refusal_number k)
unfolding read
read_refused r a k q e = sym q ∙ ap read e

pub read_done : {A : Type 0} (r : Result A Refusal) (a : Answer A) (x : A) → read r ≡ a → r ≡ Ok x → a ≡ done x
unfolding read
read_done r a x q e = sym q ∙ ap read e

-- what a call owes, once its answer is known
module _ (strategy : AutoscaleStrategy) (a : Answer (List ℕ)) (old : List ℕ) (work : List Float) where
  abbrev pub Owed : ℕ → List ℕ → List Float → Type 0
  Owed r new last = (r ≡ number a) × ((new ≡ after (λ l. l) a old) × Kept (uses strategy a) work last)

  owed_refused : (k : ℕ) → a ≡ refused k → Owed k old work
  unfolding number after
  owed_refused k e = (sym (ap number e), (sym (ap (λ (q : Answer (List ℕ)). after (λ l. l) q old) e), record { size = refl; same = λ u. refl }))

  owed_done : (greys new : List ℕ) (last : List Float) → a ≡ done greys → new ≡ greys → Kept (is_clahe strategy) work last → Owed 0 new last
  unfolding number after uses
  owed_done greys new last e f k = (sym (ap number e), (f ∙ sym (ap (λ (q : Answer (List ℕ)). after (λ l. l) q old) e), rw e k))

-- ---- a grey call: its values by a window, in sides and pixels

abbrev pub greys_by : AutoscaleStrategy → Option WindowFloats → Sides → List Pixel → List ℕ
greys_by strategy w s px = stretch (values U8 strategy s.rows s.cols px w)

abbrev pub values_by : AutoscaleStrategy → Option WindowFloats → Sides → List Pixel → List ℕ
values_by strategy w s px = values U16 strategy s.rows s.cols px w

module _ (strategy : AutoscaleStrategy) (sides : Sides) (m : List ℕ) (d : List Float) (out : List ℕ) (work : List Float)
    (of : Option WindowFloats → Sides → List Pixel → List ℕ) (rest : List Bool) where
  abbrev first-window : Option WindowFloats
  first-window = window_of strategy (statistics_of (pixels m d))

  abbrev greys-of : Option WindowFloats → List ℕ
  greys-of w = of w sides (pixels m d)

  abbrev shape : List Bool
  shape =
      sides_refused sides.rows sides.cols
      ∷ (lengths_refused sides.rows sides.cols m d || unlike (length out) (sides.rows * sides.cols) || work_refused strategy (length work)) ∷ marks_refused m ∷ []

  abbrev called : Answer (List ℕ)
  called = answer (first_of 1 (shape ++ rest)) (greys-of first-window)

  -- refused by the first tests: nothing is written
  pub first_refused : (k : ℕ) → k ≡ first_of 1 shape → (k ≡ 0 → ⊥) → Owed strategy called out work k out work
  first_refused k q n = owed_refused strategy called out work k (at_first (greys-of first-window) shape rest k q n)

  module _ (good : 0 ≡ first_of 1 shape) where
    abbrev later : Answer (Option WindowFloats)
    later = answer (first_of 4 rest) first-window

    -- by the others
    pub later_refused : (k : ℕ) → later ≡ refused k → Owed strategy called out work k out work
    later_refused k e =
        owed_refused strategy called out work k
        (at_later (greys-of first-window) shape rest (sym good) ∙ renumbered _ k first-window (greys-of first-window) e)

    -- done: the values are written, and Clahe may have written to the work list
    pub all_done :
        (w : Option WindowFloats) → later ≡ done w → (raster : Raster) → Holds sides m d raster → (new : List ℕ) (last : List Float)
        → new ≡ of w raster.sides (pixels_of raster.band) → Kept (is_clahe strategy) work last → Owed strategy called out work 0 new last
    all_done w e raster h new last q k =
        let known = done-answer _ first-window w e in
        owed_done strategy called out work (greys-of first-window) new last
        (at_later (greys-of first-window) shape rest (sym good) ∙ done-at (greys-of first-window) _ known.0)
        (q ∙ held (of w) sides m d raster h ∙ ap greys-of (sym known.1)) k

-- ---- the grey calls, of an accepted raster
module _ (strategy : AutoscaleStrategy) (sides : Sides) (m : List ℕ) (d : List Float) (raster : Raster) (h : Holds sides m d raster) (r : Result (Option WindowFloats) Refusal) where
  abbrev band : List Pixel
  band = pixels m d

  abbrev w0 : Option WindowFloats
  w0 = window_of strategy (statistics_of band)

  -- at U8
  module _ (is : read r ≡ grey_window strategy raster.sides (pixels_of raster.band)) where
    abbrev tests : List Bool
    tests = decibels_refused band ∷ tiles_refused strategy sides.rows sides.cols band ∷ []

    read8 : read r ≡ answer (first_of 4 tests) w0
    unfolding grey_window
    read8 = is ∙ held (grey_window strategy) sides m d raster h

    pub grey_err : (k : Refusal) → r ≡ Err k → answer (first_of 4 tests) w0 ≡ refused (refusal_number k)
    grey_err k e = read_refused r _ k read8 e

    module _ (w : Option WindowFloats) (e : r ≡ Ok w) where
      pub grey_ok : answer (first_of 4 tests) w0 ≡ done w
      grey_ok = read_done r _ w read8 e

      pub grey-opens : opens U8 w ≡ true
      grey-opens = rw (← (done-answer _ w0 w grey_ok).1) (opens-usual _ (gammas.grey strategy (statistics_of band)))

  -- at U16
  module _ (is : read r ≡ grey_window16 strategy raster.sides (pixels_of raster.band)) where
    abbrev tests16 : List Bool
    tests16 = decibels_refused band ∷ tiles_refused strategy sides.rows sides.cols band ∷ gamma_refused w0 ∷ []

    read16 : read r ≡ answer (first_of 4 tests16) w0
    unfolding grey_window16
    read16 = is ∙ held (grey_window16 strategy) sides m d raster h

    pub grey16_err : (k : Refusal) → r ≡ Err k → answer (first_of 4 tests16) w0 ≡ refused (refusal_number k)
    grey16_err k e = read_refused r _ k read16 e

    module _ (w : Option WindowFloats) (e : r ≡ Ok w) where
      pub grey16_ok : answer (first_of 4 tests16) w0 ≡ done w
      grey16_ok = read_done r _ w read16 e

      pub grey16_opens : opens U16 w ≡ true
      grey16_opens =
          let known = done-answer _ w0 w grey16_ok in
          rw (← known.1) (opens_straight w0 (last_clear _ _ (gamma_refused w0) known.0))

-- ---- by Clahe

-- without a window the values are those outside Clahe
pub values-none : (depth : BitDepth) (strategy : AutoscaleStrategy) (rows cols : ℕ) (px : List Pixel) (w : Option WindowFloats) → NoWindow w →
    plain_values depth px w ≡ values depth strategy rows cols px w
unfolding values
values-none depth strategy rows cols px (Some window) h = absurd (h window refl)
values-none depth strategy rows cols px None h = refl

pub values_tiles : (depth : BitDepth) (strategy : AutoscaleStrategy) (rows cols : ℕ) (px : List Pixel) (w : Option WindowFloats) (window : WindowFloats) → w ≡ Some window → is_clahe strategy ≡ true →
    clahe_values (full_of depth) rows cols (map (normal_pixel window.low window.high window.range) px) ≡ values depth strategy rows cols px w
unfolding values
values_tiles depth strategy rows cols px w window e c = rw (e, c)
