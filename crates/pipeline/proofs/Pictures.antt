-- The picture call by the windows that `picture_windows` answers. Assumes nothing.
use mathlib.Core.Path.{◌≡◌, refl, sym, ap, ◌∙◌}
use mathlib.Core.Bool.{Bool, true, false, ◌||◌}
use mathlib.Core.List.{List, [], ◌∷◌, ◌++◌}
use Prim.Native.Nat.{ℕ}
use lib.Ieee.{Float}
use Rattle.types.specs.declared.AutoscaleStrategy.{AutoscaleStrategy}
use Rattle.types.specs.declared.AutoscaleStrategy.TheVariants.{Standard, Robust, Adaptive, Equalized, Clahe, Tamed, Default}
use Rattle.types.specs.declared.CoPol.{CoPol}
use Rattle.types.specs.declared.PictureWindows.{PictureWindows}
use Rattle.types.specs.declared.Sides.{Sides}
use Rattle.types.specs.declared.WindowFloats.{WindowFloats}
use Rattle.types.specs.declared.refusal.Refusal.{Refusal}
use Rattle.types.specs.Replies.{refusal_number}
use Rattle.std.specs.Prelude.{Option, Result, Ok, Err}
use Rattle.spec.specs.Answer.{Answer, refused, done, first_of, answer, number, after, read}
use Rattle.spec.specs.Colour.{bytes_of, colours_of}
use Rattle.spec.specs.Copol.{first_is_copol, second_is_copol, windows_of}
use Rattle.spec.specs.Grey.{values}
use Rattle.types.specs.declared.Lent.{Lent}
use Rattle.spec.specs.Picture.{Picture, picture_greys, composed}
use Rattle.spec.specs.Pixels.{Pixel, pixels}
use Rattle.spec.specs.Refusals.{sides_refused, marks_refused, decibels_refused, tiles_refused}
use Rattle.spec.specs.Statistics.{statistics_of}
use Rattle.raster.specs.Bands.{pixels_of}
use Rattle.raster.proofs.Bands.{pixels_same}
use Rattle.spec.specs.Strategies.{is_clahe, is_tamed}
use Rattle.spec.specs.Stretch.{stretch}
use Rattle.spec.specs.Gamma.{U8}
use Rattle.spec.specs.Window.{picture_window}
use Rattle.autoscale.specs.Painted.{plain_values, opens}
use Rattle.autoscale.proofs.Painted.{values_outside}
use Rattle.gamma.proofs.Gammas.{gammas}
use Rattle.pipeline.specs.declared.scene.Scene.{Scene}
use Rattle.pipeline.specs.Scenes.{HoldsBoth}
use Rattle.pipeline.specs.Windows.{picture_lengths_refused, picture_windows}
use Rattle.pipeline.specs.Work.{uses, Kept}
use Rattle.pipeline.proofs.Accepted.{held}
use Rattle.pipeline.proofs.Tests.{at_first, at_later, done-at, renumbered}
use Rattle.lists.proofs.Replies.{done-answer}
use Rattle.pipeline.proofs.Greys.{read_refused, read_done, opens-usual}

-- ---- one band

tamed_outside : (s : AutoscaleStrategy) → is_tamed s ≡ true → is_clahe s ≡ false
unfolding is_tamed is_clahe
tamed_outside Standard e = refl
tamed_outside Robust e = refl
tamed_outside Adaptive e = refl
tamed_outside Equalized e = refl
tamed_outside Clahe e = sym e
tamed_outside Tamed e = refl
tamed_outside Default e = refl

module _ (strategy : AutoscaleStrategy) (rows cols : ℕ) (px : List Pixel) (w : Option WindowFloats) where
  pub greys_tamed : is_tamed strategy ≡ true → plain_values U8 px w ≡ picture_greys strategy rows cols px w
  unfolding picture_greys
  greys_tamed e = rw e (sym (values_outside U8 strategy rows cols px w (tamed_outside strategy e)))

  pub greys_stretched : is_tamed strategy ≡ false → stretch (values U8 strategy rows cols px w) ≡ picture_greys strategy rows cols px w
  unfolding picture_greys
  greys_stretched e = rw e

-- the work list over two bands
pub kept-twice : (b : Bool) (old mid new : List Float) → Kept b old mid → Kept b mid new → Kept b old new
kept-twice b old mid new k l = record { size = l.size ∙ k.size; same = λ e. l.same e ∙ k.same e }

-- ---- the call
module _ (strategy : AutoscaleStrategy) (copol : CoPol) (sides : Sides) (m1 : List ℕ) (d1 : List Float) (m2 : List ℕ) (d2 : List Float) (lent : Lent) where
  abbrev band1 : List Pixel
  band1 = pixels m1 d1

  abbrev band2 : List Pixel
  band2 = pixels m2 d2

  abbrev w01 : Option WindowFloats
  w01 = picture_window strategy (first_is_copol copol) (statistics_of band1)

  abbrev w02 : Option WindowFloats
  w02 = picture_window strategy (second_is_copol copol) (statistics_of band2)

  abbrev greys : Option WindowFloats → List Pixel → List ℕ
  greys v px = picture_greys strategy sides.rows sides.cols px v

  abbrev painted : Picture
  painted = composed strategy (greys w01 band1) (greys w02 band2)

  abbrev shape : List Bool
  shape = sides_refused sides.rows sides.cols ∷ picture_lengths_refused strategy sides.rows sides.cols m1 d1 m2 d2 lent ∷ (marks_refused m1 || marks_refused m2) ∷ []

  abbrev rest : List Bool
  rest =
      (decibels_refused band1 || decibels_refused band2)
      ∷ (tiles_refused strategy sides.rows sides.cols band1 || tiles_refused strategy sides.rows sides.cols band2) ∷ []

  abbrev owed : Answer Picture
  owed = answer (first_of 1 (shape ++ rest)) painted

  -- what the call owes: the number, the four lists
  abbrev Owed : List ℕ → List ℕ → List ℕ → List Float → ℕ → List ℕ → List ℕ → List ℕ → List Float → Type 0
  Owed grey1 grey2 rgb work r g1 g2 c last =
      (r ≡ number owed)
      × ((g1 ≡ after (λ p. p.grey1) owed grey1)
      × ((g2 ≡ after (λ p. p.grey2) owed grey2)
      × ((c ≡ after (λ p. bytes_of p.colours) owed rgb) × Kept (uses strategy owed) work last)))

  by_answer : {B : Type 0} (f : Picture → List B) (old : List B) (a : Answer Picture) → owed ≡ a → after f a old ≡ after f owed old
  by_answer {B} f old a e = ap (λ (q : Answer Picture). after f q old) (sym e)

  -- refused: nothing is written
  refused-owed : (k : ℕ) → owed ≡ refused k → (grey1 grey2 rgb : List ℕ) (work : List Float) → Owed grey1 grey2 rgb work k grey1 grey2 rgb work
  unfolding number after
  refused-owed k q grey1 grey2 rgb work =
      (sym (ap number q), (by_answer _ grey1 (refused k) q, (by_answer _ grey2 (refused k) q, (by_answer _ rgb (refused k) q, record { size = refl; same = λ u. refl }))))

  -- by the first tests
  pub first-refused : (k : ℕ) → k ≡ first_of 1 shape → (k ≡ 0 → ⊥) → (grey1 grey2 rgb : List ℕ) (work : List Float) → Owed grey1 grey2 rgb work k grey1 grey2 rgb work
  first-refused k e n = refused-owed k (at_first painted shape rest k e n)

  module _ (good : first_of 1 shape ≡ 0) (scene : Scene) (h : HoldsBoth sides m1 d1 m2 d2 scene) (r : Result PictureWindows Refusal)
      (is : read r ≡ picture_windows strategy copol scene.first.sides (pixels_of scene.first.band) (pixels_of scene.second.band)) where
    read_both : read r ≡ answer (first_of 4 rest) (windows_of strategy copol band1 band2)
    unfolding picture_windows
    read_both =
        is ∙ held (λ s px. picture_windows strategy copol s px (pixels_of scene.second.band)) sides m1 d1 scene.first h.0
        ∙ ap (picture_windows strategy copol sides band1) (pixels_same h.1.0 h.1.1)

    -- by the others
    pub picture-refused : (k : Refusal) → r ≡ Err k → (grey1 grey2 rgb : List ℕ) (work : List Float) → Owed grey1 grey2 rgb work (refusal_number k) grey1 grey2 rgb work
    picture-refused k e =
        refused-owed (refusal_number k) (at_later painted shape rest good ∙ renumbered _ (refusal_number k) (windows_of strategy copol band1 band2) painted (read_refused r _ k read_both e))

    module _ (w : PictureWindows) (e : r ≡ Ok w) where
      known : (first_of 4 rest ≡ 0) × (windows_of strategy copol band1 band2 ≡ w)
      known = done-answer (first_of 4 rest) (windows_of strategy copol band1 band2) w (read_done r _ w read_both e)

      parts : (w.first ≡ w01) × (w.second ≡ w02)
      parts = (sym (ap (λ (t : PictureWindows). t.first) known.1), sym (ap (λ (t : PictureWindows). t.second) known.1))

      pub picture-opens : (opens U8 w.first ≡ true) × (opens U8 w.second ≡ true)
      picture-opens = (
        rw parts.0 (opens-usual w01 (gammas.picture strategy (first_is_copol copol) (statistics_of band1))),
        rw parts.1 (opens-usual w02 (gammas.picture strategy (second_is_copol copol) (statistics_of band2))),
      )

      is_done : owed ≡ done painted
      is_done = at_later painted shape rest good ∙ done-at painted _ known.0

      -- both bands are painted by their windows
      pub picture-done : (grey1 grey2 rgb : List ℕ) (work : List Float) (g1 g2 c : List ℕ) (last : List Float)
          → g1 ≡ picture_greys strategy scene.first.sides.rows scene.first.sides.cols (pixels_of scene.first.band) w.first
          → g2 ≡ picture_greys strategy scene.second.sides.rows scene.second.sides.cols (pixels_of scene.second.band) w.second
          → c ≡ bytes_of (colours_of strategy g1 g2) → Kept (is_clahe strategy) work last → Owed grey1 grey2 rgb work 0 g1 g2 c last
      unfolding number after composed uses
      picture-done grey1 grey2 rgb work g1 g2 c last e1 e2 ec k =
          let of : Option WindowFloats → Sides → List Pixel → List ℕ = λ v s px. picture_greys strategy s.rows s.cols px v in
          let h1 : g1 ≡ greys w01 band1 = e1 ∙ held (of w.first) sides m1 d1 scene.first h.0 ∙ ap (λ (v : Option WindowFloats). greys v band1) parts.0 in
          let h2 : g2 ≡ greys w02 band2 = e2 ∙ held (of w.second) sides m2 d2 scene.second h.1 ∙ ap (λ (v : Option WindowFloats). greys v band2) parts.1 in
          let hc : c ≡ bytes_of (colours_of strategy (greys w01 band1) (greys w02 band2)) =
          ec ∙ ap (λ (l : List ℕ). bytes_of (colours_of strategy l g2)) h1 ∙ ap (λ (l : List ℕ). bytes_of (colours_of strategy (greys w01 band1) l)) h2 in (
            sym (ap number is_done),
            (
              h1 ∙ by_answer _ grey1 (done painted) is_done,
              (
                h2 ∙ by_answer _ grey2 (done painted) is_done,
                (hc ∙ by_answer _ rgb (done painted) is_done, rw is_done k),
              ),
            ),
          )
