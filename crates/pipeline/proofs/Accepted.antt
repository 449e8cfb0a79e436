-- What is known of the lists and lengths that none of the numbers 1 to 3 refuses. Assumes nothing.
use mathlib.Core.Path.{◌≡◌, sym, ap, ◌∙◌}
use mathlib.Core.Bool.{true, false}
use mathlib.Core.List.{List}
use Prim.Native.Nat.{ℕ, ◌*◌, ◌≤◌}
use native.Mathlib.Nat.{mul-le-mul}
use native.Mathlib.Omega.{arith}
use lib.ListN.{length}
use lib.Ieee.{Float}
use Rattle.types.specs.declared.AutoscaleStrategy.{AutoscaleStrategy}
use Rattle.types.specs.declared.Lent.{Lent}
use Rattle.types.specs.declared.Sides.{Sides}
use Rattle.spec.specs.Pixels.{Pixel, pixels}
use Rattle.spec.specs.Refusals.{unlike, work_refused}
use Rattle.spec.specs.Strategies.{is_clahe}
use Rattle.raster.specs.declared.band.Raster.{Raster}
use Rattle.raster.specs.Bands.{pixels_of, Holds}
use Rattle.raster.proofs.Bands.{named, or_false, pixels_same}
use Rattle.pipeline.specs.Ready.{Ready, PictureReady}
use Rattle.pipeline.specs.Windows.{lent_refused}

-- the work of Clahe
pub work_length : (strategy : AutoscaleStrategy) (work : ℕ) → work_refused strategy work ≡ false → is_clahe strategy ≡ true → work ≡ 16384
unfolding work_refused
work_length strategy work e c = named work 16384 (rw c at e)

-- what is said of a raster is said of its sides and lists
pub held : {A : Type 0} (f : Sides → List Pixel → A) (sides : Sides) (m : List ℕ) (d : List Float) (raster : Raster) → Holds sides m d raster →
    f raster.sides (pixels_of raster.band) ≡ f sides (pixels m d)
held f sides m d raster h = ap (λ (s : Sides). f s (pixels_of raster.band)) h.2 ∙ ap (f sides) (pixels_same h.0 h.1)

pub length_held : (sides : Sides) (m : List ℕ) (d : List Float) (raster : Raster) → Holds sides m d raster → length d ≡ sides.rows * sides.cols
length_held sides m d raster h = ap length (sym h.0) ∙ raster.sized ∙ ap (λ (s : Sides). s.rows * s.cols) h.2

-- ready in the sides that a raster has
pub ready_in : (strategy : AutoscaleStrategy) (sides : Sides) (own : Sides) (out work : ℕ) → own ≡ sides → Ready strategy sides out work → Ready strategy own out work
ready_in strategy sides own out work e r = rw e r

-- the lengths lent to a picture
pub lent_ready : (strategy : AutoscaleStrategy) (sides : Sides) (lent : Lent) → lent_refused strategy (sides.rows * sides.cols) lent ≡ false → PictureReady strategy sides lent
lent_ready strategy sides lent e =
    let w = or_false _ (work_refused strategy lent.work) e in
    let c = or_false _ (unlike lent.rgb (3 * (sides.rows * sides.cols))) w.0 in
    let g = or_false (unlike lent.grey1 (sides.rows * sides.cols)) (unlike lent.grey2 (sides.rows * sides.cols)) c.0 in
    let k = work_length strategy lent.work w.1 in
    record {
      first = record { out_length = named lent.grey1 (sides.rows * sides.cols) g.0; work_length = k };
      second = record { out_length = named lent.grey2 (sides.rows * sides.cols) g.1; work_length = k };
      rgb_length = named lent.rgb (3 * (sides.rows * sides.cols)) c.1;
    }

-- a raster has no more than 4,096 by 4,096 pixels
pub few : (sides : Sides) (raster : Raster) → raster.sides ≡ sides → sides.rows * sides.cols ≤ 16777216
few sides raster e =
    let small = raster.small in
    rw (← e) (omega (arith, mul-le-mul small.0 small.1))
