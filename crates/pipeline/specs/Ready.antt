-- What painting a raster asks of lengths. Definitions only.
use Rattle.std.specs.Prelude.{ℕ, ◌*◌, ◌≡◌, true}
use Rattle.types.specs.declared.AutoscaleStrategy.{AutoscaleStrategy}
use Rattle.types.specs.declared.Lent.{Lent}
use Rattle.types.specs.declared.Sides.{Sides}
use Rattle.spec.specs.Strategies.{is_clahe}

-- the lengths that document 01 names: of the output, and of Clahe's work
pub record Ready (strategy : AutoscaleStrategy) (sides : Sides) (out work : ℕ) : Type 0 where
  pub out_length : out ≡ sides.rows * sides.cols
  pub work_length : is_clahe strategy ≡ true → work ≡ 16384

-- and a picture: of two outputs, of Clahe's work, and of three colour bytes a pixel
pub record PictureReady (strategy : AutoscaleStrategy) (sides : Sides) (lent : Lent) : Type 0 where
  pub first : Ready strategy sides lent.grey1 lent.work
  pub second : Ready strategy sides lent.grey2 lent.work
  pub rgb_length : lent.rgb ≡ 3 * (sides.rows * sides.cols)
