-- The pixels of a band, and what a raster is made of. Definitions only.
use Rattle.std.specs.Prelude.{◌≡◌, ℕ, List, Float}
use Rattle.types.specs.declared.Sides.{Sides}
use Rattle.raster.specs.declared.band.Band.{Band}
use Rattle.raster.specs.declared.band.Raster.{Raster}
use Rattle.spec.specs.Pixels.{Pixel, pixels}

abbrev pub pixels_of : Band → List Pixel
pixels_of band = pixels band.valid_mask.now band.db.now

-- a raster of these sides, marks and dB
abbrev pub Holds : Sides → List ℕ → List Float → Raster → Type 0
Holds sides marks db raster = (raster.band.db.now ≡ db) × (raster.band.valid_mask.now ≡ marks) × (raster.sides ≡ sides)
