-- What the scene of a picture is made of. Definitions only.
use Rattle.std.specs.Prelude.{ℕ, List, Float}
use Rattle.types.specs.declared.Sides.{Sides}
use Rattle.raster.specs.Bands.{Holds}
use Rattle.pipeline.specs.declared.scene.Scene.{Scene}

-- a scene of these sides, and of these marks and dB of either band
abbrev pub HoldsBoth : Sides → List ℕ → List Float → List ℕ → List Float → Scene → Type 0
HoldsBoth sides marks1 db1 marks2 db2 scene = Holds sides marks1 db1 scene.first × Holds sides marks2 db2 scene.second
