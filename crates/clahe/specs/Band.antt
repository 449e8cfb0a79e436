-- The pixels of a band as Clahe takes them, and their levels. Definitions only.
use Rattle.std.specs.Prelude.{ℕ, ◌+◌, ◌*◌, ◌/◌, ◌%◌, eqb, cond, List, map, length, get_or}
use Rattle.types.specs.declared.WindowFloats.{WindowFloats}
use Rattle.raster.specs.declared.band.Band.{Band}
use Rattle.raster.specs.Bands.{pixels_of}
use Rattle.spec.specs.Lists.{places}
use Rattle.spec.specs.Pixels.{Pixel, off, on, valid_of}
use Rattle.spec.specs.Grey.{normal_pixel}
use Rattle.spec.specs.Clahe.{tile_side, level_of}

-- a pixel normalised by a window, and the pixels of a band
abbrev pub normal_in : WindowFloats → Pixel → Pixel
normal_in w = normal_pixel w.low w.high w.range

abbrev pub normal_pixels : WindowFloats → Band → List Pixel
normal_pixels w band = map (normal_in w) (pixels_of band)

-- the levels of the valid pixels, in order
abbrev pub levels : List Pixel → List ℕ
levels px = map level_of (valid_of px)

-- the level of a pixel: of an invalid one 0
unfoldable pub level_at : Pixel → ℕ
level_at off = 0
level_at (on u) = level_of u

-- the tile that place i lies in
unfoldable pub tile_at : ℕ → ℕ → ℕ → ℕ
tile_at rows cols i = i / cols / tile_side rows * 8 + i % cols / tile_side cols

-- a list, an element a pixel, with the levels of the pixels of tile k in place of their elements
unfoldable pub tile_levels : {A : Type 0} → (ℕ → A) → ℕ → ℕ → List Pixel → ℕ → List A → List A
tile_levels of rows cols px k old =
    map (λ i. cond (eqb (tile_at rows cols i) k) (of (level_at (get_or px i off))) (get_or old i (of 0))) (places (length old))
