-- "Clahe (`clahe_equalize_normalized`, 8 by 8 tiles, 256 bins, limit 2.0)". The pixels here are normalised. Definitions only.
use Rattle.std.specs.Prelude.{ℕ, zero, suc, ◌+◌, ◌-◌, ◌*◌, ◌/◌, ◌%◌, min, cond, length, get_or, take, drop, Float}
use mathlib.Core.List.{List, [], ◌∷◌, map, flat_map, zip_with}
use Rattle.std.specs.Float.{binary64}
use Rattle.std.specs.Float.Ieee.{add, sub, mul, div, lt, of_bits, to_unsigned}
use Rattle.types.specs.declared.TilePosition.{TilePosition}
use Rattle.spec.specs.Floats.{zero64, half64, one64, two64, of_count, max_float, clamp_float, round_as_u64}
use Rattle.spec.specs.Lists.{places, places_from, counts, sum_of}
use Rattle.spec.specs.Pixels.{Pixel, off, on, valid_of}

-- 255.0, 256.0
abbrev pub last64 : Float
last64 = of_bits binary64 0x406f_e000_0000_0000

abbrev pub levels64 : Float
levels64 = of_bits binary64 0x4070_0000_0000_0000

-- "tile side ceil(s/8)"
abbrev pub tile_side : ℕ → ℕ
tile_side s = (s + 7) / 8

-- where tile k of a side begins, and how many rows or columns it has
abbrev pub tile_start : ℕ → ℕ → ℕ
tile_start s k = k * tile_side s

unfoldable pub tile_size : ℕ → ℕ → ℕ
tile_size s k = min ((k + 1) * tile_side s) s - tile_start s k

-- the pixels of the tile in row ty and column tx of tiles, row by row
unfoldable pub tile_pixels : ℕ → ℕ → List Pixel → ℕ → ℕ → List Pixel
tile_pixels rows cols px ty tx =
    flat_map (λ r. take (tile_size cols tx) (drop (r * cols + tile_start cols tx) px)) (places_from (tile_start rows ty) (tile_size rows ty))

-- "bin = round(value × 255)"
unfoldable pub level_of : Float → ℕ
level_of u = min (round_as_u64 (mul binary64 (clamp_float zero64 one64 u) last64)) 255

-- how many valid pixels of a tile stand at each level
unfoldable pub tile_counts : List Pixel → List ℕ
tile_counts tile = counts 256 (map level_of (valid_of tile))

-- "Threshold = max(tile pixels/128, 1), invalid pixels counted": the limit 2.0 times the mean of 256 bins
unfoldable pub threshold : ℕ → Float
threshold area = max_float (mul binary64 two64 (div binary64 (of_count area) levels64)) one64

-- "A bin above it becomes trunc(threshold) .."
unfoldable pub clipped : Float → ℕ → ℕ
clipped limit h = cond (lt limit (of_count h)) (to_unsigned 32 limit) h

-- ".. while its excess keeps the fraction"
unfoldable pub excess : Float → Float → List ℕ → Float
excess limit sum [] = sum
excess limit sum (h ∷ hs) = excess limit (cond (lt limit (of_count h)) (add binary64 sum (sub binary64 (of_count h) limit)) sum) hs

-- "the rounded rest one by one from bin 0"
unfoldable pub one_by_one : ℕ → List ℕ → List ℕ
one_by_one rest [] = []
one_by_one zero (h ∷ hs) = h ∷ hs
one_by_one (suc rest) (h ∷ hs) = (h + 1) ∷ one_by_one rest hs

-- "floor(excess/256) goes to each bin", then the rest
unfoldable pub shared : Float → List ℕ → List ℕ
shared over hs =
    let each = to_unsigned 64 (div binary64 over levels64) in
    one_by_one (round_as_u64 (sub binary64 over (mul binary64 (of_count each) levels64))) (map (λ h. h + each) hs)

-- counts clipped at a threshold
unfoldable pub clip_at : Float → List ℕ → List ℕ
clip_at limit hs = shared (excess limit zero64 hs) (map (clipped limit) hs)

-- the counts of a tile of that area after clipping
unfoldable pub clip : ℕ → List ℕ → List ℕ
clip area hs = clip_at (threshold area) hs

-- the 64 tiles' counts, row by row
unfoldable pub tile_table : ℕ → ℕ → List Pixel → ℕ → List ℕ
tile_table rows cols px k =
    clip (tile_size rows (k / 8) * tile_size cols (k % 8)) (tile_counts (tile_pixels rows cols px (k / 8) (k % 8)))

unfoldable pub tile_tables : ℕ → ℕ → List Pixel → List (List ℕ)
tile_tables rows cols px = map (tile_table rows cols px) (places 64)

-- "Running sums over max(total, 1)", held to 0..1: the one at bin b
unfoldable pub sum_at : List ℕ → ℕ → Float
sum_at hs b = clamp_float zero64 one64 (div binary64 (of_count (sum_of (take (suc b) hs))) (max_float (of_count (sum_of hs)) one64))

-- "(row/side) - 0.5, tile index floored and not below 0, the weight may be negative at the top and left edges"
unfoldable pub tile_position : ℕ → ℕ → TilePosition
tile_position side i =
    let q = sub binary64 (div binary64 (of_count i) (of_count side)) half64 in
    let k = to_unsigned 64 q in
    record { position = q; first = min k 7; second = min (k + 1) 7; weight = sub binary64 q (of_count k) }

-- a between 0 and b at 1
unfoldable pub blend : Float → Float → Float → Float
blend weight a b = add binary64 (mul binary64 a (sub binary64 one64 weight)) (mul binary64 b weight)

-- the sum at bin b, from four tiles
unfoldable pub sample : List (List ℕ) → TilePosition → TilePosition → ℕ → Float
sample tables y x b =
    let at : ℕ → ℕ → Float = λ ty tx. sum_at (get_or tables (ty * 8 + tx) []) b in
    blend y.weight
    (blend x.weight (at y.first x.first) (at y.first x.second))
    (blend x.weight (at y.second x.first) (at y.second x.second))

-- "result held to 0..1, scaled, truncated"; invalid: 0
unfoldable pub equalised : Float → ℕ → ℕ → List (List ℕ) → ℕ → Pixel → ℕ
equalised full rows cols tables i off = 0
equalised full rows cols tables i (on u) =
    to_unsigned 64 (mul binary64 (clamp_float zero64 one64 (sample tables (tile_position (tile_side rows) (i / cols)) (tile_position (tile_side cols) (i % cols)) (level_of u))) full)

unfoldable pub clahe_values : Float → ℕ → ℕ → List Pixel → List ℕ
clahe_values full rows cols px = zip_with (equalised full rows cols (tile_tables rows cols px)) (places (length px)) px
