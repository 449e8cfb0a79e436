-- "For fraction p": a bin, a rank in it, and a value. Definitions only.
use Rattle.std.specs.Prelude.{ℕ, suc, ◌+◌, ◌-◌, min, cond, List, [], ◌∷◌, ltb, Float}
use Rattle.std.specs.Float.{binary64}
use Rattle.std.specs.Float.Ieee.{add, mul, div, lt, to_unsigned}
use Rattle.types.specs.declared.BinRank.{BinRank}
use Rattle.types.specs.declared.Moments.{Moments}
use Rattle.types.specs.declared.Percentile.{Percentile}
use Rattle.spec.specs.Floats.{half64, of_count}
use Rattle.spec.specs.Moments.{span_of, is_flat}
use Rattle.spec.specs.Bins.{bins64}

-- "target = floor(p × count), at most count - 1"
unfoldable pub target_of : Float → ℕ → ℕ
target_of p count = min (to_unsigned 64 (mul binary64 p (of_count count))) (count - 1)

-- a bin, "h its count and w the target less the count before it".
-- "take the first bin whose running count exceeds the target": the bins from b on, the count before them. The last is taken if none does.
unfoldable pub find_bin : ℕ → ℕ → ℕ → List ℕ → BinRank
find_bin t before b [] = record { bin = b; size = 0; rank = t - before }
find_bin t before b (h ∷ []) = record { bin = b; size = h; rank = t - before }
find_bin t before b (h ∷ h' ∷ hs) =
    let here : BinRank = record { bin = b; size = h; rank = t - before } in
    let later : BinRank = find_bin t (before + h) (suc b) (h' ∷ hs) in
    cond (ltb t (before + h)) here later

-- "the value is (min + bin × width) + (w/h) × width"
unfoldable pub value_at : Float → Float → BinRank → Float
value_at least width r =
    add binary64 (add binary64 least (mul binary64 (of_count r.bin) width)) (mul binary64 (div binary64 (of_count r.rank) (of_count r.size)) width)

-- "median, p01 to p25 are min; p75 to p99 are max". Document 02, F-6: "0 and 0 for flat scenes and blank bands"
unfoldable pub flat_percentile : Moments → Float → Percentile
flat_percentile s p = record { value = cond (lt half64 p) s.max_db s.min_db; bin = 0; rank = 0 }

-- "width = span/4096". F-6: "The percentile answer gains its bin and its rank within the bin (document 01's w)"
unfoldable pub spread_percentile : Moments → BinRank → Percentile
spread_percentile s r = record { value = value_at s.min_db (div binary64 (span_of s) bins64) r; bin = r.bin; rank = r.rank }

-- of values with these moments and these counts of the bins: "If max - min < 2^-52: .. Else .."
unfoldable pub estimate_percentile : Moments → List ℕ → Float → Percentile
estimate_percentile s hist p = cond (is_flat s) (flat_percentile s p) (spread_percentile s (find_bin (target_of p s.count) 0 0 hist))
