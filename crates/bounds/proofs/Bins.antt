-- The bins sum to the number of values, and the bin that a target falls into. Assumes nothing.
use mathlib.Core.Path.{◌≡◌, refl, sym, ap, ◌∙◌}
use mathlib.Core.Bool.{Bool, true, false, cond}
use mathlib.Core.List.{List, [], ◌∷◌, map}
use Prim.Native.Nat.{ℕ, suc, ◌+◌, ◌≤◌, ◌<◌}
use native.Mathlib.Omega.{arith}
use borrow.Author.Tests.{ltb-true, ltb-false}
use lib.Dec.{ltb}
use lib.ListN.{length, get_or, take, length-map}
use lib.Ieee.{Float, binary64, div}
use Rattle.types.specs.declared.BinRank.{BinRank}
use Rattle.types.specs.declared.Moments.{Moments}
use Rattle.spec.specs.Floats.{one64}
use Rattle.spec.specs.Lists.{counts, sum_of}
use Rattle.spec.specs.Moments.{span_of, is_flat}
use Rattle.spec.specs.Bins.{bin_of, histogram, bins_of}
use Rattle.spec.specs.Percentile.{target_of, find_bin}
use Rattle.lists.proofs.Counts.{Below, counts-sum, counts-length}
use Rattle.histogram.proofs.FindBin.{here, target_of-most}
use Rattle.histogram.proofs.Summaries.{bins-below, zeros-below}

-- ---- "The bins sum to the valid count."

module _ (s : Moments) (vs : List Float) where
  pub bins-sum : sum_of (bins_of s vs) ≡ length vs
  unfolding bins_of histogram
  bins-sum = pick (is_flat s)
    where
      all : (f : Float → ℕ) → Below 4096 (map f vs) → sum_of (counts 4096 (map f vs)) ≡ length vs
      all f b = counts-sum 4096 (map f vs) b ∙ length-map vs f

      pick : (t : Bool) → sum_of (cond t (counts 4096 (map (λ v. 0) vs)) (counts 4096 (map (bin_of s.min_db (div binary64 one64 (span_of s))) vs))) ≡ length vs
      pick true = all (λ v. 0) (zeros-below vs)
      pick false = all (bin_of s.min_db (div binary64 one64 (span_of s))) (bins-below s.min_db (div binary64 one64 (span_of s)) vs)

  pub bins-length : length (bins_of s vs) ≡ 4096
  unfolding bins_of histogram
  bins-length = pick (is_flat s)
    where
      pick : (t : Bool) → length (cond t (counts 4096 (map (λ v. 0) vs)) (counts 4096 (map (bin_of s.min_db (div binary64 one64 (span_of s))) vs))) ≡ 4096
      pick true = counts-length 4096 (map (λ v. 0) vs)
      pick false = counts-length 4096 (map (bin_of s.min_db (div binary64 one64 (span_of s))) vs)

-- ---- "take the first bin whose running count exceeds the target"

-- r is that bin for a target below the bins' sum: the counts before it are at most the target, and with its own they exceed it
pub record First (t : ℕ) (hist : List ℕ) (r : BinRank) : Type 0 where
  pub inside : r.bin < length hist
  pub size_is : r.size ≡ get_or hist r.bin 0
  pub rank_is : sum_of (take r.bin hist) + r.rank ≡ t
  pub rank_below : r.rank < r.size

-- the same from bin b on, with `before` values in the bins before it
record From (t before b : ℕ) (hs : List ℕ) (r : BinRank) : Type 0 where
  place : ℕ
  is : r.bin ≡ b + place
  inside : place < length hs
  size_is : r.size ≡ get_or hs place 0
  rank_is : before + sum_of (take place hs) + r.rank ≡ t
  rank_below : r.rank < r.size

find_bin-from : (t before b : ℕ) (hs : List ℕ) → before ≤ t → t < before + sum_of hs → From t before b hs (find_bin t before b hs)
unfolding find_bin sum_of
find_bin-from t before b [] l g = absurd (omega arith)
find_bin-from t before b (h ∷ []) l g =
    record { place = 0; is = omega arith; inside = omega arith; size_is = refl; rank_is = omega arith; rank_below = omega arith }
find_bin-from t before b (h ∷ h' ∷ hs) l g =
    go (ltb t (before + h)) (ltb-true t (before + h)) (ltb-false t (before + h)) (find_bin t (before + h) (suc b) (h' ∷ hs)) (λ k. find_bin-from t (before + h) (suc b) (h' ∷ hs) k (omega arith))
  where
    go : (u : Bool) → (u ≡ true → t < before + h) → (u ≡ false → before + h ≤ t) → (r : BinRank) → (before + h ≤ t → From t (before + h) (suc b) (h' ∷ hs) r) →
        From t before b (h ∷ h' ∷ hs) (cond u (here t before b h) r)
    go true y n r f = let k = y refl in record { place = 0; is = omega arith; inside = omega arith; size_is = refl; rank_is = omega arith; rank_below = omega arith }
    go false y n r f =
        let k = f (n refl) in
        record { place = suc k.place; is = omega (arith, k.is); inside = omega (arith, k.inside); size_is = k.size_is; rank_is = omega (arith, k.rank_is); rank_below = k.rank_below }

find_bin-first : (t : ℕ) (hist : List ℕ) → t < sum_of hist → First t hist (find_bin t 0 0 hist)
find_bin-first t hist g =
    let f = find_bin-from t 0 0 hist (omega arith) (omega arith) in
    let e : (find_bin t 0 0 hist).bin ≡ f.place = omega (arith, f.is) in
    record {
      inside = omega (arith, e, f.inside);
      size_is = f.size_is ∙ ap (λ (n : ℕ). get_or hist n 0) (sym e);
      rank_is = ap (λ (n : ℕ). sum_of (take n hist) + (find_bin t 0 0 hist).rank) e ∙ omega (arith, f.rank_is);
      rank_below = f.rank_below;
    }

-- for any fraction of the values that the bins hold
pub target_of-first : (p : Float) (s : Moments) (vs : List Float) → 0 < length vs → First (target_of p (length vs)) (bins_of s vs) (find_bin (target_of p (length vs)) 0 0 (bins_of s vs))
target_of-first p s vs h = find_bin-first (target_of p (length vs)) (bins_of s vs) (omega (arith, target_of-most p (length vs), bins-sum s vs))
