-- The target of a fraction, one turn of the walk over the bins, and the percentile of what it finds. Assumes nothing.
use mathlib.Core.Path.{◌≡◌, refl, sym, ap, ◌∙◌}
use mathlib.Core.Bool.{Bool, true, false, cond}
use mathlib.Core.List.{List, [], ◌∷◌}
use Prim.Native.Nat.{ℕ, suc, ◌+◌, ◌-◌, ◌≤◌, ◌<◌}
use native.Mathlib.Nat.{min-le_right}
use native.Mathlib.Numerals.{add-one}
use native.Mathlib.Omega.{arith}
use borrow.Author.Tests.{lt-ltb, le-ltb}
use lib.Dec.{ltb}
use lib.ListN.{length, get_or, drop, length-drop}
use lib.Seq.{drop-cons, drop-length}
use lib.Ieee.{Float}
use Rattle.types.specs.declared.BinRank.{BinRank}
use Rattle.types.specs.declared.Moments.{Moments}
use Rattle.types.specs.declared.Percentile.{Percentile}
use Rattle.spec.specs.Moments.{is_flat}
use Rattle.spec.specs.Percentile.{target_of, find_bin, flat_percentile, spread_percentile, estimate_percentile}

-- ---- the target

pub target_of-most : (p : Float) (count : ℕ) → target_of p count ≤ count - 1
unfolding target_of
target_of-most p count = min-le_right _ (count - 1)

-- of any fraction
pub target-most : (t count : ℕ) (p : Float) → t ≡ target_of p count → t ≤ count - 1
target-most t count p e = rw e (target_of-most p count)

-- ---- the walk

abbrev pub here : ℕ → ℕ → ℕ → ℕ → BinRank
here t before i h = record { bin = i; size = h; rank = t - before }

module _ (t before : ℕ) where
  find_bin-one : (i h : ℕ) (hs : List ℕ) → t < before + h → find_bin t before i (h ∷ hs) ≡ here t before i h
  unfolding find_bin
  find_bin-one i h [] l = refl
  find_bin-one i h (h' ∷ hs) l = ap (λ (b : Bool). cond b (here t before i h) (find_bin t (before + h) (suc i) (h' ∷ hs))) (lt-ltb t (before + h) l)

  find_bin_only : (i h : ℕ) (hs : List ℕ) → hs ≡ [] → find_bin t before i (h ∷ hs) ≡ here t before i h
  unfolding find_bin
  find_bin_only i h hs e = rw e

  find_bin-on : (i h : ℕ) (hs : List ℕ) → 0 < length hs → before + h ≤ t → find_bin t before i (h ∷ hs) ≡ find_bin t (before + h) (suc i) hs
  unfolding find_bin
  find_bin-on i h [] l g = absurd (omega arith)
  find_bin-on i h (h' ∷ hs) l g = ap (λ (b : Bool). cond b (here t before i h) (find_bin t (before + h) (suc i) (h' ∷ hs))) (le-ltb t (before + h) g)

  module _ (hist : List ℕ) (i : ℕ) (l : i < length hist) where
    -- its running count exceeds the target
    pub find_bin-here : t < before + get_or hist i 0 → find_bin t before i (drop i hist) ≡ here t before i (get_or hist i 0)
    find_bin-here g = ap (find_bin t before i) (drop-cons hist i 0 l) ∙ find_bin-one i (get_or hist i 0) (drop (suc i) hist) g

    -- the last bin
    pub find_bin-last : length hist ≡ i + 1 → find_bin t before i (drop i hist) ≡ here t before i (get_or hist i 0)
    find_bin-last e =
        ap (find_bin t before i) (drop-cons hist i 0 l)
        ∙ find_bin_only i (get_or hist i 0) (drop (suc i) hist) (ap (λ (n : ℕ). drop n hist) (sym (e ∙ add-one i)) ∙ drop-length hist)

    -- the walk goes on
    pub find_bin_next : i + 1 < length hist → before + get_or hist i 0 ≤ t → find_bin t before i (drop i hist) ≡ find_bin t (before + get_or hist i 0) (i + 1) (drop (i + 1) hist)
    find_bin_next k g =
        rw add-one (ap (find_bin t before i) (drop-cons hist i 0 l) ∙ find_bin-on i (get_or hist i 0) (drop (suc i) hist) (omega (arith, length-drop (suc i) hist)) g)

-- ---- where the walk ends

pub find_bin_bin_most : (t before b : ℕ) (hs : List ℕ) → 0 < length hs → (find_bin t before b hs).bin < b + length hs
unfolding find_bin
find_bin_bin_most t before b [] l = absurd (omega arith)
find_bin_bin_most t before b (h ∷ []) l = omega arith
find_bin_bin_most t before b (h ∷ h' ∷ hs) l = go (ltb t (before + h)) (find_bin t (before + h) (suc b) (h' ∷ hs)) (find_bin_bin_most t (before + h) (suc b) (h' ∷ hs) (omega arith))
  where
    go : (u : Bool) (r : BinRank) → r.bin < suc b + length (h' ∷ hs) → (cond u (here t before b h) r).bin < b + length (h ∷ h' ∷ hs)
    go true r g = omega arith
    go false r g = omega arith

pub find_bin_rank_most : (t before b : ℕ) (hs : List ℕ) → (find_bin t before b hs).rank ≤ t
unfolding find_bin
find_bin_rank_most t before b [] = omega arith
find_bin_rank_most t before b (h ∷ []) = omega arith
find_bin_rank_most t before b (h ∷ h' ∷ hs) = go (ltb t (before + h)) (find_bin t (before + h) (suc b) (h' ∷ hs)) (find_bin_rank_most t (before + h) (suc b) (h' ∷ hs))
  where
    go : (u : Bool) (r : BinRank) → r.rank ≤ t → (cond u (here t before b h) r).rank ≤ t
    go true r g = omega arith
    go false r g = g

-- what is found for any target
module _ (found : BinRank) (t : ℕ) (hist : List ℕ) (e : found ≡ find_bin t 0 0 hist) where
  pub found_bin : 0 < length hist → found.bin < length hist
  found_bin l = omega (arith, ap (λ (r : BinRank). r.bin) e, find_bin_bin_most t 0 0 hist l)

  pub found_rank : found.rank ≤ t
  found_rank = omega (arith, ap (λ (r : BinRank). r.rank) e, find_bin_rank_most t 0 0 hist)

-- ---- the percentile, flat or not

module _ (m : Moments) (hist : List ℕ) (p : Float) where
  pub percentile_flat : is_flat m ≡ true → flat_percentile m p ≡ estimate_percentile m hist p
  unfolding estimate_percentile
  percentile_flat e = rw e

  pub percentile_spread : is_flat m ≡ false → (t : ℕ) (found : BinRank) (r : Percentile) → t ≡ target_of p m.count → found ≡ find_bin t 0 0 hist → r ≡ spread_percentile m found →
      r ≡ estimate_percentile m hist p
  unfolding estimate_percentile
  percentile_spread e t found r a b c = c ∙ ap (spread_percentile m) (b ∙ ap (λ (n : ℕ). find_bin n 0 0 hist) a) ∙ rw e
