-- Counts by storing, a byte at a time, and the first level that reaches a target, a level at a time. Assumes nothing.
use mathlib.Core.Path.{◌≡◌}
use mathlib.Core.List.{List, [], ◌∷◌, ◌++◌}
use Prim.Native.Nat.{ℕ, suc, ◌+◌, ◌≤◌, ◌<◌}
use native.Mathlib.Omega.{arith}
use native.Mathlib.Numerals.{add-one}
use borrow.Author.Tests.{le-leb, lt-leb}
use lib.ListN.{length, drop, get_or, drop_of_length-le}
use lib.Seq.{drop-cons}
use Rattle.lists.proofs.Counts.{Below}
use Rattle.spec.specs.Lists.{added, stored}
use Rattle.spec.specs.Colour.{first_level, floor_level}

-- ---- storing

-- one turn: the next byte is added
pub stored_step : (h xs : List ℕ) (i : ℕ) → i < length xs → stored h (drop i xs) ≡ stored (added (get_or xs i 0) h) (drop (i + 1) xs)
unfolding stored
stored_step h xs i l = rw (add-one i, drop-cons xs i 0)

pub stored_end : (h xs : List ℕ) (i : ℕ) → length xs ≤ i → stored h (drop i xs) ≡ h
unfolding stored
stored_end h xs i l = rw (drop_of_length-le xs l)

-- ---- the first level

-- one turn: the level reaches the target, or the next is tried
pub level_found : (target before level : ℕ) (hs : List ℕ) → level < length hs → target ≤ before + get_or hs level 0 →
    first_level target before level (drop level hs) ≡ level
unfolding first_level
level_found target before level hs l hit = rw (drop-cons hs level 0, le-leb target (before + get_or hs level 0) hit)

pub level_next : (target before level : ℕ) (hs : List ℕ) → level < length hs → before + get_or hs level 0 < target →
    first_level target before level (drop level hs) ≡ first_level target (before + get_or hs level 0) (level + 1) (drop (level + 1) hs)
unfolding first_level
level_next target before level hs l miss = rw (add-one level, drop-cons hs level 0, lt-leb target (before + get_or hs level 0) miss)

pub level_end : (target before level : ℕ) (hs : List ℕ) → length hs ≤ level → first_level target before level (drop level hs) ≡ 0
unfolding first_level
level_end target before level hs l = rw (drop_of_length-le hs l)

-- ---- bytes

pub below_all : (n : ℕ) (xs : List ℕ) → ((k : ℕ) → k < length xs → get_or xs k 0 < n) → Below n xs
below_all n [] h = tt
below_all n (x ∷ xs) h = (h 0 (omega arith), below_all n xs (λ k l. h (suc k) (omega arith)))

pub below-append : (n : ℕ) (xs ys : List ℕ) → Below n xs → Below n ys → Below n (xs ++ ys)
below-append n [] ys a b = b
below-append n (x ∷ xs) ys a b = (a.0, below-append n xs ys a.1 b)

-- the floor of any two bands has its tables
pub floor_range : (band1 band2 : List ℕ) → (3 ≤ floor_level band1 band2) × (floor_level band1 band2 ≤ 40)
unfolding floor_level
floor_range band1 band2 = (omega arith, omega arith)
