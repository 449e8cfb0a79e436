-- What each bin gets of the excess. Assumes nothing.
use Rattle.std.proofs.Common.{◌≡◌, ℕ, zero, suc, ◌+◌, ◌/◌, ◌%◌, ◌<◌, ◌≤◌, Bool, cond, ltb, List, [], ◌∷◌, map, length, get_or, sym, refl, ap, ◌∙◌, le_of_suc-le-suc, not-suc-le-zero, add-zero, arith, le-ltb, lt-ltb}
use native.Mathlib.Decide.{dec_lt}
use lib.Ieee.{Float, binary64, sub, mul, div, to_unsigned}
use Rattle.spec.specs.Floats.{of_count, round_as_u64}
use Rattle.spec.specs.Pixels.{Pixel}
use Rattle.clahe.specs.Limits.{all_in, InvalidCounted}
use Rattle.spec.specs.Clahe.{levels64, one_by_one, shared, threshold, clip_at, clip, tile_pixels, tile_counts, tile_table}

pub one_by_one-length : (rest : ℕ) (hs : List ℕ) → length (one_by_one rest hs) ≡ length hs
unfolding one_by_one
one_by_one-length rest [] = refl
one_by_one-length zero (h ∷ hs) = refl
one_by_one-length (suc rest) (h ∷ hs) = ap suc (one_by_one-length rest hs)

suc_ltb : (a b : ℕ) → Dec (a < b) → ltb (suc a) (suc b) ≡ ltb a b
suc_ltb a b (yes h) = lt-ltb (suc a) (suc b) (omega arith) ∙ sym (lt-ltb a b h)
suc_ltb a b (no h) = let g : b ≤ a = omega (arith, h) in le-ltb (suc a) (suc b) (omega arith) ∙ sym (le-ltb a b g)

none_more : (k x : ℕ) → x ≡ x + cond (ltb k 0) 1 0
none_more k x = sym (ap (λ (t : Bool). x + cond t 1 0) (le-ltb k 0 (omega arith)) ∙ add-zero x)

pub one_by_one-at : (rest : ℕ) (hs : List ℕ) (k : ℕ) → k < length hs → get_or (one_by_one rest hs) k 0 ≡ get_or hs k 0 + cond (ltb k rest) 1 0
unfolding one_by_one
one_by_one-at rest [] k h = absurd (not-suc-le-zero h)
one_by_one-at zero (x ∷ hs) k h = none_more k (get_or (x ∷ hs) k 0)
one_by_one-at (suc rest) (x ∷ hs) zero h = sym (ap (λ (t : Bool). x + cond t 1 0) (lt-ltb 0 (suc rest) (omega arith)))
one_by_one-at (suc rest) (x ∷ hs) (suc k) h = one_by_one-at rest hs k (le_of_suc-le-suc h) ∙ ap (λ (t : Bool). get_or hs k 0 + cond t 1 0) (sym (suc_ltb k rest (dec_lt k rest)))

pub shared-from : (over : Float) (hs : List ℕ) (each rest : ℕ) → each ≡ to_unsigned 64 (div binary64 over levels64)
    → rest ≡ round_as_u64 (sub binary64 over (mul binary64 (of_count each) levels64)) → one_by_one rest (map (λ h. h + each) hs) ≡ shared over hs
unfolding shared
shared-from over hs each rest p q =
    ap (λ (n : ℕ). one_by_one n (map (λ h. h + each) hs)) q
    ∙ ap (λ (e : ℕ). one_by_one (round_as_u64 (sub binary64 over (mul binary64 (of_count e) levels64))) (map (λ h. h + e) hs)) p

-- ---- the counts of tile k after clipping

pub invalid_counted : InvalidCounted
unfolding InvalidCounted tile_table clip
invalid_counted rows cols px k = refl

pub table_of : (rows cols : ℕ) (px : List Pixel) (k : ℕ) (limit : Float) (counted hs : List ℕ) → limit ≡ threshold (all_in rows cols k)
    → counted ≡ tile_counts (tile_pixels rows cols px (k / 8) (k % 8)) → hs ≡ clip_at limit counted → hs ≡ tile_table rows cols px k
unfolding InvalidCounted
table_of rows cols px k limit counted hs p q e =
    e ∙ ap (λ (l : Float). clip_at l counted) p ∙ ap (clip_at (threshold (all_in rows cols k))) q ∙ sym (invalid_counted rows cols px k)
