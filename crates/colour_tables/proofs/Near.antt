-- The rule of a table as a test that antt computes, and what a passed test says: of one table, and of a table for each floor from 3 on.
-- Assumes nothing.
use mathlib.Core.Path.{◌≡◌, sym, subst}
use mathlib.Core.Bool.{Bool}
use mathlib.Core.List.{List, []}
use Prim.Native.Nat.{ℕ, ◌+◌, ◌*◌, ◌-◌, ◌^◌}
use native.Mathlib.Omega.{arith}
use lib.Dec.{T, leb, ltb, eqb, leb→le, ltb→lt, eqb→eq}
use lib.ListN.{length, get_or}
use Rattle.lists.proofs.Table.{both, both_left, both_right, every, at}
use Rattle.spec.specs.Colour.{Rounds, level}
use Rattle.colour_tables.specs.Tables.{Table, Tables}
use Rattle.colour_tables.proofs.Levels.{level_is}

-- r is a byte with the rule
abbrev pub near : ℕ → ℕ → ℕ → ℕ → Bool
near p a b r = both (leb r 255) (both (leb ((2 * r - 1) ^ p * a) b) (ltb b ((2 * r + 1) ^ p * a)))

pub near_level : (p a b r : ℕ) → T (near p a b r) → r ≡ level p a b
near_level p a b r t =
    let s = both_right (leb r 255) _ t in
    let h : Rounds p a b r =
    record {
      lower = leb→le _ _ (both_left (leb ((2 * r - 1) ^ p * a) b) _ s);
      upper = ltb→lt _ _ (both_right (leb ((2 * r - 1) ^ p * a) b) _ s);
    } in
    sym (level_is p a b r h (leb→le _ _ (both_left (leb r 255) _ t)))

-- the table has 256 entries, and at each the test of its place and the entry passes
abbrev pub whole : (ℕ → ℕ → Bool) → List ℕ → Bool
whole f t = both (eqb (length t) 256) (every f 0 t)

-- one table: at v it has level p a (b v)
pub table_right : (p a : ℕ) (b : ℕ → ℕ) (t : List ℕ) → T (whole (λ (v : ℕ) (r : ℕ). near p a (b v) r) t) → Table (λ (v : ℕ). level p a (b v)) t
table_right p a b t h =
    let f : ℕ → ℕ → Bool = λ (v : ℕ) (r : ℕ). near p a (b v) r in
    let n : length t ≡ 256 = eqb→eq _ _ (both_left (eqb (length t) 256) (every f 0 t) h) in
    record {
      sized = n;
      right = λ v i. near_level p a (b v) (get_or t v 0) (at 0 f t (both_right (eqb (length t) 256) (every f 0 t) h) v (omega arith));
    }

-- a table for each floor
abbrev pub rows : ℕ → (ℕ → ℕ) → (ℕ → ℕ → ℕ) → List (List ℕ) → Bool
rows p a b ts = both (eqb (length ts) 38) (every (λ (i : ℕ) (t : List ℕ). whole (λ (v : ℕ) (r : ℕ). near p (a (i + 3)) (b (i + 3) v) r) t) 0 ts)

pub tables_right : (p : ℕ) (a : ℕ → ℕ) (b : ℕ → ℕ → ℕ) (ts : List (List ℕ)) → T (rows p a b ts) → Tables (λ (f : ℕ) (v : ℕ). level p (a f) (b f v)) ts
tables_right p a b ts h =
    let g : ℕ → List ℕ → Bool = λ (i : ℕ) (t : List ℕ). whole (λ (v : ℕ) (r : ℕ). near p (a (i + 3)) (b (i + 3) v) r) t in
    let n : length ts ≡ 38 = eqb→eq _ _ (both_left (eqb (length ts) 38) (every g 0 ts) h) in
    record {
      sized = n;
      right = λ f lo hi.
          let e : f - 3 + 3 ≡ f = omega arith in
          table_right p (a f) (b f) (get_or ts (f - 3) [])
          (subst (λ (k : ℕ). T (whole (λ (v : ℕ) (r : ℕ). near p (a k) (b k v) r) (get_or ts (f - 3) []))) e
          (at [] g ts (both_right (eqb (length ts) 38) (every g 0 ts) h) (f - 3) (omega arith)));
    }
