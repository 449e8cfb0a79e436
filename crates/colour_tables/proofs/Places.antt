-- The thresholds of blue: one test that antt computes over them all, and what it says of a place in them.
-- Assumes nothing.
use mathlib.Core.Path.{◌≡◌, sym, subst}
use mathlib.Core.Bool.{Bool, true, false, cond}
use mathlib.Core.List.{List}
use mathlib.Core.Logic.{⊎_elim}
use Prim.Native.Nat.{ℕ, zero, suc, ◌+◌, ◌*◌, ◌-◌, ◌/◌, ◌%◌, ◌^◌, ◌≤◌, ◌<◌, max}
use native.Mathlib.Nat.{mul_assoc, mul-le-mul_left, lt_of_le_of_lt, eq-or-lt_of_le, le_trans, not-suc-le-zero, le_of_suc-le-suc}
use native.Mathlib.Omega.{arith}
use borrow.Author.Tests.{ne_eqb}
use lib.Dec.{T, leb, ltb, eqb, leb→le, ltb→lt, eqb→eq}
use lib.ListN.{length}
use Rattle.lists.proofs.Table.{both, both_left, both_right}
use Rattle.spec.specs.Colour.{Rounds}
use Rattle.colour_tables.specs.Tables.{n_at, d_at, Rank, Thresholds}
use Rattle.colour_tables.proofs.Levels.{level_is}
use Rattle.colour_tables.proofs.Farey.{Threshold, reaches, misses}

-- the facts of one threshold as a test
abbrev sound : ℕ → ℕ → ℕ → ℕ → ℕ → ℕ → ℕ → Bool
sound m a c n d p q =
    both (leb (a * d) (n * c)) (both (ltb (p * c) (a * q)) (both (eqb (n * q) (p * d + 1)) (both (ltb m (q + d)) (both (ltb 0 d) (ltb 0 q)))))

says : (m a c n d p q : ℕ) → T (sound m a c n d p q) → Threshold m a c n d p q
says m a c n d p q t =
    let r1 = both_right (leb (a * d) (n * c)) _ t in
    let r2 = both_right (ltb (p * c) (a * q)) _ r1 in
    let r3 = both_right (eqb (n * q) (p * d + 1)) _ r2 in
    let r4 = both_right (ltb m (q + d)) _ r3 in
    record {
      above = leb→le _ _ (both_left (leb (a * d) (n * c)) _ t);
      low = ltb→lt _ _ (both_left (ltb (p * c) (a * q)) _ r1);
      next = eqb→eq _ _ (both_left (eqb (n * q) (p * d + 1)) _ r2);
      far = ltb→lt _ _ (both_left (ltb m (q + d)) _ r3);
      d_pos = ltb→lt _ _ (both_left (ltb 0 d) (ltb 0 q) r4);
      q_pos = ltb→lt _ _ (both_right (ltb 0 d) (ltb 0 q) r4);
    }

-- the first q of `left` numbers from `q` on with n * q one above a multiple of d: the denominator of the left neighbour
abbrev seek : ℕ → ℕ → ℕ → ℕ → ℕ
seek n d zero q = q
seek n d (suc left) q = cond (eqb (n * q % d) 1) q (seek n d left (suc q))

-- the threshold n / d is sound, with the neighbour that is found for it
abbrev found : ℕ → ℕ → ℕ → ℕ → ℕ → Bool
found m a c n d = let q = seek n d d (m - d + 1) in sound m a c n d (n * q / d) q

abbrev unless : Bool → Bool → Bool
unless true b = true
unless false b = b

-- the threshold at place k, from 1 on, is sound for half the tenth root of scale ^ 10 * r / (10 ^ 10 * g)
abbrev test : ℕ → ℕ → List (List ℕ) → ℕ → Bool
test m scale t k = unless (eqb k 0) (found m ((2 * k - 1) ^ 10 * 10 ^ 10) (scale ^ 10) (n_at t k) (d_at t k))

abbrev below : (ℕ → Bool) → ℕ → Bool
below f zero = true
below f (suc n) = both (f n) (below f n)

below_at : (f : ℕ → Bool) (n : ℕ) → T (below f n) → (k : ℕ) → k < n → T (f k)
below_at f zero t k h = absurd (not-suc-le-zero h)
below_at f (suc n) t k h =
    ⊎_elim (λ e. subst (λ (j : ℕ). T (f j)) (sym e) (both_left (f n) (below f n) t)) (λ l. below_at f n (both_right (f n) (below f n) t) k l)
    (eq-or-lt_of_le (le_of_suc-le-suc h))

-- all of them: n thresholds, the last one not passed by the greatest ratio
abbrev pub passes : ℕ → ℕ → ℕ → List (List ℕ) → Bool
passes scale eps n t =
    both (eqb (length t) n) (both (below (test (255 + eps) scale t) n) (ltb (scale ^ 10 * (255 + eps)) ((2 * (n - 1) + 1) ^ 10 * (10 ^ 10 * max eps 1))))

module _ (scale m least n : ℕ) (t : List (List ℕ)) (sized : length t ≡ n) (passed : T (below (test m scale t) n))
    (top : scale ^ 10 * m < (2 * (n - 1) + 1) ^ 10 * (10 ^ 10 * least)) where
  abbrev den : ℕ → ℕ
  den k = seek (n_at t k) (d_at t k) (d_at t k) (m - d_at t k + 1)

  threshold : (k : ℕ) → 0 < k → k < n →
      Threshold m ((2 * k - 1) ^ 10 * 10 ^ 10) (scale ^ 10) (n_at t k) (d_at t k) (n_at t k * den k / d_at t k) (den k)
  threshold k pos h =
      says m _ _ _ _ _ _
      (subst (λ (z : Bool). T (unless z (found m ((2 * k - 1) ^ 10 * 10 ^ 10) (scale ^ 10) (n_at t k) (d_at t k))))
      (ne_eqb k 0 (λ e. omega arith)) (below_at (test m scale t) n passed k h))

  module _ (r g : ℕ) (pos : 0 < g) (lm : least ≤ g) (gm : g ≤ m) (rm : r ≤ m) where
    low : (k : ℕ) → k < n → (0 < k → n_at t k * g ≤ d_at t k * r) → (2 * k - 1) ^ 10 * (10 ^ 10 * g) ≤ scale ^ 10 * r
    low zero h f = omega arith
    low (suc k) h f =
        let x = reaches (threshold (suc k) (omega arith) h) r g (f (omega arith)) in
        rw mul_assoc at x

    above : (k : ℕ) → k + 1 < n → d_at t (k + 1) * r < n_at t (k + 1) * g → scale ^ 10 * r < (2 * k + 1) ^ 10 * (10 ^ 10 * g)
    above k h f =
        let x = misses (threshold (k + 1) (omega arith) h) r g pos gm f in
        let e : 2 * (k + 1) - 1 ≡ 2 * k + 1 = omega arith in
        subst (λ (z : ℕ). scale ^ 10 * r < z ^ 10 * (10 ^ 10 * g)) e (rw mul_assoc at x)

    last : (k : ℕ) → k + 1 ≡ n → scale ^ 10 * r < (2 * k + 1) ^ 10 * (10 ^ 10 * g)
    last k e =
        let e' : n - 1 ≡ k = omega arith in
        let t' : scale ^ 10 * m < (2 * k + 1) ^ 10 * (10 ^ 10 * least) = subst (λ (z : ℕ). scale ^ 10 * m < (2 * z + 1) ^ 10 * (10 ^ 10 * least)) e' top in
        let x : scale ^ 10 * r ≤ scale ^ 10 * m = mul-le-mul_left (scale ^ 10) rm in
        let y : (2 * k + 1) ^ 10 * (10 ^ 10 * least) ≤ (2 * k + 1) ^ 10 * (10 ^ 10 * g) = mul-le-mul_left ((2 * k + 1) ^ 10) (mul-le-mul_left (10 ^ 10) lm) in
        lt_of_le_of_lt x (le_trans t' y)

    rounds : (k : ℕ) → Rank t r g k → Rounds 10 (10 ^ 10 * g) (scale ^ 10 * r) k
    rounds k h =
        let w : k < length t = h.within in
        record {
          lower = low k (omega arith) h.reaches;
          upper = ⊎_elim (λ e. last k e) (λ l. above k l (h.misses (omega arith))) (eq-or-lt_of_le (let w' : k + 1 ≤ n = omega arith in w'));
        }

pub thresholds_right : (scale eps n : ℕ) (t : List (List ℕ)) → 1 ≤ n → n ≤ 256 → T (passes scale eps n t) → Thresholds scale eps t
thresholds_right scale eps n t low high p =
    let sized : length t ≡ n = eqb→eq _ _ (both_left (eqb (length t) n) _ p) in
    let p' = both_right (eqb (length t) n) _ p in
    let passed = both_left (below (test (255 + eps) scale t) n) _ p' in
    let top : scale ^ 10 * (255 + eps) < (2 * (n - 1) + 1) ^ 10 * (10 ^ 10 * max eps 1) = ltb→lt _ _ (both_right (below (test (255 + eps) scale t) n) _ p') in
    record {
      least = omega arith;
      most = omega arith;
      right = λ r g k hr hg pos h.
          let w : k < length t = h.within in
          sym (level_is 10 _ _ k
          (rounds scale (255 + eps) (max eps 1) n t sized passed top (r + eps) (g + eps) pos (omega arith) (omega arith) (omega arith) k h)
          (omega arith));
    }
