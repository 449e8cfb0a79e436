-- Counts: cell by cell, by one more value, by storing, their bounds and their sum, and under a reordering. Assumes nothing.
use mathlib.Core.Path.{◌≡◌, refl, sym, ap, ◌∙◌}
use mathlib.Core.Bool.{Bool, cond}
use mathlib.Core.List.Permᴰ
use mathlib.Core.List.{List, [], ◌∷◌, ◌++◌, Permᴰ, append-nil}
use Prim.Native.Nat.{ℕ, zero, suc, ◌+◌, ◌≤◌, ◌<◌}
use native.Mathlib.Nat.{zero-add, add_left_comm, le_of_suc-le-suc, not-suc-le-zero}
use native.Mathlib.Omega.{arith}
use native.Mathlib.Decide.{ℕ_discrete}
use borrow.Author.Tests.{eq-eqb, ne_eqb}
use lib.Dec.{eqb}
use lib.ListN.{length, get_or, set, replicate, length-set, length-replicate, get_or-replicate}
use lib.Seq.{ext_get_or, get_or-set_same, get_or-set_other}
use Rattle.lists.proofs.Places.{places-length, places-at}
use Rattle.spec.specs.Lists.{count_of, counts, added, stored, sum_of}

-- ---- cells

pub counts-length : (n : ℕ) (xs : List ℕ) → length (counts n xs) ≡ n
unfolding counts
counts-length n xs = places-length (λ b. count_of b xs) 0 n

pub counts-at : (n : ℕ) (xs : List ℕ) (k : ℕ) → k < n → get_or (counts n xs) k 0 ≡ count_of k xs
unfolding counts
counts-at n xs k h = places-at (λ b. count_of b xs) 0 n k h

-- a list of n numbers whose cells are counts
pub counts-from_cells : (n : ℕ) (h xs : List ℕ) → length h ≡ n → ((k : ℕ) → k < n → get_or h k 0 ≡ count_of k xs) → h ≡ counts n xs
counts-from_cells n h xs e f =
    ext_get_or 0 h (counts n xs) (e ∙ sym (counts-length n xs)) (λ k b. let g : k < n = omega arith in f k g ∙ sym (counts-at n xs k g))

-- ---- one more value

count-here : (b : ℕ) (xs : List ℕ) → count_of b (b ∷ xs) ≡ count_of b xs + 1
unfolding count_of
count-here b xs = ap (λ (t : Bool). cond t 1 0 + count_of b xs) (eq-eqb b b refl) ∙ omega arith

count_other : (k b : ℕ) (xs : List ℕ) → (k ≡ b → ⊥) → count_of k (b ∷ xs) ≡ count_of k xs
unfolding count_of
count_other k b xs d = ap (λ (t : Bool). cond t 1 0 + count_of k xs) (ne_eqb b k (λ e. d (sym e))) ∙ omega arith

cell_added : (b k : ℕ) (h : List ℕ) → b < length h → Dec (k ≡ b) → (c : ℕ → ℕ) → ((j : ℕ) → j < length h → get_or h j 0 ≡ c j) → k < length h → (d : ℕ → ℕ) →
    (d b ≡ c b + 1) → ((k ≡ b → ⊥) → d k ≡ c k) → get_or (added b h) k 0 ≡ d k
cell_added b k h i (yes e) c f j d p q =
    ap (λ (m : ℕ). get_or (added b h) m 0) e ∙ get_or-set_same h b (get_or h b 0 + 1) 0 i ∙ ap (λ (m : ℕ). m + 1) (f b i) ∙ sym p ∙ ap d (sym e)
cell_added b k h i (no e) c f j d p q = get_or-set_other h b k (get_or h b 0 + 1) 0 e ∙ f k j ∙ sym (q e)

-- a value more, in front: the counts with one more in its cell
pub counts_cons : (n b : ℕ) (xs : List ℕ) → b < n → added b (counts n xs) ≡ counts n (b ∷ xs)
counts_cons n b xs h =
    counts-from_cells n (added b (counts n xs)) (b ∷ xs) (length-set (counts n xs) b (get_or (counts n xs) b 0 + 1) ∙ counts-length n xs)
    (λ k g. cell_added b k (counts n xs) (omega (arith, counts-length n xs)) (ℕ_discrete k b) (λ j. count_of j xs)
    (λ j l. counts-at n xs j (omega (arith, counts-length n xs))) (omega (arith, counts-length n xs)) (λ j. count_of j (b ∷ xs)) (count-here b xs) (count_other k b xs))

-- ---- under a reordering

pub count_perm : (b : ℕ) {xs ys : List ℕ} → Permᴰ xs ys → count_of b xs ≡ count_of b ys
unfolding count_of
count_perm b Permᴰ.nil = refl
count_perm b (Permᴰ.cons {a = x} {l₂ = ys} e p) = ap (λ (n : ℕ). cond (eqb x b) 1 0 + n) (count_perm b p) ∙ ap (λ (m : ℕ). cond (eqb m b) 1 0 + count_of b ys) e
count_perm b (Permᴰ.swap {a = x} {b = y} {a' = z} {l = l} e f) =
    add_left_comm (cond (eqb x b) 1 0) (cond (eqb y b) 1 0) (count_of b l)
    ∙ ap (λ (m : ℕ). cond (eqb m b) 1 0 + (cond (eqb x b) 1 0 + count_of b l)) f ∙ ap (λ (m : ℕ). cond (eqb z b) 1 0 + (cond (eqb m b) 1 0 + count_of b l)) e
count_perm b (Permᴰ.trans p q) = count_perm b p ∙ count_perm b q

pub counts_perm : (n : ℕ) {xs ys : List ℕ} → Permᴰ xs ys → counts n xs ≡ counts n ys
counts_perm n {xs} {ys} p = counts-from_cells n (counts n xs) ys (counts-length n xs) (λ k h. counts-at n xs k h ∙ count_perm k p)

-- ---- by storing

abbrev pub Below : ℕ → List ℕ → Type 0
Below n [] = Unit
Below n (x ∷ xs) = (x < n) × Below n xs

pub stored_more : (n : ℕ) (xs ys : List ℕ) → Below n xs → stored (counts n ys) xs ≡ counts n (xs ++ ys)
unfolding stored
stored_more n [] ys b = refl
stored_more n (x ∷ xs) ys b =
    ap (λ (h : List ℕ). stored h xs) (counts_cons n x ys b.0) ∙ stored_more n xs (x ∷ ys) b.1 ∙ counts_perm n (Permᴰ.middle x xs ys)

counts-none : (n : ℕ) → replicate n 0 ≡ counts n []
unfolding count_of
counts-none n = counts-from_cells n (replicate n 0) [] (length-replicate n 0) (λ k h. get_or-replicate n k 0 0 h)

-- counting and storing give the same
pub stored-counts : (n : ℕ) (xs : List ℕ) → Below n xs → stored (replicate n 0) xs ≡ counts n xs
stored-counts n xs b = ap (λ (h : List ℕ). stored h xs) (counts-none n) ∙ stored_more n xs [] b ∙ ap (counts n) (append-nil xs)

pub stored-append : (h xs ys : List ℕ) → stored (stored h xs) ys ≡ stored h (xs ++ ys)
unfolding stored
stored-append h [] ys = refl
stored-append h (x ∷ xs) ys = stored-append (added x h) xs ys

-- ---- no count is more than what was there and what was added

set-most : (h : List ℕ) (b x : ℕ) (most : ℕ → ℕ) → x ≤ most b → ((j : ℕ) → get_or h j 0 ≤ most j) → (k : ℕ) → get_or (set h b x) k 0 ≤ most k
set-most [] b x most l all k = all k
set-most (y ∷ h) zero x most l all zero = l
set-most (y ∷ h) zero x most l all (suc k) = all (suc k)
set-most (y ∷ h) (suc b) x most l all zero = all zero
set-most (y ∷ h) (suc b) x most l all (suc k) = set-most h b x (λ j. most (suc j)) l (λ j. all (suc j)) k

pub added-most : (h : List ℕ) (b : ℕ) (most : ℕ → ℕ) → ((j : ℕ) → get_or h j 0 ≤ most j) → (k : ℕ) → get_or (added b h) k 0 ≤ most k + 1
added-most h b most all k = set-most h b (get_or h b 0 + 1) (λ j. most j + 1) (omega (arith, all b)) (λ j. omega (arith, all j)) k

pub stored-most : (h xs : List ℕ) (m : ℕ) → ((j : ℕ) → get_or h j 0 ≤ m) → (k : ℕ) → get_or (stored h xs) k 0 ≤ m + length xs
unfolding stored
stored-most h [] m all k = omega (arith, all k)
stored-most h (x ∷ xs) m all k = omega (arith, stored-most (added x h) xs (m + 1) (added-most h x (λ j. m) all) k)

pub zeros-at : (n k : ℕ) → ◌≡◌ {A = ℕ} (get_or (replicate n 0) k 0) 0
zeros-at zero k = refl
zeros-at (suc n) zero = refl
zeros-at (suc n) (suc k) = zeros-at n k

-- ---- the sum

sum_added : (h : List ℕ) (b : ℕ) → b < length h → sum_of (added b h) ≡ sum_of h + 1
unfolding sum_of
sum_added [] b i = absurd (not-suc-le-zero i)
sum_added (x ∷ h) zero i = omega arith
sum_added (x ∷ h) (suc b) i = ap (λ (m : ℕ). x + m) (sum_added h b (le_of_suc-le-suc i)) ∙ omega arith

sum_zeros : (n : ℕ) → sum_of (replicate n 0) ≡ 0
unfolding sum_of
sum_zeros zero = refl
sum_zeros (suc n) = zero-add (sum_of (replicate n 0)) ∙ sum_zeros n

-- "The bins sum to the valid count."
pub counts-sum : (n : ℕ) (xs : List ℕ) → Below n xs → sum_of (counts n xs) ≡ length xs
counts-sum n [] b = ap sum_of (sym (counts-none n)) ∙ sum_zeros n
counts-sum n (x ∷ xs) b =
    ap sum_of (sym (counts_cons n x xs b.0)) ∙ sum_added (counts n xs) x (omega (arith, counts-length n xs, b.0))
    ∙ ap (λ (m : ℕ). m + 1) (counts-sum n xs b.1) ∙ omega arith
