-- A loop that stores one element after another in a list. Assumes nothing.
use Rattle.std.proofs.Common.{ℕ, ◌+◌, ◌<◌, List, length, get_or, set, sym, subst, arith, get_or-set_other, get_or-set_same, below_more}

pub kept_or_stored : {B : Type 0} (P : ℕ → B → Type 0) (d : B) (t : List B) (i : ℕ) (x : B) → i < length t → ((k : ℕ) → k < i → P k (get_or t k d)) → P i x
    → (k : ℕ) → k < i + 1 → P k (get_or (set t i x) k d)
kept_or_stored P d t i x h all here =
    below_more (λ (k : ℕ). P k (get_or (set t i x) k d)) i
    (λ k l. subst (P k) (sym (get_or-set_other t i k x d (λ e. omega arith))) (all k l))
    (subst (P i) (sym (get_or-set_same t i x d h)) here)
