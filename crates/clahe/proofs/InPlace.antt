-- A loop that puts a function of its place and its old value in place of each element. Assumes nothing.
use Rattle.std.proofs.Common.{◌≡◌, ℕ, ◌+◌, ◌<◌, ◌≤◌, List, length, get_or, set, sym, refl, ap, ◌∙◌, arith, length-set, get_or-set_other, ext_get_or}
use Rattle.clahe.proofs.Cells.{kept_or_stored}

module _ {A : Type 0} (d : A) (g : ℕ → A → A) (old : List A) where
  -- the elements below i are new, the others are the old ones
  pub record Turned (i : ℕ) (xs : List A) : Type 0 where
    pub size : length xs ≡ length old
    pub new : (k : ℕ) → k < i → get_or xs k d ≡ g k (get_or old k d)
    pub same : (k : ℕ) → i ≤ k → get_or xs k d ≡ get_or old k d

  pub turned_none : Turned 0 old
  turned_none = record { size = refl; new = λ k h. absurd (omega arith); same = λ k h. refl }

  pub turned_next : (i : ℕ) (xs : List A) (x : A) → Turned i xs → i < length xs → x ≡ g i (get_or xs i d) → Turned (i + 1) (set xs i x)
  turned_next i xs x t h e =
      record {
        size = length-set xs i x ∙ t.size;
        new = kept_or_stored (λ k y. y ≡ g k (get_or old k d)) d xs i x h t.new (e ∙ ap (g i) (t.same i (omega arith)));
        same = λ k l. get_or-set_other xs i k x d (λ d. omega arith) ∙ t.same k (omega arith);
      }

  pub turned_all : (i : ℕ) (xs ys : List A) → Turned i xs → length old ≤ i → length ys ≡ length old → ((k : ℕ) → k < length old → get_or ys k d ≡ g k (get_or old k d)) → xs ≡ ys
  turned_all i xs ys t h e all =
      ext_get_or d xs ys (t.size ∙ sym e) (λ k l. let s = t.size in t.new k (omega arith) ∙ sym (all k (omega arith)))
