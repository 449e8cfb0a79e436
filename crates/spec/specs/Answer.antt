-- The table of replies. Definitions only.
use Rattle.std.specs.Prelude.{ℕ, zero, suc, Bool, true, false, List, [], ◌∷◌, Result, Ok, Err}
use Rattle.types.specs.declared.refusal.Refusal.{Refusal}
use Rattle.types.specs.Replies.{refusal_number}

-- a call answers by a refusal's number, or is done and leaves what it owes
pub data Answer (A : Type 0) : Type 0 where
  refused : ℕ → Answer A
  done : A → Answer A

-- "The smallest number that applies to any band is returned": tests in the table's order, the first of them numbered k; 0 if none applies
unfoldable pub first_of : ℕ → List Bool → ℕ
first_of k [] = 0
first_of k (true ∷ ts) = k
first_of k (false ∷ ts) = first_of (suc k) ts

-- "and nothing else with it"
unfoldable pub or_refused : {A : Type 0} → ℕ → Answer A → Answer A
or_refused zero a = a
or_refused (suc k) a = refused (suc k)

unfoldable pub answer : {A : Type 0} → ℕ → A → Answer A
answer k a = or_refused k (done a)

-- the number returned: 0 is done
unfoldable pub number : {A : Type 0} → Answer A → ℕ
number (refused k) = k
number (done a) = 0

-- the number that a call's reply stands for
unfoldable pub reply_number : {A : Type 0} → Result A Refusal → ℕ
reply_number (Ok a) = 0
reply_number (Err refusal) = refusal_number refusal

-- document 01's number and values for each case of a reply
unfoldable pub read : {A : Type 0} → Result A Refusal → Answer A
read (Ok a) = done a
read (Err refusal) = refused (refusal_number refusal)

-- a lent list afterwards: "outputs fully written", or "all lent memory as at entry"
unfoldable pub after : {A B : Type 0} → (A → List B) → Answer A → List B → List B
after f (refused k) old = old
after f (done a) old = f a
