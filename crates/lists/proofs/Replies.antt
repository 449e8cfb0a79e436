-- A call that refuses by a number or is done: its reply, its lent list, and what is known where no number applies. Assumes nothing.
use mathlib.Core.Path.{◌≡◌, refl, sym, ap}
use mathlib.Core.Bool.{Bool, true, false, cond, not, ◌||◌, true≢false}
use mathlib.Core.List.{List, [], ◌∷◌}
use Prim.Native.Nat.{ℕ, zero, suc, ◌≤◌, ◌<◌}
use native.Mathlib.Nat.{not-suc-le-zero}
use native.Mathlib.Omega.{arith}
use borrow.Author.Tests.{eqb-true, not-false}
use lib.Dec.{eqb}
use Rattle.std.specs.Prelude.{Result, Ok, Err}
use Rattle.std.specs.Result.{IsErrAnd}
use Rattle.types.specs.declared.refusal.Refusal.{Refusal}
use Rattle.types.specs.declared.refusal.Refusal.TheVariants.{Sides, Lengths, Marks, Decibels, Tiles, Gamma}
use Rattle.types.specs.Replies.{refusal_number}
use Rattle.spec.specs.Answer.{Answer, refused, done, answer, or_refused, first_of, number, after, reply_number}
use Rattle.spec.specs.Refusals.{unlike}

-- a refusal has a number
pub refusal-above : (refusal : Refusal) → 0 < refusal_number refusal
unfolding refusal_number
refusal-above Sides = omega arith
refusal-above Lengths = omega arith
refusal-above Marks = omega arith
refusal-above Decibels = omega arith
refusal-above Tiles = omega arith
refusal-above Gamma = omega arith

pub refusal-not_zero : (refusal : Refusal) → refusal_number refusal ≡ 0 → ⊥
refusal-not_zero refusal e = omega (arith, e, refusal-above refusal)

-- what is known of a reply by its two cases
pub when_ok : {A : Type 0} (a : A) (k : ℕ) → reply_number (Ok a) ≡ k → k ≡ 0
unfolding reply_number
when_ok a k e = sym e

pub when_err : (A : Type 0) (refusal : Refusal) (k : ℕ) → reply_number {A = A} (Err refusal) ≡ k → refusal_number refusal ≡ k
unfolding reply_number
when_err A refusal k e = e

-- a value, or a refusal where b holds
pub err_by : {A : Type 0} (b : Bool) (a : A) (e k : Refusal) → cond b (Err e) (Ok a) ≡ Err k → (b ≡ true) × (e ≡ k)
err_by true a e k q = (refl, cc)
err_by false a e k q = absurd (let z : ◌≡◌ {A = ℕ} 0 1 = cc in omega arith)

pub ok_by : {A : Type 0} (b : Bool) (a w : A) (e : Refusal) → cond b (Err e) (Ok a) ≡ Ok w → (b ≡ false) × (a ≡ w)
ok_by true a w e q = absurd (let z : ◌≡◌ {A = ℕ} 0 1 = cc in omega arith)
ok_by false a w e q = (refl, cc)

-- what a `?` hands on
pub passed_on : {A : Type 0} (r : Result A Refusal) (refusal : Refusal) → IsErrAnd r (λ e. e ≡ refusal) → r ≡ Err refusal
passed_on (Ok a) refusal is = absurd is
passed_on (Err e) refusal is = ap Err is

module _ {A B : Type 0} (f : A → List B) (a : A) (old : List B) where
  -- what a call with the refusal m owes: the reply's number and the list afterwards
  abbrev pub Owed : ℕ → ℕ → List B → Type 0
  Owed m r new = (r ≡ number (answer m a)) × (new ≡ after f (answer m a) old)

  refused_owed : (m : ℕ) → 0 < m → Owed m m old
  unfolding answer or_refused number after
  refused_owed zero h = absurd (not-suc-le-zero h)
  refused_owed (suc m) h = (refl, refl)

  done_owed : (new : List B) → new ≡ f a → Owed 0 0 new
  unfolding answer or_refused number after
  done_owed new e = (refl, e)

  -- refused with the number m, and the list as it was
  pub when_refused : (k m : ℕ) → k ≡ m → 0 < k → Owed m k old
  when_refused k m e h = rw (← e) (refused_owed k h)

  -- done: no number applies, and the list is f of what is owed
  pub when_done : (k m : ℕ) (new : List B) → k ≡ m → k ≤ 0 → new ≡ f a → Owed m 0 new
  when_done k m new e h v = let z : m ≡ 0 = omega arith in rw z (done_owed new v)

-- ---- where the number r is 0, no test holds

pub none_first : (k r : ℕ) (t : Bool) (ts : List Bool) → r ≡ first_of (suc k) (t ∷ ts) → r ≤ 0 → t ≡ false
unfolding first_of
none_first k r true ts e h = absurd (omega arith)
none_first k r false ts e h = refl

pub none_rest : (k r : ℕ) (t : Bool) (ts : List Bool) → r ≡ first_of (suc k) (t ∷ ts) → r ≤ 0 → r ≡ first_of (suc (suc k)) ts
unfolding first_of
none_rest k r true ts e h = absurd (omega arith)
none_rest k r false ts e h = e

pub or_left : (s t : Bool) → s || t ≡ false → s ≡ false
or_left true t e = e
or_left false t e = refl

pub or_right : (s t : Bool) → s || t ≡ false → t ≡ false
or_right true false e = refl
or_right true true e = e
or_right false t e = e

pub not_unlike : (n m : ℕ) → unlike n m ≡ false → n ≡ m
unfolding unlike
not_unlike n m e = eqb-true n m (not-false (eqb n m) e)

-- ---- a call that is done

is_done : {A : Type 0} → Answer A → Bool
is_done (refused k) = false
is_done (done a) = true

given : {A : Type 0} → A → Answer A → A
given a (refused k) = a
given a (done b) = b

pub done_or_refused : {A : Type 0} (k : ℕ) (a : Answer A) (b : A) → or_refused k a ≡ done b → (k ≡ 0) × (a ≡ done b)
unfolding or_refused is_done
done_or_refused zero a b e = (refl, e)
done_or_refused (suc k) a b e = absurd (true≢false (sym (ap is_done e)))

pub done-same : {A : Type 0} (a b : A) → done a ≡ done b → a ≡ b
unfolding given
done-same a b e = ap (given a) e

pub done-answer : {A : Type 0} (k : ℕ) (a b : A) → answer k a ≡ done b → (k ≡ 0) × (a ≡ b)
unfolding answer
done-answer k a b e = let h = done_or_refused k (done a) b e in (h.0, done-same a b h.1)

-- none of the tests holds
abbrev pub Clear : List Bool → Type 0
Clear [] = Unit
Clear (t ∷ ts) = (t ≡ false) × Clear ts

pub none_holds : (k : ℕ) (ts : List Bool) → first_of (suc k) ts ≡ 0 → Clear ts
unfolding first_of
none_holds k [] e = tt
none_holds k (true ∷ ts) e = absurd (omega (arith, e))
none_holds k (false ∷ ts) e = (refl, none_holds (suc k) ts e)

pub all_clear : (k : ℕ) (ts : List Bool) → Clear ts → first_of k ts ≡ 0
unfolding first_of
all_clear k [] h = refl
all_clear k (true ∷ ts) h = absurd (true≢false h.0)
all_clear k (false ∷ ts) h = all_clear (suc k) ts h.1

pub both_false : {a b : Bool} → a ≡ false → b ≡ false → (a || b) ≡ false
both_false e f = rw (e, f) refl
