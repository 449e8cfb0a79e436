-- The number and the lent values that an answer leaves, once the answer is known. Assumes nothing.
use mathlib.Core.Path.{◌≡◌, refl, ◌∙◌}
use mathlib.Core.List.{List}
use Prim.Native.Nat.{ℕ}
use Rattle.spec.specs.Answer.{Answer, refused, done, number, after}
use Rattle.quicklook.specs.Numbers.{kept}

-- one lent list
module _ {A B : Type 0} (f : A → List B) (a : Answer A) (old : List B) where
  pub refused_list : (k : ℕ) → a ≡ refused k → (k ≡ number a) × (old ≡ after f a old)
  unfolding number after
  refused_list k e = rw e (refl, refl)

  -- the same answer as another call's
  pub same_list : (b : Answer A) (n k : ℕ) (new : List B) → a ≡ b → n ≡ k → k ≡ number b → new ≡ after f b old → (n ≡ number a) × (new ≡ after f a old)
  same_list b n k new e r m v = rw e (r ∙ m, v)

-- two lent lists
module _ {A B C : Type 0} (f : A → List B) (g : A → List C) (a : Answer A) (old1 : List B) (old2 : List C) where
  pub refused_two : (k : ℕ) → a ≡ refused k → (k ≡ number a) × ((old1 ≡ after f a old1) × (old2 ≡ after g a old2))
  unfolding number after
  refused_two k e = rw e (refl, (refl, refl))

  pub done_two : (x : A) (new1 : List B) (new2 : List C) → a ≡ done x → (new1 ≡ f x) × (new2 ≡ g x) → (0 ≡ number a) × ((new1 ≡ after f a old1) × (new2 ≡ after g a old2))
  unfolding number after
  done_two x new1 new2 e d = rw e (refl, d)

-- and what else a call owes
pub beside : {P Q W : Type 0} → P × Q → W → P × (Q × W)
beside p w = (p.0, (p.1, w))

-- three lent lists, and what else a call owes
module _ {A B C D : Type 0} (f : A → List B) (g : A → List C) (h : A → List D) (old1 : List B) (old2 : List C) (old3 : List D) where
  abbrev pub Lists : Answer A → ℕ → List B → List C → List D → Type 0 → Type 0
  Lists a n new1 new2 new3 W = (n ≡ number a) × ((new1 ≡ after f a old1) × ((new2 ≡ after g a old2) × ((new3 ≡ after h a old3) × W)))

  pub refused_lists : (a : Answer A) (k : ℕ) (W : Type 0) → a ≡ refused k → W → Lists a k old1 old2 old3 W
  unfolding number after
  refused_lists a k W e w = rw e (refl, (refl, (refl, (refl, w))))

  pub same_lists :
      (a b : Answer A) (n k : ℕ) (new1 : List B) (new2 : List C) (new3 : List D) (W' W : Type 0)
      → a ≡ b → n ≡ k → Lists b k new1 new2 new3 W' → W → Lists a n new1 new2 new3 W
  same_lists a b n k new1 new2 new3 W' W e r v w = rw e (r ∙ v.0, (v.1.0, (v.1.1.0, (v.1.1.1.0, w))))

-- a lent number and a lent list
module _ {A B C : Type 0} (f : A → B) (g : A → List C) (a : Answer A) (old : B) (olds : List C) where
  pub refused_numbers : (k : ℕ) → a ≡ refused k → (k ≡ number a) × ((old ≡ kept f a old) × (olds ≡ after g a olds))
  unfolding number kept after
  refused_numbers k e = rw e (refl, (refl, refl))

  pub done_numbers : (x : A) (n : B) (ns : List C) → a ≡ done x → n ≡ f x → ns ≡ g x → (0 ≡ number a) × ((n ≡ kept f a old) × (ns ≡ after g a olds))
  unfolding number kept after
  done_numbers x n ns e d ds = rw e (refl, (d, ds))

  -- the same answer as another call's
  pub same_numbers :
      (b : Answer A) (k : ℕ) (n : B) (ns : List C) → a ≡ b → (k ≡ number b) × ((n ≡ kept f b old) × (ns ≡ after g b olds))
      → (k ≡ number a) × ((n ≡ kept f a old) × (ns ≡ after g a olds))
  same_numbers b k n ns e v = rw e v
