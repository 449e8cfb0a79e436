-- Lists under a reordering: tests, valid values, ends, counts, and what is done place by place. Assumes nothing.
use mathlib.Core.Path.{◌≡◌, refl, sym, ap, ◌∙◌}
use mathlib.Core.Bool.{Bool, true, false, ◌||◌}
use mathlib.Core.List.Permᴰ
use mathlib.Core.List.{List, [], ◌∷◌, map, zip_with, Permᴰ}
use Prim.Native.Nat.{ℕ, zero, suc, ◌+◌, min, max}
use native.Mathlib.Nat.{suc_inj, zero-add}
use native.Mathlib.Omega.{arith}
use lib.ListN.{length, get_or}
use Rattle.spec.specs.Lists.{places_from, places, any, lowest, highest}
use Rattle.spec.specs.Pixels.{Pixel, off, on, valid_of}
use Rattle.spec.specs.Colour.{floor_level}
use Rattle.spec.specs.Places.{Order, moved}
use Rattle.lists.proofs.Counts.{counts_perm}

-- ---- folds over a reordered list

pub perm_length : {A : Type 0} {xs ys : List A} → Permᴰ xs ys → length xs ≡ length ys
perm_length Permᴰ.nil = refl
perm_length (Permᴰ.cons e p) = ap suc (perm_length p)
perm_length (Permᴰ.swap e f) = refl
perm_length (Permᴰ.trans p q) = perm_length p ∙ perm_length q

pub perm_map : {A B : Type 0} (g : A → B) {xs ys : List A} → Permᴰ xs ys → Permᴰ (map g xs) (map g ys)
perm_map g Permᴰ.nil = Permᴰ.nil
perm_map g (Permᴰ.cons e p) = Permᴰ.cons (ap g e) (perm_map g p)
perm_map g (Permᴰ.swap e f) = Permᴰ.swap (ap g e) (ap g f)
perm_map g (Permᴰ.trans p q) = Permᴰ.trans (perm_map g p) (perm_map g q)

or_swap : (a b c : Bool) → a || (b || c) ≡ b || (a || c)
or_swap true true c = refl
or_swap true false c = refl
or_swap false true c = refl
or_swap false false c = refl

pub any_perm : {A : Type 0} (t : A → Bool) {xs ys : List A} → Permᴰ xs ys → any t xs ≡ any t ys
unfolding any
any_perm t Permᴰ.nil = refl
any_perm t (Permᴰ.cons {a = x} {l₂ = ys} e p) = ap (λ (r : Bool). t x || r) (any_perm t p) ∙ ap (λ (y : _). t y || any t ys) e
any_perm t (Permᴰ.swap {a = x} {b = y} {a' = z} {l = l} e f) =
    or_swap (t x) (t y) (any t l) ∙ ap (λ (w : _). t w || (t x || any t l)) f ∙ ap (λ (w : _). t z || (t w || any t l)) e
any_perm t (Permᴰ.trans p q) = any_perm t p ∙ any_perm t q

-- the valid values of reordered pixels are reordered
valid_cons : (p : Pixel) (xs ys : List Pixel) → Permᴰ (valid_of xs) (valid_of ys) → Permᴰ (valid_of (p ∷ xs)) (valid_of (p ∷ ys))
unfolding valid_of
valid_cons off xs ys h = h
valid_cons (on v) xs ys h = Permᴰ.cons refl h

valid_swap : (p q : Pixel) (l : List Pixel) → Permᴰ (valid_of (p ∷ q ∷ l)) (valid_of (q ∷ p ∷ l))
unfolding valid_of
valid_swap off off l = Permᴰ.refl _
valid_swap off (on w) l = Permᴰ.refl _
valid_swap (on v) off l = Permᴰ.refl _
valid_swap (on v) (on w) l = Permᴰ.swap refl refl

pub valid_perm : {xs ys : List Pixel} → Permᴰ xs ys → Permᴰ (valid_of xs) (valid_of ys)
valid_perm Permᴰ.nil = Permᴰ.refl _
valid_perm (Permᴰ.cons {a = p} {l₁ = xs} {l₂ = ys} e h) = rw (← e) (valid_cons p xs ys (valid_perm h))
valid_perm (Permᴰ.swap {a = p} {b = q} {l = l} e f) = rw (← e, ← f) (valid_swap p q l)
valid_perm (Permᴰ.trans p q) = Permᴰ.trans (valid_perm p) (valid_perm q)

-- the least and the greatest
pub lowest_perm : (m : ℕ) {xs ys : List ℕ} → Permᴰ xs ys → lowest m xs ≡ lowest m ys
unfolding lowest
lowest_perm m Permᴰ.nil = refl
lowest_perm m (Permᴰ.cons {a = x} {l₂ = ys} e p) = lowest_perm (min m x) p ∙ ap (λ (y : ℕ). lowest (min m y) ys) e
lowest_perm m (Permᴰ.swap {a = x} {b = y} {a' = z} {l = l} e f) =
    ap (λ (k : ℕ). lowest k l) (omega arith) ∙ ap (λ (w : ℕ). lowest (min (min m w) x) l) f ∙ ap (λ (w : ℕ). lowest (min (min m z) w) l) e
lowest_perm m (Permᴰ.trans p q) = lowest_perm m p ∙ lowest_perm m q

pub highest_perm : (m : ℕ) {xs ys : List ℕ} → Permᴰ xs ys → highest m xs ≡ highest m ys
unfolding highest
highest_perm m Permᴰ.nil = refl
highest_perm m (Permᴰ.cons {a = x} {l₂ = ys} e p) = highest_perm (max m x) p ∙ ap (λ (y : ℕ). highest (max m y) ys) e
highest_perm m (Permᴰ.swap {a = x} {b = y} {a' = z} {l = l} e f) =
    ap (λ (k : ℕ). highest k l) (omega arith) ∙ ap (λ (w : ℕ). highest (max (max m w) x) l) f ∙ ap (λ (w : ℕ). highest (max (max m z) w) l) e
highest_perm m (Permᴰ.trans p q) = highest_perm m p ∙ highest_perm m q

-- the suppressed floor
pub floor_perm : {a a' b b' : List ℕ} → Permᴰ a a' → Permᴰ b b' → floor_level a b ≡ floor_level a' b'
unfolding floor_level
floor_perm {a} {a'} {b} {b'} p q = cc (perm_length p, perm_length q, counts_perm 256 (Permᴰ.trans (Permᴰ.append_right b p) (Permᴰ.append_left a' q)))

-- ---- place by place

module _ {A : Type 0} (d : A) where
  all_from : (i : ℕ) (ys xs : List A) → ((k : ℕ) → get_or ys (i + k) d ≡ get_or xs k d) → map (λ j. get_or ys j d) (places_from i (length xs)) ≡ xs
  unfolding places_from
  all_from i ys [] h = refl
  all_from i ys (x ∷ xs) h =
      ap (λ (y : A). y ∷ map (λ j. get_or ys j d) (places_from (suc i) (length xs))) (ap (λ (n : ℕ). get_or ys n d) (omega arith) ∙ h 0)
      ∙ ap (λ (zs : List A). x ∷ zs) (all_from (suc i) ys xs (λ k. ap (λ (n : ℕ). get_or ys n d) (omega arith) ∙ h (suc k)))

  -- every place in turn gives the list
  pub moved_all : (xs : List A) → moved d (places (length xs)) xs ≡ xs
  moved_all xs = all_from 0 xs xs (λ k. ap (λ (n : ℕ). get_or xs n d) (zero-add k))

  -- an order reorders
  pub moved_perm : (ps : List ℕ) (xs : List A) → Order ps (length xs) → Permᴰ (moved d ps xs) xs
  moved_perm ps xs o = rw (moved_all xs) at (perm_map (λ i. get_or xs i d) o)

-- a place beyond both lists gives both defaults
zip-at : {A B C : Type 0} (f : A → B → C) (a : A) (b : B) (xs : List A) (ys : List B) → length xs ≡ length ys → (i : ℕ) →
    get_or (zip_with f xs ys) i (f a b) ≡ f (get_or xs i a) (get_or ys i b)
unfolding zip_with
zip-at f a b [] [] e i = refl
zip-at f a b [] (y ∷ ys) e i = absurd (omega (arith, e))
zip-at f a b (x ∷ xs) [] e i = absurd (omega (arith, e))
zip-at f a b (x ∷ xs) (y ∷ ys) e zero = refl
zip-at f a b (x ∷ xs) (y ∷ ys) e (suc i) = zip-at f a b xs ys (suc_inj e) i

-- what is done with two lists place by place moves with them
pub zip-moved : {A B C : Type 0} (f : A → B → C) (a : A) (b : B) (ps : List ℕ) (xs : List A) (ys : List B) → length xs ≡ length ys →
    zip_with f (moved a ps xs) (moved b ps ys) ≡ moved (f a b) ps (zip_with f xs ys)
unfolding zip_with
zip-moved f a b [] xs ys e = refl
zip-moved {C = C} f a b (i ∷ ps) xs ys e =
    ap (λ (c : C). c ∷ zip_with f (moved a ps xs) (moved b ps ys)) (sym (zip-at f a b xs ys e i))
    ∙ ap (λ (cs : List C). get_or (zip_with f xs ys) i (f a b) ∷ cs) (zip-moved f a b ps xs ys e)

map_at : {A B : Type 0} (f : A → B) (d : A) (xs : List A) (i : ℕ) → get_or (map f xs) i (f d) ≡ f (get_or xs i d)
map_at f d [] i = refl
map_at f d (x ∷ xs) zero = refl
map_at f d (x ∷ xs) (suc i) = map_at f d xs i

pub map-moved : {A B : Type 0} (f : A → B) (d : A) (ps : List ℕ) (xs : List A) → map f (moved d ps xs) ≡ moved (f d) ps (map f xs)
map-moved f d [] xs = refl
map-moved {B = B} f d (i ∷ ps) xs =
    ap (λ (y : B). y ∷ map f (moved d ps xs)) (sym (map_at f d xs i)) ∙ ap (λ (ys : List B). get_or (map f xs) i (f d) ∷ ys) (map-moved f d ps xs)

-- two functions that agree give the same list
pub map_same : {A B : Type 0} (f g : A → B) → ((x : A) → f x ≡ g x) → (xs : List A) → map f xs ≡ map g xs
map_same f g h [] = refl
map_same {B = B} f g h (x ∷ xs) = ap (λ (y : B). y ∷ map f xs) (h x) ∙ ap (λ (ys : List B). g x ∷ ys) (map_same f g h xs)
