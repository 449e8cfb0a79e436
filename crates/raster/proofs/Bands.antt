-- The pixels of a band, one by one; what accepted lengths and marks say; and which marks make a pixel valid. Assumes nothing.
use mathlib.Core.Path.{◌≡◌, refl, sym, ap, ◌∙◌}
use mathlib.Core.Bool.{Bool, true, false, ◌||◌}
use mathlib.Core.List.{List, [], ◌∷◌, ◌++◌, zip_with}
use Prim.Native.Nat.{ℕ, zero, suc, ◌+◌, ◌*◌, ◌≤◌, ◌<◌}
use native.Mathlib.Nat.{add-zero, suc_inj, le_of_suc-le-suc, not-suc-le-zero}
use native.Mathlib.Numerals.{add-one}
use native.Mathlib.Omega.{arith}
use borrow.Author.Tests.{ltb-false}
use lib.ListN.{length, get_or, drop}
use lib.Ieee.{Float, nan}
use Rattle.spec.specs.Answer.{first_of}
use Rattle.spec.specs.Lists.{any, count_of}
use Rattle.spec.specs.Pixels.{Pixel, off, on, pixel, pixels, valid_of}
use Rattle.lists.proofs.Replies.{none_first, none_rest, or_left, or_right, not_unlike}
use Rattle.lists.proofs.Zip.{zip_length}
use Rattle.spec.specs.Refusals.{unlike, lengths_refused, marks_refused}

-- ---- one pixel

pub pixel-off : (m : ℕ) (v : Float) → m ≡ 0 → pixel m v ≡ off
unfolding pixel
pixel-off zero v e = refl
pixel-off (suc m) v e = absurd (omega (arith, e))

pub pixel-on : (m : ℕ) (v : Float) → (m ≡ 0 → ⊥) → pixel m v ≡ on v
unfolding pixel
pixel-on zero v n = absurd (n refl)
pixel-on (suc m) v n = refl

-- ---- the pixels from place i on

pub drop-pixels : (m : List ℕ) (d : List Float) (i : ℕ) → i < length m → i < length d →
    drop i (pixels m d) ≡ pixel (get_or m i 0) (get_or d i nan) ∷ drop (suc i) (pixels m d)
unfolding pixels zip_with
drop-pixels [] d i h k = absurd (not-suc-le-zero h)
drop-pixels (x ∷ m) [] i h k = absurd (not-suc-le-zero k)
drop-pixels (x ∷ m) (v ∷ d) zero h k = refl
drop-pixels (x ∷ m) (v ∷ d) (suc i) h k = drop-pixels m d i (le_of_suc-le-suc h) (le_of_suc-le-suc k)

pub drop_end : (m : List ℕ) (d : List Float) (i : ℕ) → length d ≤ i → drop i (pixels m d) ≡ []
unfolding pixels zip_with
drop_end [] d zero h = refl
drop_end [] d (suc i) h = refl
drop_end (x ∷ m) [] zero h = refl
drop_end (x ∷ m) [] (suc i) h = refl
drop_end (x ∷ m) (v ∷ d) zero h = absurd (not-suc-le-zero h)
drop_end (x ∷ m) (v ∷ d) (suc i) h = drop_end m d i (le_of_suc-le-suc h)

module _ (m : List ℕ) (d : List Float) (i : ℕ) (h : i < length m) (k : i < length d) where
  pub next_off : get_or m i 0 ≡ 0 → drop i (pixels m d) ≡ off ∷ drop (i + 1) (pixels m d)
  next_off e = rw add-one (drop-pixels m d i h k ∙ ap (λ (p : Pixel). p ∷ drop (suc i) (pixels m d)) (pixel-off (get_or m i 0) (get_or d i nan) e))

  pub next_on : (get_or m i 0 ≡ 0 → ⊥) → drop i (pixels m d) ≡ on (get_or d i nan) ∷ drop (i + 1) (pixels m d)
  next_on e = rw add-one (drop-pixels m d i h k ∙ ap (λ (p : Pixel). p ∷ drop (suc i) (pixels m d)) (pixel-on (get_or m i 0) (get_or d i nan) e))

-- ---- the pixels of the same lists

pub pixels_same : {m m' : List ℕ} {d d' : List Float} → d ≡ d' → m ≡ m' → pixels m d ≡ pixels m' d'
pixels_same e f = cc

-- ---- how many

pub pixels-length : (m : List ℕ) (d : List Float) → length m ≡ length d → length (pixels m d) ≡ length d
unfolding pixels
pixels-length m d e = zip_length pixel m d (sym e) ∙ e

pub or_false : (a b : Bool) → (a || b) ≡ false → (a ≡ false) × (b ≡ false)
or_false a b e = (or_left a b e, or_right a b e)

-- the number of valid pixels is the number of 1 marks
pub valid-ones : (m : List ℕ) (d : List Float) → length m ≡ length d → marks_refused m ≡ false → length (valid_of (pixels m d)) ≡ count_of 1 m
unfolding pixels pixel zip_with valid_of marks_refused any count_of
valid-ones [] d e b = refl
valid-ones (k ∷ m) [] e b = absurd (omega (arith, e))
valid-ones (zero ∷ m) (v ∷ d) e b = valid-ones m d (suc_inj e) b ∙ omega arith
valid-ones (suc zero ∷ m) (v ∷ d) e b = ap suc (valid-ones m d (suc_inj e) b) ∙ omega arith
valid-ones (suc (suc k) ∷ m) (v ∷ d) e b = absurd (omega (arith, ltb-false 1 (suc (suc k)) (or_false _ _ b).0))

-- ---- what is known once a test has not refused

pub named : (n k : ℕ) → unlike n k ≡ false → n ≡ k
named = not_unlike

pub lengths_accepted : (rows cols : ℕ) (m : List ℕ) (d : List Float) → lengths_refused rows cols m d ≡ false → (length d ≡ rows * cols) × (length m ≡ rows * cols)
unfolding lengths_refused
lengths_accepted rows cols m d e =
    let p = or_false (unlike (length d) (rows * cols)) (unlike (length m) (rows * cols)) e in
    (named (length d) (rows * cols) p.0, named (length m) (rows * cols) p.1)

-- no test applies where the answer is 0
pub none_applies : (k : ℕ) (t : Bool) (ts : List Bool) → first_of (suc k) (t ∷ ts) ≡ 0 → (t ≡ false) × (first_of (suc (suc k)) ts ≡ 0)
none_applies k t ts e = (none_first k 0 t ts (sym e) (omega arith), sym (none_rest k 0 t ts (sym e) (omega arith)))

-- a test that applies decides, and one that does not leaves it to the next
pub first-here : (k : ℕ) (t : Bool) (ts : List Bool) → t ≡ true → first_of k (t ∷ ts) ≡ k
unfolding first_of
first-here k t ts e = rw e

pub first_not_here : (k : ℕ) (t : Bool) (ts : List Bool) → t ≡ false → first_of k (t ∷ ts) ≡ first_of (suc k) ts
unfolding first_of
first_not_here k t ts e = rw e

pub first-none : (k : ℕ) → first_of k [] ≡ 0
unfolding first_of
first-none k = refl

-- further tests change nothing where one applies already
pub first_stays : (k : ℕ) (ts us : List Bool) → (first_of k ts ≡ 0 → ⊥) → first_of k ts ≡ first_of k (ts ++ us)
unfolding first_of
first_stays k [] us n = absurd (n refl)
first_stays k (true ∷ ts) us n = refl
first_stays k (false ∷ ts) us n = first_stays (suc k) ts us n

-- and decide where none does
pub first_later : (k : ℕ) (ts us : List Bool) → first_of (suc k) ts ≡ 0 → first_of (suc k) (ts ++ us) ≡ first_of (suc k + length ts) us
unfolding first_of
first_later k [] us e = ap (λ (n : ℕ). first_of n us) (sym (add-zero (suc k)))
first_later k (true ∷ ts) us e = absurd (omega (arith, e))
first_later k (false ∷ ts) us e = first_later (suc k) ts us e ∙ ap (λ (n : ℕ). first_of n us) (omega arith)
