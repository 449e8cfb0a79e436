-- A list copied into another from the place `at` on (`paste` of lib.Seq): the loop, and the elements afterwards. Assumes nothing.
use mathlib.Core.Path.{◌≡◌, refl, sym, ap, ◌∙◌}
use mathlib.Core.List.{List, ◌++◌}
use Prim.Native.Nat.{ℕ, ◌+◌, ◌-◌, ◌≤◌, ◌<◌}
use native.Mathlib.Numerals.{add-one}
use native.Mathlib.Omega.{arith}
use lib.ListN.{length, set, take, drop, get_or, length-set, get_or-append}
use lib.Seq.{paste, paste-zero, paste-suc, length_paste_head, length-take-le, take-length, get_or-append-add, get_or-take, get_or-drop}

module _ {A : Type 0} (z : A) (p : List A) (at : ℕ) (q : List A) (h : at + length q ≤ length p) where
  abbrev head : List A
  head = take at p ++ take (length q) q

  head-length : length head ≡ at + length q
  head-length = length_paste_head p at q (length q) (omega arith) (omega arith)

  -- within: the element copied
  pub paste_in : (j : ℕ) → j < length q → get_or (paste p at q (length q)) (at + j) z ≡ get_or q j z
  paste_in j l =
      get_or-append head (drop (at + length q) p) z (at + j) (omega (arith, head-length))
      ∙ ap (λ (m : ℕ). get_or head (m + j) z) (sym (length-take-le at p (omega arith)))
      ∙ get_or-append-add (take at p) (take (length q) q) j z ∙ ap (λ (l : List A). get_or l j z) (take-length q)

  -- before and after: the element that was there
  pub paste_before : (k : ℕ) → k < at → get_or (paste p at q (length q)) k z ≡ get_or p k z
  paste_before k l =
      get_or-append head (drop (at + length q) p) z k (omega (arith, head-length))
      ∙ get_or-append (take at p) (take (length q) q) z k (omega (arith, length-take-le at p (omega arith)))
      ∙ get_or-take at p k z l

  pub paste_after : (k : ℕ) → at + length q ≤ k → get_or (paste p at q (length q)) k z ≡ get_or p k z
  paste_after k l =
      ap (λ (m : ℕ). get_or (paste p at q (length q)) m z) (omega (arith, head-length))
      ∙ get_or-append-add head (drop (at + length q) p) (k - (at + length q)) z
      ∙ get_or-drop (at + length q) p (k - (at + length q)) z ∙ ap (λ (m : ℕ). get_or p m z) (omega arith)

module _ {A : Type 0} (p : List A) (at : ℕ) (q : List A) where
  -- the first i of q are copied
  abbrev pub Copied : List A → ℕ → Type 0
  Copied to i = (i ≤ length q) × (length to ≡ length p) × (to ≡ paste p at q i)

  pub copied_none : Copied p 0
  copied_none = (omega arith, refl, paste-zero p at q)

  -- a store at at + i
  pub copied_step : (z : A) (to : List A) (i : ℕ) → at + length q ≤ length p → i < length q → Copied to i → Copied (set to (at + i) (get_or q i z)) (i + 1)
  copied_step z to i h l t = (
    omega arith,
    length-set to (at + i) (get_or q i z) ∙ t.1,
    ap (λ (r : List A). set r (at + i) (get_or q i z)) t.2 ∙ paste-suc p at q i z (omega arith) l ∙ ap (paste p at q) (sym (add-one i)),
  )

  pub copied_all : (to : List A) (i : ℕ) → Copied to i → length q ≤ i → to ≡ paste p at q (length q)
  copied_all to i t h = let e : i ≡ length q = omega arith in t.2 ∙ ap (paste p at q) e
