-- A loop that writes the colours of two bands, three bytes a pixel: what it has written and what is left make the whole. Assumes nothing.
use mathlib.Core.Path.{◌≡◌, sym, ap, ◌∙◌}
use mathlib.Core.List.{List, [], ◌∷◌, ◌++◌, zip_with, append_assoc, append-nil}
use Prim.Native.Nat.{ℕ, suc, ◌+◌, ◌*◌, ◌≤◌, ◌<◌}
use native.Mathlib.Omega.{arith}
use native.Mathlib.Numerals.{add-one}
use lib.ListN.{length, take, drop, set, get_or, length-set, drop_of_length-le}
use lib.Seq.{take-suc-set, take_all, drop-cons}
use Rattle.types.specs.declared.Rgb.{Rgb}
use Rattle.spec.specs.Colour.{bytes_of}
use Rattle.synthetic_rgb.specs.Palette.{put}

take-three : (l : List ℕ) (j a b c : ℕ) → j + 2 < length l → take (j + 3) (set (set (set l j a) (j + 1) b) (j + 2) c) ≡ take j l ++ (a ∷ b ∷ c ∷ [])
take-three l j a b c h =
    let y : List ℕ = set l j a in
    let x : List ℕ = set y (j + 1) b in
    let ly : length y ≡ length l = length-set l j a in
    let lx : length x ≡ length y = length-set y (j + 1) b in
    let e3 : j + 3 ≡ suc (j + 2) = omega arith in
    let e2 : j + 2 ≡ suc (j + 1) = omega arith in
    ap (λ (n : ℕ). take n (set x (j + 2) c)) e3 ∙ take-suc-set x (j + 2) c (omega arith)
    ∙ ap (λ (r : List ℕ). r ++ (c ∷ [])) (ap (λ (n : ℕ). take n x) e2 ∙ take-suc-set y (j + 1) b (omega arith)
    ∙ ap (λ (r : List ℕ). r ++ (b ∷ [])) (ap (λ (n : ℕ). take n y) (add-one j) ∙ take-suc-set l j a (omega arith)))
    ∙ simp append_assoc

module _ (f : ℕ → ℕ → Rgb) (band1 band2 : List ℕ) where
  abbrev pub Painted : List ℕ → ℕ → Type 0
  Painted out i = (i ≤ length band1) × (length out ≡ 3 * length band1) × (take (3 * i) out ++ bytes_of (zip_with f (drop i band1) (drop i band2)) ≡ bytes_of (zip_with f band1 band2))

  one_less : (i : ℕ) → i < length band1 → i < length band2 → (c : Rgb) → c ≡ f (get_or band1 i 0) (get_or band2 i 0) →
      bytes_of (zip_with f (drop i band1) (drop i band2)) ≡ c.r ∷ c.g ∷ c.b ∷ bytes_of (zip_with f (drop (i + 1) band1) (drop (i + 1) band2))
  unfolding bytes_of zip_with
  one_less i h1 h2 c e = rw (add-one i, drop-cons band1 i 0, drop-cons band2 i 0, e)

  pub painted_step : (out : List ℕ) (i : ℕ) (c : Rgb) → i < length band1 → length band2 ≡ length band1 → c ≡ f (get_or band1 i 0) (get_or band2 i 0) →
      Painted out i → Painted (put out (3 * i) c) (i + 1)
  painted_step out i c h e v p =
      let rest : List ℕ = bytes_of (zip_with f (drop (i + 1) band1) (drop (i + 1) band2)) in
      let e3 : 3 * (i + 1) ≡ 3 * i + 3 = omega arith in (
        omega arith,
        simp length-set p.1,
        ap (λ (n : ℕ). take n (put out (3 * i) c) ++ rest) e3
            ∙ ap (λ (r : List ℕ). r ++ rest) (take-three out (3 * i) c.r c.g c.b (omega arith))
            ∙ append_assoc (take (3 * i) out) (c.r ∷ c.g ∷ c.b ∷ []) rest
            ∙ ap (λ (r : List ℕ). take (3 * i) out ++ r) (sym (one_less i h (omega arith) c v)) ∙ p.2,
      )

  pub painted_end : (out : List ℕ) (i : ℕ) → length band1 ≤ i → Painted out i → out ≡ bytes_of (zip_with f band1 band2)
  unfolding bytes_of zip_with
  painted_end out i h p =
      sym (ap (λ (l : List ℕ). take (3 * i) out ++ bytes_of (zip_with f l (drop i band2))) (drop_of_length-le band1 h) ∙ append-nil (take (3 * i) out) ∙ take_all (3 * i) out (omega arith)) ∙ p.2
