-- Parts of lists that are made element by element. Assumes nothing.
use Rattle.std.proofs.Common.{◌≡◌, ℕ, zero, suc, ◌+◌, ◌-◌, ◌*◌, ◌<◌, ◌≤◌, List, [], ◌∷◌, ◌++◌, map, length, get_or, take, drop, sym, refl, ap, ◌∙◌, arith, length-drop, length-take, length-take-le, get_or-drop, get_or-take, get_or-append-add, below_more}
use lib.Ieee.{Float, nan}
use lib.ListN.{length-map, get_or-append}
use Rattle.raster.specs.declared.band.Band.{Band}
use Rattle.types.specs.declared.WindowFloats.{WindowFloats}
use Rattle.spec.specs.Lists.{places}
use Rattle.lists.proofs.Zip.{zip-take, zip-drop}
use Rattle.spec.specs.Pixels.{pixel, pixels}
use Rattle.lists.proofs.Places.{from-length, places-at}
use Rattle.clahe.specs.Band.{normal_in, normal_pixels}

module _ {A : Type 0} {B : Type 0} (f : A → B) where
  map-take : (n : ℕ) (xs : List A) → map f (take n xs) ≡ take n (map f xs)
  map-take zero xs = refl
  map-take (suc n) [] = refl
  map-take (suc n) (x ∷ xs) = ap (λ (l : List B). f x ∷ l) (map-take n xs)

  map-drop : (n : ℕ) (xs : List A) → map f (drop n xs) ≡ drop n (map f xs)
  map-drop zero xs = refl
  map-drop (suc n) [] = refl
  map-drop (suc n) (x ∷ xs) = map-drop n xs

-- the n elements from a on, as a slice has them, and a band of them
abbrev pub part : {A : Type 0} → ℕ → ℕ → List A → List A
part a n xs = take (a + n - a) (drop a xs)

pub part_length : {A : Type 0} (a n : ℕ) (xs : List A) → a + n ≤ length xs → length (part a n xs) ≡ n
part_length a n xs h = simp (length-take, length-drop) (omega arith)

part_is : {A : Type 0} (a n : ℕ) (xs : List A) → part a n xs ≡ take n (drop a xs)
part_is a n xs = let e : a + n - a ≡ n = omega arith in ap (λ (m : ℕ). take m (drop a xs)) e

-- a band of the n pixels of another from a on
abbrev pub Part : ℕ → ℕ → Band → Band → Type 0
Part a n whole some = (some.db.now ≡ part a n whole.db.now) × (some.valid_mask.now ≡ part a n whole.valid_mask.now)

pub band_length : (a n : ℕ) (whole some : Band) → Part a n whole some → a + n ≤ length whole.db.now → length some.db.now ≡ n
band_length a n whole some e h = ap length e.0 ∙ part_length a n whole.db.now h

pub part_pixels : (w : WindowFloats) (a n : ℕ) (whole some : Band) → Part a n whole some → normal_pixels w some ≡ take n (drop a (normal_pixels w whole))
unfolding pixels
part_pixels w a n whole some e =
    let marks = whole.valid_mask.now in
    let db = whole.db.now in
    rw (e.0, e.1, part_is a n marks, part_is a n db)
    (ap (map (normal_in w)) (zip-take pixel n (drop a marks) (drop a db) ∙ ap (take n) (zip-drop pixel a marks db))
    ∙ map-take (normal_in w) n (drop a (pixels marks db)) ∙ ap (take n) (map-drop (normal_in w) a (pixels marks db)))

-- ---- a part put back

module _ {A : Type 0} (d : A) (a : ℕ) (xs ys zs : List A) (h : a ≤ length xs) where
  pub put-before : (j : ℕ) → j < a → get_or (take a xs ++ (ys ++ zs)) j d ≡ get_or xs j d
  put-before j l = get_or-append (take a xs) (ys ++ zs) d j (omega (arith, length-take-le a xs h)) ∙ get_or-take a xs j d l

  pub put-inside : (j : ℕ) → j < length ys → get_or (take a xs ++ (ys ++ zs)) (a + j) d ≡ get_or ys j d
  put-inside j l =
      ap (λ (n : ℕ). get_or (take a xs ++ (ys ++ zs)) (n + j) d) (sym (length-take-le a xs h)) ∙ get_or-append-add (take a xs) (ys ++ zs) j d ∙ get_or-append ys zs d j l

-- and what stands behind it, where the part is as long as what it replaces
pub put-after : {A : Type 0} (d : A) (a n : ℕ) (xs ys : List A) → a + n ≤ length xs → length ys ≡ n → (j : ℕ) → a + n ≤ j → get_or (take a xs ++ (ys ++ drop n (drop a xs))) j d ≡ get_or xs j d
put-after d a n xs ys h e j l =
    let i = j - (a + n) in
    let zs = drop n (drop a xs) in
    let s : j ≡ length (take a xs) + (length ys + i) = omega (arith, e, length-take-le a xs (omega arith)) in
    let t : a + (n + i) ≡ j = omega arith in
    ap (λ (k : ℕ). get_or (take a xs ++ (ys ++ zs)) k d) s ∙ get_or-append-add (take a xs) (ys ++ zs) (length ys + i) d
    ∙ get_or-append-add ys zs i d ∙ get_or-drop n (drop a xs) i d ∙ get_or-drop a xs (n + i) d ∙ ap (λ (k : ℕ). get_or xs k d) t

-- a list of tables, 256 places each, with table k put in
pub put_table : (g : ℕ → ℕ → Float) (xs ys zs : List Float) (k : ℕ) → k * 256 ≤ length xs → ys ≡ map (g k) (places 256)
    → ((j b : ℕ) → j < k → b < 256 → get_or xs (j * 256 + b) nan ≡ g j b) → (j b : ℕ) → j < k + 1 → b < 256 → get_or (take (k * 256) xs ++ (ys ++ zs)) (j * 256 + b) nan ≡ g j b
put_table g xs ys zs k h e all j b l m = go j l b m
  where
    size : length ys ≡ 256
    size = ap length e ∙ length-map (places 256) (g k) ∙ from-length 0 256

    go : (j : ℕ) → j < k + 1 → (b : ℕ) → b < 256 → get_or (take (k * 256) xs ++ (ys ++ zs)) (j * 256 + b) nan ≡ g j b
    go =
        below_more (λ (j : ℕ). (b : ℕ) → b < 256 → get_or (take (k * 256) xs ++ (ys ++ zs)) (j * 256 + b) nan ≡ g j b) k
        (λ j l b m. put-before nan (k * 256) xs ys zs h (j * 256 + b) (omega arith) ∙ all j b l m)
        (λ b m. put-inside nan (k * 256) xs ys zs h b (omega (arith, size)) ∙ ap (λ (t : List Float). get_or t b nan) e ∙ places-at (g k) nan 256 b m)
