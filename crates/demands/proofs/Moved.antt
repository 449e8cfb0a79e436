-- What is painted from reordered bands is the paint, moved: once the windows of two bands paint alike, the whole picture moves. Assumes nothing.
use mathlib.Core.Path.{◌≡◌, refl, sym, ap, ap₂, ◌∙◌}
use mathlib.Core.Bool.{Bool, true, false, cond, ◌&&◌, ◌||◌}
use mathlib.Core.List.{List, [], ◌∷◌, map, zip_with, Permᴰ}
use Prim.Native.Nat.{ℕ, zero, suc, ◌+◌, ◌*◌, ◌≤◌, ◌<◌}
use native.Mathlib.Nat.{suc_inj, not-suc-le-zero, le_of_suc-le-suc}
use native.Mathlib.Omega.{arith}
use lib.Dec.{ltb}
use lib.ListN.{length, get_or, length-map}
use lib.Ieee.{Float, nan}
use Rattle.types.specs.declared.AutoscaleStrategy.{AutoscaleStrategy}
use Rattle.types.specs.declared.PictureChoices.{PictureChoices}
use Rattle.types.specs.declared.Rgb.{Rgb}
use Rattle.types.specs.declared.WindowFloats.{WindowFloats}
use Rattle.std.specs.Prelude.{Option}
use Rattle.spec.specs.Lists.{places_from, lowest, highest}
use Rattle.spec.specs.Answer.{done, first_of, or_refused, answer}
use Rattle.spec.specs.Pixels.{Pixel, off, pixel, pixels, is_on}
use Rattle.spec.specs.Refusals.{unlike, lengths_refused, marks_refused, decibels_refused, decibel_refused, tiles_refused, side_refused}
use Rattle.spec.specs.Strategies.{is_clahe, is_tamed, is_suppressed}
use Rattle.spec.specs.Statistics.{statistics_of}
use Rattle.spec.specs.Window.{picture_window}
use Rattle.spec.specs.Gamma.{BitDepth, U8}
use Rattle.spec.specs.Stretch.{stretch, stretch_byte}
use Rattle.spec.specs.Colour.{plain, suppressed, floor_level, colours_of}
use Rattle.spec.specs.Grey.{values}
use Rattle.types.specs.declared.Lent.{Lent}
use Rattle.spec.specs.Picture.{Picture, picture_greys, composed, picture_tests}
use Rattle.spec.specs.Copol.{first_is_copol, second_is_copol, synthetic_rgb_picture_copol}
use Rattle.spec.specs.Places.{Order, moved, dark, moved_picture}
use Rattle.lists.proofs.Counts.{Below}
use Rattle.lists.proofs.Reorder.{perm_length, any_perm, lowest_perm, highest_perm, floor_perm, moved_perm, zip-moved, map-moved, map_same}
use Rattle.raster.proofs.Bands.{or_false, pixels-length}
use Rattle.demands.proofs.Painted.{painter, painter_off, values-map, values-size}
use Rattle.demands.proofs.Steadiness.{Steady}

-- ---- an order names places of the list only

places-size : (i n : ℕ) → length (places_from i n) ≡ n
unfolding places_from
places-size i zero = refl
places-size i (suc n) = ap suc (places-size (suc i) n)

pub order-size : (ps : List ℕ) (n : ℕ) → Order ps n → length ps ≡ n
order-size ps n o = perm_length o ∙ places-size 0 n

below-places : (i n k : ℕ) → i + n ≤ k → Below k (places_from i n)
unfolding places_from
below-places i zero k h = tt
below-places i (suc n) k h = (omega arith, below-places (suc i) n k (omega arith))

below_perm : (n : ℕ) {xs ys : List ℕ} → Permᴰ xs ys → Below n ys → Below n xs
below_perm n mathlib.Core.List.Permᴰ.nil b = tt
below_perm n (mathlib.Core.List.Permᴰ.cons e p) b = (omega (arith, e, b.0), below_perm n p b.1)
below_perm n (mathlib.Core.List.Permᴰ.swap e f) b = (omega (arith, e, b.1.0), (omega (arith, f, b.0), b.1.1))
below_perm n (mathlib.Core.List.Permᴰ.trans p q) b = below_perm n p (below_perm n q b)

default-at : {A : Type 0} (c d : A) (xs : List A) (i : ℕ) → i < length xs → get_or xs i c ≡ get_or xs i d
default-at c d [] i h = absurd (not-suc-le-zero h)
default-at c d (x ∷ xs) zero h = refl
default-at c d (x ∷ xs) (suc i) h = default-at c d xs i (le_of_suc-le-suc h)

moved-default : {A : Type 0} (c d : A) (ps : List ℕ) (xs : List A) → Below (length xs) ps → moved c ps xs ≡ moved d ps xs
moved-default c d [] xs b = refl
moved-default {A} c d (i ∷ ps) xs b =
    ap (λ (y : A). y ∷ moved c ps xs) (default-at c d xs i b.0) ∙ ap (λ (ys : List A). get_or xs i d ∷ ys) (moved-default c d ps xs b.1)

-- so the default does not matter
any-default : {A : Type 0} (c d : A) (ps : List ℕ) (n : ℕ) (xs : List A) → length xs ≡ n → Order ps n → moved c ps xs ≡ moved d ps xs
any-default c d ps n xs e o = moved-default c d ps xs (below_perm (length xs) o (below-places 0 n (length xs) (omega arith)))

zip-size : {A B C : Type 0} (f : A → B → C) (xs : List A) (ys : List B) → length xs ≡ length ys → length (zip_with f xs ys) ≡ length xs
unfolding zip_with
zip-size f [] ys e = refl
zip-size f (x ∷ xs) [] e = absurd (omega (arith, e))
zip-size f (x ∷ xs) (y ∷ ys) e = ap suc (zip-size f xs ys (suc_inj e))

-- ---- a band

module _ (ps : List ℕ) (n : ℕ) (o : Order ps n) where
  order_of : {A : Type 0} (xs : List A) → length xs ≡ n → Order ps (length xs)
  order_of xs e = rw e o

  pub moved-pixels : (m : List ℕ) (d : List Float) → length m ≡ n → length d ≡ n → pixels (moved 0 ps m) (moved nan ps d) ≡ moved off ps (pixels m d)
  unfolding pixels pixel
  moved-pixels m d e f = zip-moved pixel 0 nan ps m d (e ∙ sym f)

  values_moved : (depth : BitDepth) (strategy : AutoscaleStrategy) → is_clahe strategy ≡ false → (rows cols : ℕ) (px : List Pixel) (w : Option WindowFloats) →
      values depth strategy rows cols (moved off ps px) w ≡ moved 0 ps (values depth strategy rows cols px w)
  values_moved depth strategy c rows cols px w =
      values-map depth strategy c rows cols (moved off ps px) w ∙ map-moved (painter depth w) off ps px
      ∙ ap (λ (z : ℕ). moved z ps (map (painter depth w) px)) (painter_off depth w) ∙ ap (moved 0 ps) (sym (values-map depth strategy c rows cols px w))

  stretch-moved : (xs : List ℕ) → length xs ≡ n → stretch (moved 0 ps xs) ≡ moved 0 ps (stretch xs)
  unfolding stretch
  stretch-moved xs e =
      let p : Permᴰ (moved 0 ps xs) xs = moved_perm 0 ps xs (order_of xs e) in
      ap (λ (l : ℕ). map (stretch_byte l (highest 0 (moved 0 ps xs))) (moved 0 ps xs)) (lowest_perm 65535 p)
      ∙ ap (λ (h : ℕ). map (stretch_byte (lowest 65535 xs) h) (moved 0 ps xs)) (highest_perm 0 p)
      ∙ map-moved (stretch_byte (lowest 65535 xs) (highest 0 xs)) 0 ps xs
      ∙ any-default _ 0 ps n (map (stretch_byte (lowest 65535 xs) (highest 0 xs)) xs) (length-map xs (stretch_byte (lowest 65535 xs) (highest 0 xs)) ∙ e) o

  greys_moved : (strategy : AutoscaleStrategy) → is_clahe strategy ≡ false → (rows cols : ℕ) (px : List Pixel) → length px ≡ n → (w : Option WindowFloats) →
      picture_greys strategy rows cols (moved off ps px) w ≡ moved 0 ps (picture_greys strategy rows cols px w)
  unfolding picture_greys
  greys_moved strategy c rows cols px e w =
      let raw = values U8 strategy rows cols px w in
      ap (λ (xs : List ℕ). cond (is_tamed strategy) xs (stretch xs)) (values_moved U8 strategy c rows cols px w)
      ∙ pick (is_tamed strategy) raw (values-size U8 strategy c rows cols px w ∙ e)
    where
      pick : (t : Bool) (xs : List ℕ) → length xs ≡ n → cond t (moved 0 ps xs) (stretch (moved 0 ps xs)) ≡ moved 0 ps (cond t xs (stretch xs))
      pick true xs l = refl
      pick false xs l = stretch-moved xs l

  greys_size : (strategy : AutoscaleStrategy) → is_clahe strategy ≡ false → (rows cols : ℕ) (px : List Pixel) (w : Option WindowFloats) → length (picture_greys strategy rows cols px w) ≡ length px
  unfolding picture_greys stretch
  greys_size strategy c rows cols px w =
      pick (is_tamed strategy) (values U8 strategy rows cols px w) ∙ values-size U8 strategy c rows cols px w
    where
      pick : (t : Bool) (xs : List ℕ) → length (cond t xs (stretch xs)) ≡ length xs
      pick true xs = refl
      pick false xs = length-map xs (stretch_byte (lowest 65535 xs) (highest 0 xs))

  zip-colours : (f : ℕ → ℕ → Rgb) (a b : List ℕ) → length a ≡ n → length b ≡ n → zip_with f (moved 0 ps a) (moved 0 ps b) ≡ moved dark ps (zip_with f a b)
  zip-colours f a b e g =
      zip-moved f 0 0 ps a b (e ∙ sym g) ∙ any-default (f 0 0) dark ps n (zip_with f a b) (zip-size f a b (e ∙ sym g) ∙ e) o

  colours-moved : (strategy : AutoscaleStrategy) (a b : List ℕ) → length a ≡ n → length b ≡ n →
      colours_of strategy (moved 0 ps a) (moved 0 ps b) ≡ moved dark ps (colours_of strategy a b)
  unfolding colours_of
  colours-moved strategy a b e g =
      ap (λ (f : ℕ). cond (is_suppressed strategy) (zip_with (suppressed f) (moved 0 ps a) (moved 0 ps b)) (zip_with plain (moved 0 ps a) (moved 0 ps b)))
      (floor_perm (moved_perm 0 ps a (order_of a e)) (moved_perm 0 ps b (order_of b g)))
      ∙ pick (is_suppressed strategy)
    where
      pick : (t : Bool) → cond t (zip_with (suppressed (floor_level a b)) (moved 0 ps a) (moved 0 ps b)) (zip_with plain (moved 0 ps a) (moved 0 ps b))
          ≡ moved dark ps (cond t (zip_with (suppressed (floor_level a b)) a b) (zip_with plain a b))
      pick true = zip-colours (suppressed (floor_level a b)) a b e g
      pick false = zip-colours plain a b e g

  answer-moved : (k : ℕ) (p q : Picture) → (q.grey1 ≡ moved 0 ps p.grey1) → (q.grey2 ≡ moved 0 ps p.grey2) → (q.colours ≡ moved dark ps p.colours) →
      answer k q ≡ moved_picture ps (answer k p)
  unfolding answer or_refused moved_picture
  answer-moved zero p q e f g = λ i. done (record { grey1 = e i; grey2 = f i; colours = g i })
  answer-moved (suc k) p q e f g = refl

  -- ---- the tests of a band

  pub named_moved : (rows cols : ℕ) (m : List ℕ) (d : List Float) → length m ≡ n → length d ≡ n → lengths_refused rows cols (moved 0 ps m) (moved nan ps d) ≡ lengths_refused rows cols m d
  unfolding lengths_refused
  named_moved rows cols m d e f =
      ap (λ (k : ℕ). unlike k (rows * cols) || unlike (length (moved 0 ps m)) (rows * cols)) (length-map ps (λ i. get_or d i nan) ∙ order-size ps n o ∙ sym f)
      ∙ ap (λ (k : ℕ). unlike (length d) (rows * cols) || unlike k (rows * cols)) (length-map ps (λ i. get_or m i 0) ∙ order-size ps n o ∙ sym e)

  pub mark_moved : (m : List ℕ) → length m ≡ n → marks_refused (moved 0 ps m) ≡ marks_refused m
  unfolding marks_refused
  mark_moved m e = any_perm (ltb 1) (moved_perm 0 ps m (order_of m e))

  pub decibel_moved : (px : List Pixel) → length px ≡ n → decibels_refused (moved off ps px) ≡ decibels_refused px
  unfolding decibels_refused
  decibel_moved px e = any_perm decibel_refused (moved_perm off ps px (order_of px e))

  tiles_moved : (strategy : AutoscaleStrategy) (rows cols : ℕ) (px : List Pixel) → length px ≡ n → tiles_refused strategy rows cols (moved off ps px) ≡ tiles_refused strategy rows cols px
  unfolding tiles_refused
  tiles_moved strategy rows cols px e =
      ap (λ (t : Bool). is_clahe strategy && t && (side_refused rows || side_refused cols)) (any_perm is_on (moved_perm off ps px (order_of px e)))

  pub pixels-size : (m : List ℕ) (d : List Float) → length m ≡ n → length d ≡ n → length (pixels m d) ≡ n
  pixels-size m d e f = pixels-length m d (e ∙ sym f) ∙ f

-- ---- the picture

-- the window of a band
abbrev pub win : AutoscaleStrategy → Bool → List Pixel → Option WindowFloats
win strategy copol px = picture_window strategy copol (statistics_of px)

steady_greys : (strategy : AutoscaleStrategy) → is_clahe strategy ≡ false → (w w' : Option WindowFloats) → Steady w w' → (rows cols : ℕ) (px : List Pixel) →
    picture_greys strategy rows cols px w ≡ picture_greys strategy rows cols px w'
unfolding picture_greys
steady_greys strategy c w w' s rows cols px =
    ap (λ (xs : List ℕ). cond (is_tamed strategy) xs (stretch xs))
    (values-map U8 strategy c rows cols px w ∙ map_same (painter U8 w) (painter U8 w') (s.paints U8) px ∙ sym (values-map U8 strategy c rows cols px w'))

-- where the fourth test holds, the fifth is not asked
bad_answer : (ps : List ℕ) (a b c e e' : Bool) (p q : Picture) →
    answer (first_of 1 (a ∷ b ∷ c ∷ true ∷ e' ∷ [])) q ≡ moved_picture ps (answer (first_of 1 (a ∷ b ∷ c ∷ true ∷ e ∷ [])) p)
unfolding first_of answer or_refused moved_picture
bad_answer ps true b c e e' p q = refl
bad_answer ps false true c e e' p q = refl
bad_answer ps false false true e e' p q = refl
bad_answer ps false false false e e' p q = refl

module _ (ps : List ℕ) (n : ℕ) (o : Order ps n) (choices : PictureChoices) (c : is_clahe choices.strategy ≡ false) (rows cols : ℕ)
    (m1 : List ℕ) (d1 : List Float) (m2 : List ℕ) (d2 : List Float) (lent : Lent)
    (em1 : length m1 ≡ n) (ed1 : length d1 ≡ n) (em2 : length m2 ≡ n) (ed2 : length d2 ≡ n) where
  abbrev strategy : AutoscaleStrategy
  strategy = choices.strategy

  abbrev first : Bool
  first = first_is_copol choices.copol

  abbrev second : Bool
  second = second_is_copol choices.copol

  -- bands without refusal 4 whose windows paint alike
  module _ (s1 : Steady (win strategy first (moved off ps (pixels m1 d1))) (win strategy first (pixels m1 d1)))
      (s2 : Steady (win strategy second (moved off ps (pixels m2 d2))) (win strategy second (pixels m2 d2))) where
    greys_of : (copol : Bool) (m : List ℕ) (d : List Float) → length m ≡ n → length d ≡ n → Steady (win strategy copol (moved off ps (pixels m d))) (win strategy copol (pixels m d)) →
        picture_greys strategy rows cols (moved off ps (pixels m d)) (win strategy copol (moved off ps (pixels m d))) ≡ moved 0 ps (picture_greys strategy rows cols (pixels m d) (win strategy copol (pixels m d)))
    greys_of copol m d e f s =
        steady_greys strategy c _ _ s rows cols (moved off ps (pixels m d)) ∙ greys_moved ps n o strategy c rows cols (pixels m d) (pixels-size ps n o m d e f) (win strategy copol (pixels m d))

    tests_moved :
        picture_tests strategy rows cols (moved 0 ps m1) (moved nan ps d1) (moved 0 ps m2) (moved nan ps d2) lent (moved off ps (pixels m1 d1)) (moved off ps (pixels m2 d2))
        ≡ picture_tests strategy rows cols m1 d1 m2 d2 lent (pixels m1 d1) (pixels m2 d2)
    unfolding picture_tests
    tests_moved =
        cc (
          named_moved ps n o rows cols m1 d1 em1 ed1,
          named_moved ps n o rows cols m2 d2 em2 ed2,
          mark_moved ps n o m1 em1,
          mark_moved ps n o m2 em2,
          decibel_moved ps n o (pixels m1 d1) (pixels-size ps n o m1 d1 em1 ed1),
          decibel_moved ps n o (pixels m2 d2) (pixels-size ps n o m2 d2 em2 ed2),
          tiles_moved ps n o strategy rows cols (pixels m1 d1) (pixels-size ps n o m1 d1 em1 ed1),
          tiles_moved ps n o strategy rows cols (pixels m2 d2) (pixels-size ps n o m2 d2 em2 ed2),
        )

    steady_picture :
        synthetic_rgb_picture_copol choices rows cols (moved 0 ps m1) (moved nan ps d1) (moved 0 ps m2) (moved nan ps d2) lent
        ≡ moved_picture ps (synthetic_rgb_picture_copol choices rows cols m1 d1 m2 d2 lent)
    unfolding synthetic_rgb_picture_copol composed
    steady_picture =
        rw (moved-pixels ps n o m1 d1 em1 ed1, moved-pixels ps n o m2 d2 em2 ed2, tests_moved)
        (answer-moved ps n o _ _ _ (greys_of first m1 d1 em1 ed1 s1) (greys_of second m2 d2 em2 ed2 s2)
        (ap₂ (colours_of strategy) (greys_of first m1 d1 em1 ed1 s1) (greys_of second m2 d2 em2 ed2 s2)
        ∙ colours-moved ps n o strategy _ _ (greys_size ps n o strategy c rows cols (pixels m1 d1) _ ∙ pixels-size ps n o m1 d1 em1 ed1)
        (greys_size ps n o strategy c rows cols (pixels m2 d2) _ ∙ pixels-size ps n o m2 d2 em2 ed2)))

  -- a band with refusal 4
  bad_picture : (decibels_refused (pixels m1 d1) || decibels_refused (pixels m2 d2)) ≡ true →
      synthetic_rgb_picture_copol choices rows cols (moved 0 ps m1) (moved nan ps d1) (moved 0 ps m2) (moved nan ps d2) lent
      ≡ moved_picture ps (synthetic_rgb_picture_copol choices rows cols m1 d1 m2 d2 lent)
  unfolding synthetic_rgb_picture_copol picture_tests
  bad_picture h =
      rw (
        moved-pixels ps n o m1 d1 em1 ed1,
        moved-pixels ps n o m2 d2 em2 ed2,
        named_moved ps n o rows cols m1 d1 em1 ed1,
        named_moved ps n o rows cols m2 d2 em2 ed2,
        mark_moved ps n o m1 em1,
        mark_moved ps n o m2 em2,
        decibel_moved ps n o (pixels m1 d1) (pixels-size ps n o m1 d1 em1 ed1),
        decibel_moved ps n o (pixels m2 d2) (pixels-size ps n o m2 d2 em2 ed2),
        h,
      )
      (bad_answer ps _ _ _ _ _ _ _)

  -- the claim, from windows that paint alike wherever no refusal 4 stands in the way
  pub reordered_picture :
      (decibels_refused (pixels m1 d1) ≡ false → Steady (win strategy first (moved off ps (pixels m1 d1))) (win strategy first (pixels m1 d1))) →
      (decibels_refused (pixels m2 d2) ≡ false → Steady (win strategy second (moved off ps (pixels m2 d2))) (win strategy second (pixels m2 d2))) →
      synthetic_rgb_picture_copol choices rows cols (moved 0 ps m1) (moved nan ps d1) (moved 0 ps m2) (moved nan ps d2) lent
      ≡ moved_picture ps (synthetic_rgb_picture_copol choices rows cols m1 d1 m2 d2 lent)
  reordered_picture s1 s2 = go (decibels_refused (pixels m1 d1) || decibels_refused (pixels m2 d2)) refl
    where
      go : (t : Bool) → (decibels_refused (pixels m1 d1) || decibels_refused (pixels m2 d2)) ≡ t →
          synthetic_rgb_picture_copol choices rows cols (moved 0 ps m1) (moved nan ps d1) (moved 0 ps m2) (moved nan ps d2) lent
          ≡ moved_picture ps (synthetic_rgb_picture_copol choices rows cols m1 d1 m2 d2 lent)
      go true h = bad_picture h
      go false h = steady_picture (s1 (or_false _ _ h).0) (s2 (or_false (decibels_refused (pixels m1 d1)) (decibels_refused (pixels m2 d2)) h).1)
