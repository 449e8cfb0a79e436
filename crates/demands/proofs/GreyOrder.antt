-- The order of greys, from the order of a pixel's value and of a stretched byte to the calls. Assumes nothing.
use mathlib.Core.Path.{◌≡◌, refl, sym, ap, ◌∙◌, subst, subst₂}
use mathlib.Core.Bool.{Bool, true, false, cond, ◌||◌}
use mathlib.Core.List.{List, [], ◌∷◌, ◌++◌, map, zip_with}
use Prim.Native.Nat.{ℕ, zero, suc, ◌*◌, ◌≤◌, ◌<◌, max, zero-le, suc-le-suc}
use native.Mathlib.Nat.{suc_inj, le_of_eq, le_trans, le_of_suc-le-suc, not-suc-le-zero}
use native.Mathlib.Omega.{arith}
use lib.Dec.{T, eqb, leb}
use lib.ListN.{length, get_or}
use lib.Ieee.{Float, nan, binary64, mul, le, of_bits, to_unsigned}
use Rattle.types.specs.declared.AutoscaleStrategy.{AutoscaleStrategy}
use Rattle.types.specs.declared.Clip.{Clip}
use Rattle.types.specs.declared.PictureChoices.{PictureChoices}
use Rattle.types.specs.declared.WindowFloats.{WindowFloats}
use Rattle.std.specs.Prelude.{Option, Some, None}
use Rattle.spec.specs.Floats.{zero64, clamp_float}
use Rattle.spec.specs.Lists.{lowest, highest}
use Rattle.spec.specs.Answer.{done, first_of}
use Rattle.spec.specs.Pixels.{Pixel, off, on, pixel, pixels}
use Rattle.spec.specs.Refusals.{lengths_refused, unlike, work_refused, decibel_refused, decibels_refused}
use Rattle.spec.specs.Strategies.{is_clahe, is_tamed}
use Rattle.spec.specs.Statistics.{statistics_of}
use Rattle.spec.specs.Window.{opened, choose_clip, tamed_clip, window_of, picture_window}
use Rattle.spec.specs.Gamma.{BitDepth, U8, U16, over, under, gamma_value, curve, curved, grey_value}
use Rattle.spec.specs.Value.{full8, normalized, value_of, paint}
use Rattle.gamma.proofs.Laws.{gamma_byte}
use Rattle.spec.specs.Stretch.{stretch_byte, stretch}
use Rattle.spec.specs.Grey.{values, grey_tests, autoscale_db_image_to_u8, autoscale_db_image_to_u16}
use Rattle.types.specs.declared.Lent.{Lent}
use Rattle.spec.specs.Picture.{Picture, picture_greys, composed, picture_tests}
use Rattle.spec.specs.Copol.{first_is_copol, second_is_copol, synthetic_rgb_picture_copol}
use Rattle.numeric.proofs.Order.{Number}
use Rattle.numeric.proofs.Picks.{clamped_hi, to_unsigned-le}
use Rattle.raster.proofs.Bands.{or_false, pixels-length}
use Rattle.stretch.proofs.Rising.{stretch_rises}
use Rattle.demands.specs.GreyOrder.{Ranked, GreyOrder}
use Rattle.lists.proofs.Replies.{done-answer, none_holds}
use Rattle.demands.proofs.Accepted.{named_lengths, good_at, good_finite}
use Rattle.demands.proofs.Painted.{not_clahe, painter, values-map, values-size}
use Rattle.demands.proofs.ValueOrder.{Finite, value8_order, value16_order}

-- ---- a place with mark 1 is a valid pixel of finite dB

mark_below : (m : List ℕ) (i : ℕ) → get_or m i 0 ≡ 1 → i < length m
mark_below [] i h = absurd (omega (arith, h))
mark_below (k ∷ m) zero h = suc-le-suc zero-le
mark_below (k ∷ m) (suc i) h = suc-le-suc (mark_below m i h)

pixel-at : (m : List ℕ) (d : List Float) (i : ℕ) → length m ≡ length d → get_or m i 0 ≡ 1 → get_or (pixels m d) i off ≡ on (get_or d i nan)
unfolding pixels pixel zip_with
pixel-at [] d i e h = absurd (omega (arith, h))
pixel-at (k ∷ m) [] i e h = absurd (omega (arith, e))
pixel-at (k ∷ m) (v ∷ d) zero e h = ap (λ (z : ℕ). pixel z v) h
pixel-at (k ∷ m) (v ∷ d) (suc i) e h = pixel-at m d i (suc_inj e) h

-- ---- the value of a pixel under a window that the strategies give

-- blank or opened
abbrev given : Bool → Clip → Option WindowFloats
given blank c = cond blank None (Some (opened c))

ValueOrder : BitDepth → Type 0
ValueOrder depth = (c : Clip) (v w : Float) → Finite v → Finite w → T (le v w) → painter depth (Some (opened c)) (on v) ≤ painter depth (Some (opened c)) (on w)

order8 : ValueOrder U8
unfolding ValueOrder painter opened paint
order8 c v w a b h = value8_order c.gamma c v w a b h

order16 : ValueOrder U16
unfolding ValueOrder painter opened paint
order16 c v w a b h = value16_order c.gamma c v w a b h

painter_le : (depth : BitDepth) → ValueOrder depth → (blank : Bool) (c : Clip) (v w : Float) → Finite v → Finite w → T (le v w) →
    painter depth (given blank c) (on v) ≤ painter depth (given blank c) (on w)
unfolding ValueOrder painter
painter_le depth o true c v w a b h = zero-le
painter_le depth o false c v w a b h = o c v w a b h

-- ---- lists

map_in : {A B : Type 0} (f : A → B) (a : A) (b : B) (xs : List A) (i : ℕ) → i < length xs → get_or (map f xs) i b ≡ f (get_or xs i a)
map_in f a b [] i h = absurd (not-suc-le-zero h)
map_in f a b (x ∷ xs) zero h = refl
map_in f a b (x ∷ xs) (suc i) h = map_in f a b xs i (le_of_suc-le-suc h)

highest-map : {A : Type 0} (f : A → ℕ) (k : ℕ) → ((x : A) → f x ≤ k) → (m : ℕ) → m ≤ k → (xs : List A) → highest m (map f xs) ≤ k
unfolding highest
highest-map f k b m h [] = h
highest-map f k b m h (x ∷ xs) = highest-map f k b (max m (f x)) (let g = b x in omega arith) xs

-- at 8 bits a value is at most 255
number_full : Number full8
unfolding of_bits
number_full = tt

full_is : to_unsigned 64 full8 ≡ 255
unfolding to_unsigned of_bits
full_is = refl

painter_255 : (w : Option WindowFloats) (p : Pixel) → painter U8 w p ≤ 255
unfolding painter paint grey_value curved value_of
painter_255 (Some w) off = zero-le
painter_255 (Some w) (on v) = pick (leb 3 (curve w.gamma))
  where
    x : Float
    x = mul binary64 (normalized w.low w.high w.range v) full8

    pick : (t : Bool) → cond t (value_of full8 w.low w.high w.range v) (gamma_value (over (curve w.gamma)) (under (curve w.gamma)) (normalized w.low w.high w.range v)) ≤ 255
    pick true = le_trans (to_unsigned-le 64 (clamp_float zero64 full8 x) full8 (clamped_hi x zero64 full8 number_full)) (le_of_eq full_is)
    pick false = gamma_byte (over (curve w.gamma)) (under (curve w.gamma)) (normalized w.low w.high w.range v)
painter_255 None p = zero-le

-- ---- a band

module _ (strategy : AutoscaleStrategy) (n : is_clahe strategy ≡ false) (rows cols : ℕ) (m : List ℕ) (d : List Float)
    (e : length m ≡ length d) (good : decibels_refused (pixels m d) ≡ false) (blank : Bool) (c : Clip) where
  raw : BitDepth → List ℕ
  raw depth = values depth strategy rows cols (pixels m d) (given blank c)

  size : (depth : BitDepth) → length (raw depth) ≡ length m
  unfolding raw
  size depth = values-size depth strategy n rows cols (pixels m d) (given blank c) ∙ pixels-length m d e ∙ sym e

  value-at : (depth : BitDepth) (i : ℕ) → get_or m i 0 ≡ 1 → get_or (raw depth) i 0 ≡ painter depth (given blank c) (on (get_or d i nan))
  unfolding raw
  value-at depth i h =
      ap (λ (xs : List ℕ). get_or xs i 0) (values-map depth strategy n rows cols (pixels m d) (given blank c))
      ∙ map_in (painter depth (given blank c)) off 0 (pixels m d) i (omega (arith, mark_below m i h, pixels-length m d e, e))
      ∙ ap (painter depth (given blank c)) (pixel-at m d i e h)

  finite-at : (i : ℕ) → get_or m i 0 ≡ 1 → Finite (get_or d i nan)
  unfolding decibels_refused
  finite-at i h = good_finite (get_or d i nan) (ap decibel_refused (sym (pixel-at m d i e h)) ∙ good_at (pixels m d) i good)

  raw_ranked : (depth : BitDepth) → ValueOrder depth → Ranked m d (raw depth)
  raw_ranked depth o i j hi hj h =
      subst₂ ◌≤◌ (sym (value-at depth i hi)) (sym (value-at depth j hj))
      (painter_le depth o blank c (get_or d i nan) (get_or d j nan) (finite-at i hi) (finite-at j hj) h)

  stretched_ranked : Ranked m d (stretch (raw U8))
  unfolding stretch raw
  stretched_ranked i j hi hj h =
      let xs = raw U8 in
      let f = stretch_byte (lowest 65535 xs) (highest 0 xs) in
      subst₂ ◌≤◌ (sym (map_in f 0 0 xs i (omega (arith, mark_below m i hi, size U8)))) (sym (map_in f 0 0 xs j (omega (arith, mark_below m j hj, size U8))))
      (stretch_rises (lowest 65535 xs) (highest 0 xs) (get_or xs i 0) (get_or xs j 0) top (raw_ranked U8 order8 i j hi hj h))
    where
      top : highest 0 (raw U8) ≤ 65535
      top =
          subst (λ (xs : List ℕ). highest 0 xs ≤ 65535) (sym (values-map U8 strategy n rows cols (pixels m d) (given blank c)))
          (let b = highest-map (painter U8 (given blank c)) 255 (painter_255 (given blank c)) 0 zero-le (pixels m d) in omega (arith, b))

  greys_ranked : Ranked m d (picture_greys strategy rows cols (pixels m d) (given blank c))
  unfolding picture_greys raw
  greys_ranked = pick (is_tamed strategy)
    where
      pick : (t : Bool) → Ranked m d (cond t (raw U8) (stretch (raw U8)))
      pick true = raw_ranked U8 order8
      pick false = stretched_ranked

-- ---- the calls

module _ (strategy : AutoscaleStrategy) (n : is_clahe strategy ≡ false) (rows cols : ℕ) (m : List ℕ) (d : List Float) (out work : ℕ) where
  -- what the tests of a grey call leave
  accepted : (ts : List Bool) → first_of 1 (grey_tests strategy rows cols m d out work (pixels m d) ++ ts) ≡ 0 → (length m ≡ length d) × (decibels_refused (pixels m d) ≡ false)
  unfolding grey_tests
  accepted ts e =
      let h = none_holds 0 _ e in
      (named_lengths rows cols m d (or_false _ (unlike out (rows * cols)) (or_false _ (work_refused strategy work) h.1.0).0).0, h.1.1.1.0)

  autoscale_db_image_to_u8_ranked : (greys : List ℕ) → autoscale_db_image_to_u8 strategy rows cols m d out work ≡ done greys → Ranked m d greys
  unfolding autoscale_db_image_to_u8 grey_tests window_of raw
  autoscale_db_image_to_u8_ranked greys e =
      let h = done-answer _ _ _ e in
      let a = accepted [] h.0 in
      subst (Ranked m d) h.1 (stretched_ranked strategy n rows cols m d a.0 a.1 (eqb (statistics_of (pixels m d)).valid_count 0) (choose_clip strategy (statistics_of (pixels m d))))

  autoscale_db_image_to_u16_ranked : (greys : List ℕ) → autoscale_db_image_to_u16 strategy rows cols m d out work ≡ done greys → Ranked m d greys
  unfolding autoscale_db_image_to_u16 window_of raw
  autoscale_db_image_to_u16_ranked greys e =
      let h = done-answer _ _ _ e in
      let a = accepted _ h.0 in
      subst (Ranked m d) h.1 (raw_ranked strategy n rows cols m d a.0 a.1 (eqb (statistics_of (pixels m d)).valid_count 0) (choose_clip strategy (statistics_of (pixels m d))) U16 order16)

module _ (choices : PictureChoices) (n : is_clahe choices.strategy ≡ false) (rows cols : ℕ) (m1 : List ℕ) (d1 : List Float) (m2 : List ℕ) (d2 : List Float) (lent : Lent) where
  abbrev strategy : AutoscaleStrategy
  strategy = choices.strategy

  picture_accepted : first_of 1 (picture_tests strategy rows cols m1 d1 m2 d2 lent (pixels m1 d1) (pixels m2 d2)) ≡ 0 →
      (length m1 ≡ length d1) × (decibels_refused (pixels m1 d1) ≡ false) × (length m2 ≡ length d2) × (decibels_refused (pixels m2 d2) ≡ false)
  unfolding picture_tests
  picture_accepted e =
      let h = none_holds 0 _ e in
      let named = (or_false (lengths_refused rows cols m1 d1 || lengths_refused rows cols m2 d2) (unlike lent.grey1 (rows * cols))
      (or_false _ (unlike lent.grey2 (rows * cols)) (or_false _ (unlike lent.rgb (3 * (rows * cols))) (or_false _ (work_refused strategy lent.work) h.1.0).0).0).0).0 in
      let names = or_false (lengths_refused rows cols m1 d1) (lengths_refused rows cols m2 d2) named in
      let good = or_false (decibels_refused (pixels m1 d1)) (decibels_refused (pixels m2 d2)) h.1.1.1.0 in
      (named_lengths rows cols m1 d1 names.0, good.0, named_lengths rows cols m2 d2 names.1, good.1)

  picture_ranked : (p : Picture) → synthetic_rgb_picture_copol choices rows cols m1 d1 m2 d2 lent ≡ done p → Ranked m1 d1 p.grey1 × Ranked m2 d2 p.grey2
  unfolding synthetic_rgb_picture_copol composed picture_window
  picture_ranked p e =
      let h = done-answer _ _ _ e in
      let a = picture_accepted h.0 in
      let s1 = statistics_of (pixels m1 d1) in
      let s2 = statistics_of (pixels m2 d2) in (
        subst (Ranked m1 d1) (ap (λ (q : Picture). q.grey1) h.1)
            (greys_ranked strategy n rows cols m1 d1 a.0 a.1 (eqb s1.valid_count 0) (cond (is_tamed strategy) (tamed_clip (first_is_copol choices.copol) s1) (choose_clip strategy s1))),
        subst (Ranked m2 d2) (ap (λ (q : Picture). q.grey2) h.1)
            (greys_ranked strategy n rows cols m2 d2 a.2 a.3 (eqb s2.valid_count 0) (cond (is_tamed strategy) (tamed_clip (second_is_copol choices.copol) s2) (choose_clip strategy s2))),
      )

pub grey-order : GreyOrder
grey-order =
    record {
      at_8_bits = λ strategy n rows cols m d out work. autoscale_db_image_to_u8_ranked strategy (not_clahe strategy n) rows cols m d out work;
      at_16_bits = λ strategy n rows cols m d out work. autoscale_db_image_to_u16_ranked strategy (not_clahe strategy n) rows cols m d out work;
      picture = λ choices n rows cols m1 d1 m2 d2 lent. picture_ranked choices (not_clahe choices.strategy n) rows cols m1 d1 m2 d2 lent;
    }
