-- The reordering claim: reordered values have the same least, greatest and percentiles as numbers, and windows of the same numbers paint alike. Assumes nothing.
use mathlib.Core.Path.{◌≡◌, refl, sym, ap, ◌∙◌, subst}
use mathlib.Core.Bool.{Bool, true, false, ◌||◌}
use mathlib.Core.List.Permᴰ
use mathlib.Core.List.{List, [], ◌∷◌, zip_with, Permᴰ}
use Prim.Native.Nat.{ℕ, zero, suc, ◌+◌, ◌*◌, ◌<◌, suc-le-suc, zero-le}
use native.Mathlib.Nat.{add-zero, zero-add}
use native.Mathlib.Omega.{arith}
use lib.Dec.{lit<}
use lib.ListN.{length, get_or}
use lib.Ieee.{Float, nan}
use Rattle.types.specs.declared.AutoscaleStrategy.{AutoscaleStrategy}
use Rattle.types.specs.declared.PictureChoices.{PictureChoices}
use Rattle.types.specs.declared.Place.{Place}
use Rattle.types.specs.declared.Rgb.{Rgb}
use Rattle.spec.specs.Number.{Alike, same}
use Rattle.spec.specs.Answer.{Answer, refused, done, first_of, or_refused, answer}
use Rattle.spec.specs.Lists.{any}
use Rattle.spec.specs.Pixels.{Pixel, off, on, pixel, pixels, valid_of}
use Rattle.spec.specs.Refusals.{sides_refused, unlike, lengths_refused, marks_refused, decibel_refused, decibels_refused}
use Rattle.spec.specs.Moments.{no_moments, with_value, moments_from}
use Rattle.spec.specs.Statistics.{summary, summary_of, statistics_of, placed_statistics, compute_histogram_stats}
use Rattle.spec.specs.Strongest.{nowhere}
use Rattle.spec.specs.Curve.{curve_of, compute_histogram}
use Rattle.spec.specs.Colour.{bytes_of}
use Rattle.types.specs.declared.Lent.{Lent}
use Rattle.spec.specs.Copol.{first_is_copol, second_is_copol, synthetic_rgb_picture_copol}
use Rattle.spec.specs.Picture.{Picture}
use Rattle.spec.specs.Places.{Order, moved, dark, moved_picture}
use Rattle.lists.proofs.Reorder.{perm_length, valid_perm, moved_perm}
use Rattle.numeric.proofs.Order.{Number, number_of_finite}
use Rattle.raster.proofs.Bands.{or_false}
use Rattle.demands.specs.Reordering.{Reorders, AreF64, moved_triples, MovedBy, same_refusal, both_done, SameBins, refused_alike, same_bins, Reordering}
use Rattle.demands.proofs.Accepted.{good_finite}
use Rattle.demands.proofs.Painted.{not_clahe}
use Rattle.demands.proofs.Counted.{moments_count}
use Rattle.demands.proofs.FirstMet.{Each, Fits, moments_least, moments_greatest, least_alike, greatest_alike}
use Rattle.demands.proofs.Steadiness.{SameMoments, SameNumbers, Steady, bins_alike, summary_alike, window_steady}
use Rattle.demands.proofs.Moved.{win, pixels-size, moved-pixels, named_moved, mark_moved, decibel_moved, reordered_picture}

-- ---- valid values are numbers, and floats of the format

pub valid_numbers : (px : List Pixel) → any decibel_refused px ≡ false → Each Number (valid_of px)
unfolding valid_of any
valid_numbers [] e = tt
valid_numbers (off ∷ px) e = valid_numbers px (or_false (decibel_refused off) (any decibel_refused px) e).1
valid_numbers (on v ∷ px) e =
    let h = or_false (decibel_refused (on v)) (any decibel_refused px) e in
    (number_of_finite v (good_finite v h.0), valid_numbers px h.1)

valid_fits : (m : List ℕ) (d : List Float) → AreF64 d → Each Fits (valid_of (pixels m d))
unfolding valid_of pixels pixel zip_with
valid_fits [] d h = tt
valid_fits (k ∷ m) [] h = tt
valid_fits (zero ∷ m) (v ∷ d) h = valid_fits m d (λ i l. h (suc i) (suc-le-suc l))
valid_fits (suc k ∷ m) (v ∷ d) h = (h 0 (suc-le-suc zero-le), valid_fits m d (λ i l. h (suc i) (suc-le-suc l)))

-- ---- pass one of reordered values

same_moments : (vs ws : List Float) → Permᴰ vs ws → Each Number vs → Each Fits vs → SameMoments (moments_from no_moments vs) (moments_from no_moments ws)
unfolding no_moments moments_from with_value
same_moments [] [] p a b = record { count = refl; least = same; greatest = same }
same_moments [] (w ∷ ws) p a b = absurd (omega (arith, perm_length p))
same_moments (v ∷ vs) [] p a b = absurd (omega (arith, perm_length p))
same_moments (v ∷ vs) (w ∷ ws) p a b =
    record {
      count = moments_count no_moments (v ∷ vs) ∙ ap (λ (n : ℕ). 0 + n) (perm_length p) ∙ sym (moments_count no_moments (w ∷ ws));
      least = alike (moments_least (with_value no_moments v) vs (λ e. omega (arith, e))) (moments_least (with_value no_moments w) ws (λ e. omega (arith, e))) (least_alike v vs w ws p a b);
      greatest = alike (moments_greatest (with_value no_moments v) vs (λ e. omega (arith, e))) (moments_greatest (with_value no_moments w) ws (λ e. omega (arith, e))) (greatest_alike v vs w ws p a b);
    }
  where
    alike : {x y x' y' : Float} → x ≡ x' → y ≡ y' → Alike x' y' → Alike x y
    alike {y} {x'} e f h = subst (λ (z : Float). Alike z y) (sym e) (subst (λ (z : Float). Alike x' z) (sym f) h)

same_numbers : (px qx : List Pixel) (place place' : Place) → Permᴰ px qx → decibels_refused px ≡ false → Each Fits (valid_of px) →
    SameNumbers (summary (moments_from no_moments (valid_of px)) place (valid_of px)) (summary (moments_from no_moments (valid_of qx)) place' (valid_of qx))
unfolding decibels_refused
same_numbers px qx place place' p e f = summary_alike _ _ (same_moments (valid_of px) (valid_of qx) (valid_perm p) (valid_numbers px e) f) place place' (valid_perm p)

-- ---- the statistics and the curve of a band

-- answers to the same four tests
each_alike : {A : Type 0} (R : Answer A → Answer A → Type 0) → ((k : ℕ) → R (refused k) (refused k)) → (a b c d : Bool) {s t : A} → (d ≡ false → R (done s) (done t)) →
    R (answer (first_of 1 (a ∷ b ∷ c ∷ d ∷ [])) s) (answer (first_of 1 (a ∷ b ∷ c ∷ d ∷ [])) t)
unfolding first_of answer or_refused
each_alike R r true b c d k = r 1
each_alike R r false true c d k = r 2
each_alike R r false false true d k = r 3
each_alike R r false false false true k = r 4
each_alike R r false false false false k = k refl

module _ (ps : List ℕ) (n : ℕ) (o : Order ps n) (m : List ℕ) (d : List Float) (e : length m ≡ n) (f : length d ≡ n) (h : AreF64 d) where
  reordered_pixels : Permᴰ (pixels m d) (moved off ps (pixels m d))
  reordered_pixels = Permᴰ.symm (moved_perm off ps (pixels m d) (subst (Order ps) (sym (pixels-size ps n o m d e f)) o))

  band_numbers : (place place' : Place) → decibels_refused (pixels m d) ≡ false →
      SameNumbers (summary (moments_from no_moments (valid_of (pixels m d))) place (valid_of (pixels m d))) (summary (moments_from no_moments (valid_of (moved off ps (pixels m d)))) place' (valid_of (moved off ps (pixels m d))))
  band_numbers place place' g = same_numbers (pixels m d) (moved off ps (pixels m d)) place place' reordered_pixels g (valid_fits m d h)

  band-curve : decibels_refused (pixels m d) ≡ false → curve_of (pixels m d) ≡ curve_of (moved off ps (pixels m d))
  unfolding curve_of decibels_refused
  band-curve g =
      bins_alike _ _ (same_moments (valid_of (pixels m d)) (valid_of (moved off ps (pixels m d))) (valid_perm reordered_pixels) (valid_numbers (pixels m d) g) (valid_fits m d h))
      (valid_perm reordered_pixels)

  -- the tests of a band are the same ones
  module _ (rows cols : ℕ) where
    bins-same : SameBins (compute_histogram_stats rows cols m d) (compute_histogram_stats rows cols (moved 0 ps m) (moved nan ps d))
    unfolding compute_histogram_stats placed_statistics first_of answer or_refused
    bins-same =
        rw (moved-pixels ps n o m d e f, named_moved ps n o rows cols m d e f, mark_moved ps n o m e, decibel_moved ps n o (pixels m d) (pixels-size ps n o m d e f))
        (each_alike SameBins refused_alike (sides_refused rows cols) (lengths_refused rows cols m d) (marks_refused m) (decibels_refused (pixels m d))
        (λ g. same_bins (band_numbers _ _ g).p05_bin (band_numbers _ _ g).p95_bin))

    curve-same : (out : ℕ) → compute_histogram rows cols (moved 0 ps m) (moved nan ps d) out ≡ compute_histogram rows cols m d out
    unfolding compute_histogram first_of answer or_refused
    curve-same out =
        rw (moved-pixels ps n o m d e f, named_moved ps n o rows cols m d e f, mark_moved ps n o m e, decibel_moved ps n o (pixels m d) (pixels-size ps n o m d e f))
        (each_alike ◌≡◌ (λ k. refl) (sides_refused rows cols) (lengths_refused rows cols m d || unlike out 4096) (marks_refused m) (decibels_refused (pixels m d)) (λ g. ap done (sym (band-curve g))))

-- ---- a picture

module _ (ps : List ℕ) (n : ℕ) (o : Order ps n) (choices : PictureChoices) (r : Reorders choices.strategy) where
  abbrev strategy : AutoscaleStrategy
  strategy = choices.strategy

  band_steady : (copol : Bool) (m : List ℕ) (d : List Float) → length m ≡ n → length d ≡ n → AreF64 d → decibels_refused (pixels m d) ≡ false →
      Steady (win strategy copol (moved off ps (pixels m d))) (win strategy copol (pixels m d))
  unfolding statistics_of summary_of
  band_steady copol m d e f h g = steady_sym (window_steady strategy r.0 copol _ _ (band_numbers ps n o m d e f h nowhere nowhere g))
    where
      steady_sym : {w w' : _} → Steady w w' → Steady w' w
      steady_sym s = record { paints = λ depth p. sym (s.paints depth p) }

  -- reply, greys and colours of the reordered scene are those of the scene, moved
  reordered : (rows cols : ℕ) (m1 : List ℕ) (d1 : List Float) (m2 : List ℕ) (d2 : List Float) (lent : Lent) →
      length m1 ≡ n → length d1 ≡ n → length m2 ≡ n → length d2 ≡ n → AreF64 d1 → AreF64 d2 →
      synthetic_rgb_picture_copol choices rows cols (moved 0 ps m1) (moved nan ps d1) (moved 0 ps m2) (moved nan ps d2) lent
      ≡ moved_picture ps (synthetic_rgb_picture_copol choices rows cols m1 d1 m2 d2 lent)
  reordered rows cols m1 d1 m2 d2 lent em1 ed1 em2 ed2 f1 f2 =
      reordered_picture ps n o choices (not_clahe strategy r.1) rows cols m1 d1 m2 d2 lent em1 ed1 em2 ed2 (band_steady (first_is_copol choices.copol) m1 d1 em1 ed1 f1) (band_steady (second_is_copol choices.copol) m2 d2 em2 ed2 f2)

-- ---- in bytes

-- red, green, blue
part : ℕ → Rgb → ℕ
part zero c = c.r
part (suc zero) c = c.g
part (suc (suc k)) c = c.b

-- the bytes of pixel i
byte_at : (k : ℕ) → k < 3 → (cs : List Rgb) (i j : ℕ) → j ≡ 3 * i + k → get_or (bytes_of cs) j 0 ≡ part k (get_or cs i dark)
unfolding bytes_of part
byte_at zero l [] i j e = refl
byte_at (suc zero) l [] i j e = refl
byte_at (suc (suc k)) l [] i j e = refl
byte_at k l (c ∷ cs) zero j e = ap (λ (n : ℕ). get_or (bytes_of (c ∷ cs)) n 0) (e ∙ zero-add k) ∙ here k l
  where
    here : (k : ℕ) → k < 3 → get_or (bytes_of (c ∷ cs)) k 0 ≡ part k c
    here zero l = refl
    here (suc zero) l = refl
    here (suc (suc zero)) l = refl
    here (suc (suc (suc k))) l = absurd (omega (arith, l))
byte_at k l (c ∷ cs) (suc i) j e = ap (λ (n : ℕ). get_or (bytes_of (c ∷ cs)) n 0) (next j i e) ∙ byte_at k l cs i (3 * i + k) refl
  where
    next : (j i : ℕ) → j ≡ 3 * suc i + k → j ≡ suc (suc (suc (3 * i + k)))
    next j i e = omega arith

triple : {a a' b b' c c' : ℕ} {xs ys : List ℕ} → a ≡ a' → b ≡ b' → c ≡ c' → xs ≡ ys → (a ∷ b ∷ c ∷ xs) ≡ (a' ∷ b' ∷ c' ∷ ys)
triple e f g h = λ i. e i ∷ f i ∷ g i ∷ h i

bytes-moved : (ps : List ℕ) (cs : List Rgb) → bytes_of (moved dark ps cs) ≡ moved_triples ps (bytes_of cs)
unfolding bytes_of moved_triples part
bytes-moved [] cs = refl
bytes-moved (i ∷ ps) cs =
    triple (sym (byte_at 0 (lit< tt) cs i (3 * i) (sym (add-zero (3 * i))))) (sym (byte_at 1 (lit< tt) cs i (3 * i + 1) refl))
    (sym (byte_at 2 (lit< tt) cs i (3 * i + 2) refl)) (bytes-moved ps cs)

in_bytes : (ps : List ℕ) (a b : Answer Picture) → b ≡ moved_picture ps a → MovedBy ps a b
unfolding moved_picture
in_bytes ps (refused k) b e = subst (MovedBy ps (refused k)) (sym e) (same_refusal k)
in_bytes ps (done p) b e = subst (MovedBy ps (done p)) (sym e) (both_done refl refl (bytes-moved ps p.colours))

pub reordering : Reordering
reordering =
    record {
      picture = λ choices r rows cols m1 d1 m2 d2 lent n em1 ed1 em2 ed2 f1 f2 ps o.
          in_bytes ps _ _ (reordered ps n o choices r rows cols m1 d1 m2 d2 lent em1 ed1 em2 ed2 f1 f2);
      bins = λ rows cols m d n e f h ps o. bins-same ps n o m d e f h rows cols;
      curve = λ rows cols m d out n e f h ps o. curve-same ps n o m d e f h rows cols out;
      equation = λ choices r rows cols m1 d1 m2 d2 lent n em1 ed1 em2 ed2 f1 f2 ps o. reordered ps n o choices r rows cols m1 d1 m2 d2 lent em1 ed1 em2 ed2 f1 f2;
    }
