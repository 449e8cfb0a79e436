-- Where a percentile stands on the curve of counts. Assumes nothing.
use mathlib.Core.Path.{◌≡◌, refl, sym, ap, ◌∙◌}
use mathlib.Core.Bool.{Bool, true, false, ◌||◌}
use mathlib.Core.List.{List, [], ◌∷◌}
use Prim.Native.Nat.{ℕ, ◌+◌, ◌<◌}
use native.Mathlib.Omega.{arith}
use lib.ListN.{length, get_or, take, replicate}
use lib.Ieee.{Float}
use Rattle.types.specs.declared.BinRank.{BinRank}
use Rattle.types.specs.declared.HistogramStats.{HistogramStats}
use Rattle.spec.specs.Answer.{done, first_of, or_refused, answer}
use Rattle.spec.specs.Lists.{sum_of}
use Rattle.spec.specs.Pixels.{Pixel, pixels, valid_of}
use Rattle.spec.specs.Refusals.{sides_refused, unlike, lengths_refused, marks_refused, decibels_refused}
use Rattle.spec.specs.Moments.{is_flat}
use Rattle.spec.specs.Percentile.{target_of, find_bin, flat_percentile, spread_percentile, estimate_percentile}
use Rattle.spec.specs.Statistics.{gathered, summary, placed_statistics, compute_histogram_stats}
use Rattle.spec.specs.Strongest.{strongest, place_in}
use Rattle.spec.specs.Curve.{curve_of, compute_histogram}
use Rattle.lists.proofs.Replies.{or_left, done-same, done-answer, none_holds, all_clear}
use Rattle.histogram.proofs.Counting.{none-count}
use Rattle.histogram.proofs.Summaries.{flat_filled}
use Rattle.bounds.specs.Ticks.{moments_of, tick, Ticks}
use Rattle.bounds.proofs.Bins.{First, bins-sum, bins-length, target_of-first}
use Rattle.bounds.proofs.Statistics.{none-flat, some}

module _ (px : List Pixel) (p : Float) where
  -- the bin and the rank that the walk over the curve finds
  abbrev found : BinRank
  found = find_bin (target_of p (length (valid_of px))) 0 0 (curve_of px)

  walked : is_flat (moments_of px) ≡ false → ((tick px p).bin ≡ found.bin) × ((tick px p).rank ≡ found.rank)
  unfolding estimate_percentile spread_percentile
  walked e = rw (e, none-count (valid_of px)) (refl, refl)

  first : is_flat (moments_of px) ≡ false → First (target_of p (length (valid_of px))) (curve_of px) found
  unfolding curve_of
  first e = target_of-first p (moments_of px) (valid_of px) (some (valid_of px) e)

  target_is : is_flat (moments_of px) ≡ false → sum_of (take (tick px p).bin (curve_of px)) + (tick px p).rank ≡ target_of p (length (valid_of px))
  target_is e = rw ((walked e).0, (walked e).1) (first e).rank_is

  inside_is : is_flat (moments_of px) ≡ false → (tick px p).rank < get_or (curve_of px) (tick px p).bin 0
  inside_is e =
      let f = first e in
      let b = ap (λ (n : ℕ). get_or (curve_of px) n 0) (walked e).0 in
      omega (arith, f.rank_below, f.size_is, b, (walked e).1)

  flat_is : is_flat (moments_of px) ≡ true → ((tick px p).bin ≡ 0) × ((tick px p).rank ≡ 0)
  unfolding estimate_percentile flat_percentile
  flat_is e = rw e (refl, refl)

-- ---- a flat curve

level_is : (px : List Pixel) → is_flat (moments_of px) ≡ true → curve_of px ≡ length (valid_of px) ∷ replicate 4095 0
unfolding curve_of
level_is px e = sym (flat_filled (moments_of px) (valid_of px) e (replicate 4096 0) refl (length (valid_of px)) refl)

-- ---- the two calls

counted : (cols : ℕ) (px : List Pixel) → sum_of (curve_of px) ≡ (placed_statistics cols px).valid_count
unfolding curve_of placed_statistics summary gathered
counted cols px = bins-sum (moments_of px) (valid_of px) ∙ sym (none-count (valid_of px))

-- where the one is done so is the other, which has the same tests but for the length of the lent list
both : {A B : Type 0} (a b c d : Bool) (x y : A) (z : B) → answer (first_of 1 (a ∷ (b || unlike 4096 4096) ∷ c ∷ d ∷ [])) x ≡ done y →
    (x ≡ y) × (answer (first_of 1 (a ∷ b ∷ c ∷ d ∷ [])) z ≡ done z)
unfolding answer or_refused
both a b c d x y z e =
    let h = done-answer _ x y e in
    let clear = none_holds 0 (a ∷ (b || unlike 4096 4096) ∷ c ∷ d ∷ []) h.0 in
    let none = all_clear 1 (a ∷ b ∷ c ∷ d ∷ []) (clear.0, (or_left b (unlike 4096 4096) clear.1.0, (clear.1.1.0, (clear.1.1.1.0, tt)))) in
    (h.1, ap (λ (k : ℕ). answer k z) none)

module _ (rows cols : ℕ) (marks : List ℕ) (db : List Float) (c : List ℕ) (e : compute_histogram rows cols marks db 4096 ≡ done c) where
  curve_and_record : (curve_of (pixels marks db) ≡ c) × (compute_histogram_stats rows cols marks db ≡ done (placed_statistics cols (pixels marks db)))
  unfolding compute_histogram compute_histogram_stats
  curve_and_record = both (sides_refused rows cols) (lengths_refused rows cols marks db) (marks_refused marks) (decibels_refused (pixels marks db)) _ c _ e

  call_read_is : compute_histogram_stats rows cols marks db ≡ done (gathered (moments_of (pixels marks db)) (place_in cols (strongest (pixels marks db))) (estimate_percentile (moments_of (pixels marks db)) c))
  unfolding curve_of placed_statistics summary
  call_read_is =
      curve_and_record.1 ∙ ap (λ (l : List ℕ). done (gathered (moments_of (pixels marks db)) (place_in cols (strongest (pixels marks db))) (estimate_percentile (moments_of (pixels marks db)) l))) curve_and_record.0

  call_sum_is : (s : HistogramStats) → compute_histogram_stats rows cols marks db ≡ done s → sum_of c ≡ s.valid_count
  call_sum_is s f =
      ap sum_of (sym curve_and_record.0) ∙ counted cols (pixels marks db) ∙ ap (λ (r : HistogramStats). r.valid_count) (done-same _ s (sym curve_and_record.1 ∙ f))

pub ticks : Ticks
unfolding curve_of placed_statistics summary
ticks =
    record {
      target = λ px e p. target_is px p e;
      inside = λ px e p. inside_is px p e;
      flat = λ px e p. flat_is px p e;
      blank = λ px e p. flat_is px p (none-flat (valid_of px) e);
      size = λ px. bins-length (moments_of px) (valid_of px);
      sum = λ px. bins-sum (moments_of px) (valid_of px);
      level = level_is;
      read = λ cols px. refl;
      call_sum = λ rows cols marks db c s e f. call_sum_is rows cols marks db c e s f;
      call_read = call_read_is;
    }
