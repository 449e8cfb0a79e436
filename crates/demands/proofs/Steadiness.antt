-- Statistics that are the same numbers outside mean and deviation give windows that paint alike, in every strategy but Adaptive. Assumes nothing.
use mathlib.Core.Path.{◌≡◌, refl, sym, ap, ap₂, ◌∙◌, subst}
use mathlib.Core.Bool.{Bool, true, false, cond, true≢false}
use mathlib.Core.List.{List, map, Permᴰ}
use Prim.Native.Nat.{ℕ, min}
use lib.Dec.{T, eqb, leb}
use lib.IntN.{pos}
use lib.Ieee.{Float, fin, binary64, sub, div, lt, of_bits}
use lib.Ieee.Positive.{positive}
use Rattle.types.specs.declared.AutoscaleStrategy.{AutoscaleStrategy}
use Rattle.types.specs.declared.AutoscaleStrategy.TheVariants.{Standard, Robust, Adaptive, Equalized, Clahe, Tamed, Default}
use Rattle.types.specs.declared.BinRank.{BinRank}
use Rattle.types.specs.declared.Clip.{Clip}
use Rattle.types.specs.declared.HistogramStats.{HistogramStats}
use Rattle.types.specs.declared.Moments.{Moments}
use Rattle.types.specs.declared.Percentile.{Percentile}
use Rattle.types.specs.declared.Place.{Place}
use Rattle.types.specs.declared.WindowFloats.{WindowFloats}
use Rattle.std.specs.Prelude.{Option, Some, None}
use Rattle.spec.specs.Floats.{half64, one64, two64, max_float}
use Rattle.spec.specs.Lists.{counts}
use Rattle.spec.specs.Number.{Alike, same, zeros}
use Rattle.spec.specs.Pixels.{Pixel, off, on}
use Rattle.spec.specs.Moments.{flat64, span_of, is_flat}
use Rattle.spec.specs.Bins.{bins64, bin_of, histogram, bins_of}
use Rattle.spec.specs.Percentile.{target_of, find_bin, value_at, flat_percentile, spread_percentile, estimate_percentile}
use Rattle.spec.specs.Statistics.{gathered, summary}
use Rattle.spec.specs.Strategies.{is_tamed}
use Rattle.spec.specs.Gamma.{BitDepth, U8, U16, over, under, curve, curved, grey_value}
use Rattle.spec.specs.Value.{full8, full16, normalized, value_of, paint}
use Rattle.gamma.proofs.Laws.{gamma_alike}
use Rattle.spec.specs.Window.{valid_range, low_contrast_clip, outlier, heavy_tailed_clip, high_range_clip, normal_clip, standard_clip, robust_clip, choose_clip, tamed_clip, opened, picture_window}
use Rattle.lists.proofs.Counts.{counts_perm}
use Rattle.lists.proofs.Reorder.{perm_map, map_same}
use Rattle.numeric.proofs.Alike.{add_alike, sub_alike, mul_alike, mul_alike_right, div_alike, lt_alike, max_float_alike, min_float_alike, clamp_float_alike, whole_alike, max_float-same}
use Rattle.demands.proofs.Painted.{painter}

-- ---- where a zero's sign ends

-- the bin of a value
bin_alike : (inv : Float) {least least' : Float} → Alike least least' → (v : Float) → bin_of least inv v ≡ bin_of least' inv v
unfolding bin_of
bin_alike inv p v = ap (λ (b : ℕ). min b 4095) (whole_alike (mul_alike bins64 (clamp_float_alike same same (mul_alike inv (sub_alike same p)))))

-- a span that is not flat is no zero
nil_flat : (s : Bool) → lt (fin s 0 (pos 0)) flat64 ≡ true
unfolding lt of_bits
nil_flat true = refl
nil_flat false = refl

spread_same : {x x' : Float} → Alike x x' → lt x flat64 ≡ false → x ≡ x'
spread_same same e = refl
spread_same (zeros s t) e = absurd (true≢false (sym (nil_flat s) ∙ e))

-- the range is at least 1
one_positive : T (positive one64)
unfolding of_bits
one_positive = tt

range_alike : {low low' high high' : Float} → Alike low low' → Alike high high' → max_float (sub binary64 high low) one64 ≡ max_float (sub binary64 high' low') one64
range_alike p q = max_float-same one64 one_positive (sub_alike q p)

-- the value of a pixel
value_alike : (full range v : Float) {low low' high high' : Float} → Alike low low' → Alike high high' →
    value_of full low high range v ≡ value_of full low' high' range v
unfolding value_of normalized
value_alike full range v p q = whole_alike (clamp_float_alike same same (mul_alike full (div_alike range (sub_alike (clamp_float_alike p q same) p))))

grey_alike : (depth : BitDepth) (gamma range v : Float) {low low' high high' : Float} → Alike low low' → Alike high high' →
    grey_value depth gamma low high range v ≡ grey_value depth gamma low' high' range v
unfolding grey_value curved normalized
grey_alike U8 gamma range v p q =
    ap₂ (λ (x y : ℕ). cond (leb 3 (curve gamma)) x y) (value_alike full8 range v p q)
    (gamma_alike (over (curve gamma)) (under (curve gamma)) (div_alike range (sub_alike (clamp_float_alike p q same) p)))
grey_alike U16 gamma range v p q = value_alike full16 range v p q

-- ---- statistics

-- the same numbers: mean and deviation may differ
pub record SameMoments (s s' : Moments) : Type 0 where
  pub count : s.count ≡ s'.count
  pub least : Alike s.min_db s'.min_db
  pub greatest : Alike s.max_db s'.max_db

pub record SameNumbers (s s' : HistogramStats) : Type 0 where
  pub count : s.valid_count ≡ s'.valid_count
  pub least : Alike s.min_db s'.min_db
  pub greatest : Alike s.max_db s'.max_db
  pub median : Alike s.median_db s'.median_db
  pub p01 : Alike s.p01 s'.p01
  pub p02 : Alike s.p02 s'.p02
  pub p05 : Alike s.p05 s'.p05
  pub p10 : Alike s.p10 s'.p10
  pub p25 : Alike s.p25 s'.p25
  pub p75 : Alike s.p75 s'.p75
  pub p90 : Alike s.p90 s'.p90
  pub p95 : Alike s.p95 s'.p95
  pub p98 : Alike s.p98 s'.p98
  pub p99 : Alike s.p99 s'.p99
  pub p05_bin : s.p05_bin ≡ s'.p05_bin
  pub p95_bin : s.p95_bin ≡ s'.p95_bin

-- the same number in the same bin
record SamePercentile (q q' : Percentile) : Type 0 where
  value : Alike q.value q'.value
  bin : q.bin ≡ q'.bin

-- two choices by one test
pick : {A : Type 0} (R : A → A → Type 0) (t t' : Bool) → t ≡ t' → {a a' b b' : A} → R a a' → (t ≡ false → R b b') → R (cond t a b) (cond t' a' b')
pick R true true e f g = f
pick R false false e f g = g refl
pick R true false e f g = absurd (true≢false e)
pick R false true e f g = absurd (true≢false (sym e))

module _ (s s' : Moments) (h : SameMoments s s') where
  gathered_alike : (place place' : Place) (f f' : Float → Percentile) → ((p : Float) → SamePercentile (f p) (f' p)) → SameNumbers (gathered s place f) (gathered s' place' f')
  unfolding gathered
  gathered_alike place place' f f' a =
      record {
        count = h.count;
        least = h.least;
        greatest = h.greatest;
        median = (a _).value;
        p01 = (a _).value;
        p02 = (a _).value;
        p05 = (a _).value;
        p10 = (a _).value;
        p25 = (a _).value;
        p75 = (a _).value;
        p90 = (a _).value;
        p95 = (a _).value;
        p98 = (a _).value;
        p99 = (a _).value;
        p05_bin = (a _).bin;
        p95_bin = (a _).bin;
      }

  flat_alike : (p : Float) → SamePercentile (flat_percentile s p) (flat_percentile s' p)
  unfolding flat_percentile
  flat_alike p = record { value = pick (lt half64 p); bin = refl }
    where
      pick : (q : Bool) → Alike (cond q s.max_db s.min_db) (cond q s'.max_db s'.min_db)
      pick true = h.greatest
      pick false = h.least

  flat-same : is_flat s ≡ is_flat s'
  unfolding is_flat span_of
  flat-same = lt_alike (sub_alike h.greatest h.least) same

  span_same : is_flat s ≡ false → span_of s ≡ span_of s'
  unfolding is_flat span_of
  span_same e = spread_same (sub_alike h.greatest h.least) e

  -- the bins do not see a zero's sign, and counting does not see the order
  pub bins_alike : {vs vs' : List Float} → Permᴰ vs vs' → bins_of s vs ≡ bins_of s' vs'
  unfolding bins_of histogram
  bins_alike {vs} {vs'} o = pick ◌≡◌ (is_flat s) (is_flat s') flat-same (counts_perm 4096 (perm_map (λ v. 0) o)) spread
    where
      spread : is_flat s ≡ false → counts 4096 (map (bin_of s.min_db (div binary64 one64 (span_of s))) vs) ≡ counts 4096 (map (bin_of s'.min_db (div binary64 one64 (span_of s'))) vs')
      spread e =
          counts_perm 4096 (perm_map (bin_of s.min_db (div binary64 one64 (span_of s))) o)
          ∙ ap (counts 4096) (map_same (bin_of s.min_db (div binary64 one64 (span_of s))) (bin_of s'.min_db (div binary64 one64 (span_of s))) (bin_alike (div binary64 one64 (span_of s)) h.least) vs')
          ∙ ap (λ (x : Float). counts 4096 (map (bin_of s'.min_db (div binary64 one64 x)) vs')) (span_same e)

  spread_alike : (r : BinRank) → is_flat s ≡ false → SamePercentile (spread_percentile s r) (spread_percentile s' r)
  unfolding spread_percentile value_at
  spread_alike r e = record { value = rw (span_same e) (add_alike (add_alike h.least same) same); bin = refl }

  percentile_alike : (hist : List ℕ) (p : Float) → SamePercentile (estimate_percentile s hist p) (estimate_percentile s' hist p)
  unfolding estimate_percentile
  percentile_alike hist p =
      pick SamePercentile (is_flat s) (is_flat s') flat-same (flat_alike p)
      (λ e. subst (λ (n : ℕ). SamePercentile (spread_percentile s (find_bin (target_of p s.count) 0 0 hist)) (spread_percentile s' (find_bin (target_of p n) 0 0 hist))) h.count
      (spread_alike (find_bin (target_of p s.count) 0 0 hist) e))

  -- of two reordered lists of values
  pub summary_alike : (place place' : Place) {vs vs' : List Float} → Permᴰ vs vs' → SameNumbers (summary s place vs) (summary s' place' vs')
  unfolding summary
  summary_alike place place' {vs} {vs'} o =
      subst (λ (hist : List ℕ). SameNumbers (gathered s place (estimate_percentile s (bins_of s vs))) (gathered s' place' (estimate_percentile s' hist))) (bins_alike o)
      (gathered_alike place place' (estimate_percentile s (bins_of s vs)) (estimate_percentile s' (bins_of s vs)) (percentile_alike (bins_of s vs)))

-- ---- windows

pub record SameClip (c c' : Clip) : Type 0 where
  pub low : Alike c.low c'.low
  pub high : Alike c.high c'.high
  pub gamma : c.gamma ≡ c'.gamma

either : (q q' : Bool) {a a' b b' : Clip} → q ≡ q' → SameClip a a' → SameClip b b' → SameClip (cond q a b) (cond q' a' b')
either true true e p r = p
either false false e p r = r
either true false e p r = absurd (true≢false e)
either false true e p r = absurd (true≢false (sym e))

module _ (s s' : HistogramStats) (h : SameNumbers s s') where
  valid_range_alike : (g : Float) {l l' t t' : Float} → Alike l l' → Alike t t' → SameClip (valid_range s l t g) (valid_range s' l' t' g)
  unfolding valid_range
  valid_range_alike g p q = record { low = max_float_alike p h.least; high = min_float_alike q h.greatest; gamma = refl }

  spread : Alike (sub binary64 s.max_db s.min_db) (sub binary64 s'.max_db s'.min_db)
  spread = sub_alike h.greatest h.least

  iqr : Alike (sub binary64 s.p75 s.p25) (sub binary64 s'.p75 s'.p25)
  iqr = sub_alike h.p75 h.p25

  reach : Alike (outlier (sub binary64 s.p75 s.p25)) (outlier (sub binary64 s'.p75 s'.p25))
  unfolding outlier
  reach = mul_alike_right _ iqr

  standard_clip_alike : SameClip (standard_clip s) (standard_clip s')
  unfolding standard_clip low_contrast_clip heavy_tailed_clip high_range_clip normal_clip
  standard_clip_alike =
      let r = max_float_alike same (mul_alike (of_bits binary64 0x3fe9_9999_9999_999a) spread) in
      let margin = mul_alike_right (of_bits binary64 0x3f94_7ae1_47ae_147b) spread in
      either _ _ (lt_alike spread same) (valid_range_alike _ (sub_alike h.median (div_alike two64 r)) (add_alike h.median (div_alike two64 r)))
      (either _ _ (lt_alike iqr same) (valid_range_alike _ (sub_alike h.p25 reach) (add_alike h.p75 reach))
      (either _ _ (lt_alike same spread)
      (valid_range_alike _ (max_float_alike h.p02 (add_alike h.least margin)) (min_float_alike h.p98 (sub_alike h.greatest margin)))
      (valid_range_alike _ h.p02 h.p98)))

  choose_clip_alike : (strategy : AutoscaleStrategy) → (strategy ≡ Adaptive → ⊥) → SameClip (choose_clip strategy s) (choose_clip strategy s')
  unfolding choose_clip robust_clip
  choose_clip_alike Standard n = standard_clip_alike
  choose_clip_alike Robust n =
      record {
        low = max_float_alike (max_float_alike (sub_alike h.p25 reach) h.p01) h.least;
        high = min_float_alike (min_float_alike (add_alike h.p75 reach) h.p99) h.greatest;
        gamma = refl;
      }
  choose_clip_alike Adaptive n = absurd (n refl)
  choose_clip_alike Equalized n = record { low = h.p01; high = h.p99; gamma = refl }
  choose_clip_alike Clahe n = record { low = h.p01; high = h.p99; gamma = refl }
  choose_clip_alike Tamed n = record { low = h.p25; high = h.p99; gamma = refl }
  choose_clip_alike Default n = record { low = h.p05; high = h.p95; gamma = refl }

  tamed_clip_alike : (copol : Bool) → SameClip (tamed_clip copol s) (tamed_clip copol s')
  unfolding tamed_clip
  tamed_clip_alike true = record { low = min_float_alike h.p02 h.p05; high = h.p99; gamma = refl }
  tamed_clip_alike false = record { low = h.p05; high = h.p99; gamma = refl }

-- ---- painting

-- two windows of which one paints as the other
pub record Steady (w w' : Option WindowFloats) : Type 0 where
  pub paints : (depth : BitDepth) (p : Pixel) → painter depth w p ≡ painter depth w' p

opened_alike : (c c' : Clip) → SameClip c c' → Steady (Some (opened c)) (Some (opened c'))
unfolding opened painter paint
opened_alike c c' a = record { paints = paints }
  where
    paints : (depth : BitDepth) (p : Pixel) → painter depth (Some (opened c)) p ≡ painter depth (Some (opened c')) p
    paints depth off = refl
    paints depth (on v) = rw (range_alike a.low a.high, a.gamma) (grey_alike depth c'.gamma _ v a.low a.high)

-- the window that a picture paints a band with
pub window_steady : (strategy : AutoscaleStrategy) → (strategy ≡ Adaptive → ⊥) → (copol : Bool) (s s' : HistogramStats) → SameNumbers s s' →
    Steady (picture_window strategy copol s) (picture_window strategy copol s')
unfolding picture_window
window_steady strategy n copol s s' h =
    none (eqb s.valid_count 0) (eqb s'.valid_count 0) (ap (λ (n : ℕ). eqb n 0) h.count) (opened_alike _ _ (which (is_tamed strategy)))
  where
    which : (t : Bool) → SameClip (cond t (tamed_clip copol s) (choose_clip strategy s)) (cond t (tamed_clip copol s') (choose_clip strategy s'))
    which true = tamed_clip_alike s s' h copol
    which false = choose_clip_alike s s' h strategy n

    none : (t t' : Bool) → t ≡ t' → {w w' : Option WindowFloats} → Steady w w' → Steady (cond t None w) (cond t' None w')
    none true true e k = record { paints = λ depth p. refl }
    none false false e k = k
    none true false e k = absurd (true≢false e)
    none false true e k = absurd (true≢false (sym e))
