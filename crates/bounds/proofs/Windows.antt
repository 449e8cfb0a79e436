-- Low, high and range of every window are within 100,000, and the range is at least 1. Assumes nothing.
use mathlib.Core.Path.{◌≡◌, refl, subst}
use mathlib.Core.Bool.{Bool, true, false, cond}
use Prim.Native.Nat.{ℕ, ◌^◌, ◌≤◌}
use lib.Dec.{T, eqb, lit≤}
use lib.Ieee.{Float, binary64, add, sub, mul, div, lt, le, round, of_int, of_bits}
use Rattle.types.specs.declared.AutoscaleStrategy.{AutoscaleStrategy}
use Rattle.types.specs.declared.AutoscaleStrategy.TheVariants.{Standard, Robust, Adaptive, Equalized, Clahe, Tamed, Default}
use Rattle.types.specs.declared.Clip.{Clip}
use Rattle.types.specs.declared.HistogramStats.{HistogramStats}
use Rattle.spec.specs.Floats.{zero64, half64, one64, two64, of_count, max_float, abs_float}
use Rattle.spec.specs.Window.{between, valid_range, low_contrast_clip, outlier, heavy_tailed_clip, high_range_clip, normal_clip, standard_clip, robust_clip, skew_factor, tail_heaviness, adaptive_clip, tamed_clip, choose_clip, opened, window_of, picture_window, gamma08, gamma09, gamma11}
use Rattle.types.specs.declared.WindowFloats.{WindowFloats}
use Rattle.std.specs.Prelude.{Option, Some, None}
use Rattle.spec.specs.Strategies.{is_tamed}
use Rattle.numeric.proofs.Order.{Number}
use Rattle.numeric.proofs.Picks.{above-max}
use Rattle.numeric.proofs.Within.{Within, within_lit, within_weaken, add-within, sub_within, mul-within, div-one-within, max_float-within, min_float-within, within-le, within_ge}
use Rattle.bounds.specs.Bounds.{Between, BoundedAnswer}
use Rattle.bounds.proofs.Statistics.{Bounded}

-- both ends of a clip
record Limited (n : ℕ) (c : Clip) : Type 0 where
  low_within : Within n c.low
  high_within : Within n c.high

either : (n : ℕ) (b : Bool) (c d : Clip) → Limited n c → Limited n d → Limited n (cond b c d)
either n true c d p q = p
either n false c d p q = q

half_of : (n : ℕ) → n ≤ 2 ^ 53 → (x : Float) → Within n x → Within n (div binary64 x two64)
unfolding of_bits le
half_of n h x w = div-one-within binary64 n h x two64 w tt tt

-- the constants of the rules
twenty : Within 2000 (of_bits binary64 0x4034_0000_0000_0000)
unfolding of_bits
twenty = within_lit 2000 (of_bits binary64 0x4034_0000_0000_0000) tt

eight_tenths : Within 1 (of_bits binary64 0x3fe9_9999_9999_999a)
unfolding of_bits
eight_tenths = within_lit 1 (of_bits binary64 0x3fe9_9999_9999_999a) tt

two_and_half : Within 3 (of_bits binary64 0x4004_0000_0000_0000)
unfolding of_bits
two_and_half = within_lit 3 (of_bits binary64 0x4004_0000_0000_0000) tt

hundredths : Within 1 (of_bits binary64 0x3f94_7ae1_47ae_147b)
unfolding of_bits
hundredths = within_lit 1 (of_bits binary64 0x3f94_7ae1_47ae_147b) tt

module _ (s : HistogramStats) (b : Bounded s) where
  abbrev spread : Float
  spread = sub binary64 s.max_db s.min_db

  abbrev iqr : Float
  iqr = sub binary64 s.p75 s.p25

  spread_within : Within 2000 spread
  spread_within = sub_within binary64 1000 1000 (lit≤ tt) s.max_db s.min_db b.greatest b.least

  iqr_within : Within 4000 iqr
  iqr_within = sub_within binary64 2000 2000 (lit≤ tt) s.p75 s.p25 b.percentiles.p75 b.percentiles.p25

  reach_within : Within 12000 (outlier iqr)
  unfolding outlier
  reach_within = mul-within binary64 3 4000 (lit≤ tt) (of_bits binary64 0x4004_0000_0000_0000) iqr two_and_half iqr_within

  least-within : Within 14000 s.min_db
  least-within = within_weaken s.min_db (lit≤ tt) b.least

  greatest-within : Within 14000 s.max_db
  greatest-within = within_weaken s.max_db (lit≤ tt) b.greatest

  wider : (x : Float) → Within 2000 x → Within 14000 x
  wider x w = within_weaken x (lit≤ tt) w

  valid_range_limited : (low high gamma : Float) → Within 14000 low → Within 14000 high → Limited 14000 (valid_range s low high gamma)
  unfolding valid_range
  valid_range_limited low high gamma p q = record { low_within = max_float-within low s.min_db p least-within; high_within = min_float-within high s.max_db q greatest-within }

  low_contrast_clip_limited : Limited 14000 (low_contrast_clip s spread)
  unfolding low_contrast_clip
  low_contrast_clip_limited =
      let r = max_float (of_bits binary64 0x4034_0000_0000_0000) (mul binary64 spread (of_bits binary64 0x3fe9_9999_9999_999a)) in
      let w : Within 2000 r = max_float-within (of_bits binary64 0x4034_0000_0000_0000) (mul binary64 spread (of_bits binary64 0x3fe9_9999_9999_999a)) twenty
      (mul-within binary64 2000 1 (lit≤ tt) spread (of_bits binary64 0x3fe9_9999_9999_999a) spread_within eight_tenths) in
      let h = half_of 2000 (lit≤ tt) r w in
      valid_range_limited _ _ _
      (within_weaken _ (lit≤ tt) (sub_within binary64 2000 2000 (lit≤ tt) s.median_db (div binary64 r two64) b.percentiles.median h))
      (within_weaken _ (lit≤ tt) (add-within binary64 2000 2000 (lit≤ tt) s.median_db (div binary64 r two64) b.percentiles.median h))

  heavy_tailed_clip_limited : Limited 14000 (heavy_tailed_clip s iqr)
  unfolding heavy_tailed_clip
  heavy_tailed_clip_limited =
      valid_range_limited _ _ _
      (sub_within binary64 2000 12000 (lit≤ tt) s.p25 (outlier iqr) b.percentiles.p25 reach_within)
      (add-within binary64 2000 12000 (lit≤ tt) s.p75 (outlier iqr) b.percentiles.p75 reach_within)

  high_range_clip_limited : Limited 14000 (high_range_clip s spread)
  unfolding high_range_clip
  high_range_clip_limited =
      let margin = mul binary64 (of_bits binary64 0x3f94_7ae1_47ae_147b) spread in
      let m : Within 2000 margin = mul-within binary64 1 2000 (lit≤ tt) (of_bits binary64 0x3f94_7ae1_47ae_147b) spread hundredths spread_within in
      valid_range_limited _ _ _
      (max_float-within s.p02 (add binary64 s.min_db margin) (wider s.p02 b.percentiles.p02) (within_weaken _ (lit≤ tt) (add-within binary64 1000 2000 (lit≤ tt) s.min_db margin b.least m)))
      (min_float-within s.p98 (sub binary64 s.max_db margin) (wider s.p98 b.percentiles.p98) (within_weaken _ (lit≤ tt) (sub_within binary64 1000 2000 (lit≤ tt) s.max_db margin b.greatest m)))

  normal_clip_limited : Limited 14000 (normal_clip s)
  unfolding normal_clip
  normal_clip_limited = valid_range_limited s.p02 s.p98 one64 (wider s.p02 b.percentiles.p02) (wider s.p98 b.percentiles.p98)

  standard_clip_limited : Limited 14000 (standard_clip s)
  unfolding standard_clip
  standard_clip_limited =
      either 14000 (lt spread (of_bits binary64 0x402e_0000_0000_0000)) _ _ low_contrast_clip_limited (either 14000 (lt iqr (of_bits binary64 0x4014_0000_0000_0000)) _ _ heavy_tailed_clip_limited
      (either 14000 (lt (of_bits binary64 0x4044_0000_0000_0000) spread) _ _ high_range_clip_limited normal_clip_limited))

  robust_clip_limited : Limited 14000 (robust_clip s)
  unfolding robust_clip
  robust_clip_limited =
      record {
        low_within = max_float-within _ s.min_db (max_float-within _ s.p01 (sub_within binary64 2000 12000 (lit≤ tt) s.p25 (outlier iqr) b.percentiles.p25 reach_within) (wider s.p01 b.percentiles.p01)) least-within;
        high_within = min_float-within _ s.max_db (min_float-within _ s.p99 (add-within binary64 2000 12000 (lit≤ tt) s.p75 (outlier iqr) b.percentiles.p75 reach_within) (wider s.p99 b.percentiles.p99)) greatest-within;
      }

  ends_limited : (low high gamma : Float) → Within 2000 low → Within 2000 high → Limited 14000 (between low high gamma)
  ends_limited low high gamma p q = record { low_within = wider low p; high_within = wider high q }

  adaptive_clip_limited : Limited 14000 (adaptive_clip s)
  unfolding adaptive_clip
  adaptive_clip_limited =
      either 14000 (lt half64 (abs_float (skew_factor s))) _ _
      (either 14000 (lt zero64 (skew_factor s)) _ _ (ends_limited _ _ gamma09 b.percentiles.p02 b.percentiles.p98) (ends_limited _ _ gamma11 b.percentiles.p05 b.percentiles.p95))
      (either 14000 (lt two64 (tail_heaviness s)) _ _ (ends_limited _ _ gamma08 b.percentiles.p10 b.percentiles.p90) (ends_limited _ _ one64 b.percentiles.p05 b.percentiles.p95))

  choose_clip_limited : (strategy : AutoscaleStrategy) → Limited 14000 (choose_clip strategy s)
  unfolding choose_clip
  choose_clip_limited Standard = standard_clip_limited
  choose_clip_limited Robust = robust_clip_limited
  choose_clip_limited Adaptive = adaptive_clip_limited
  choose_clip_limited Equalized = ends_limited _ _ one64 b.percentiles.p01 b.percentiles.p99
  choose_clip_limited Clahe = ends_limited _ _ one64 b.percentiles.p01 b.percentiles.p99
  choose_clip_limited Tamed = ends_limited _ _ one64 b.percentiles.p25 b.percentiles.p99
  choose_clip_limited Default = ends_limited _ _ one64 b.percentiles.p05 b.percentiles.p95

  tamed_clip_limited : (copol : Bool) → Limited 14000 (tamed_clip copol s)
  unfolding tamed_clip
  tamed_clip_limited true = ends_limited _ _ one64 (min_float-within s.p02 s.p05 b.percentiles.p02 b.percentiles.p05) b.percentiles.p99
  tamed_clip_limited false = ends_limited _ _ one64 b.percentiles.p05 b.percentiles.p99

-- ---- the windows

pub ends : (n : ℕ) → n ≤ 2 ^ 53 → (x : Float) → Within n x → Between n x
ends n l x w = (within_ge binary64 n l x w, within-le binary64 n l x w)

one_number : Number one64
unfolding of_bits
one_number = tt

one-within : Within 28000 one64
unfolding of_bits
one-within = within_lit 28000 one64 tt

one_is : one64 ≡ of_count 1
unfolding of_bits of_int round
one_is = refl

limited_window : (c : Clip) → Limited 14000 c → BoundedAnswer (Some (opened c))
unfolding opened
limited_window c l =
    let range = max_float (sub binary64 c.high c.low) one64 in
    let w = max_float-within (sub binary64 c.high c.low) one64 (sub_within binary64 14000 14000 (lit≤ tt) c.high c.low l.high_within l.low_within) one-within in
    record {
      low_bounded = ends _ (lit≤ tt) c.low (within_weaken c.low (lit≤ tt) l.low_within);
      high_bounded = ends _ (lit≤ tt) c.high (within_weaken c.high (lit≤ tt) l.high_within);
      range_bounded = ends _ (lit≤ tt) range (within_weaken range (lit≤ tt) w);
      range_least = subst (λ (z : Float). T (le z range)) one_is (above-max (sub binary64 c.high c.low) one64 one_number);
    }

blank_or : (b : Bool) (w : Option WindowFloats) → BoundedAnswer w → BoundedAnswer (cond b None w)
blank_or true w o = tt
blank_or false w o = o

pub window_bounded : (strategy : AutoscaleStrategy) (s : HistogramStats) → Bounded s → BoundedAnswer (window_of strategy s)
unfolding window_of
window_bounded strategy s b = blank_or (eqb s.valid_count 0) (Some (opened (choose_clip strategy s))) (limited_window (choose_clip strategy s) (choose_clip_limited s b strategy))

pub picture-window_bounded : (strategy : AutoscaleStrategy) (copol : Bool) (s : HistogramStats) → Bounded s → BoundedAnswer (picture_window strategy copol s)
unfolding picture_window
picture-window_bounded strategy copol s b =
    let c = cond (is_tamed strategy) (tamed_clip copol s) (choose_clip strategy s) in
    blank_or (eqb s.valid_count 0) (Some (opened c)) (limited_window c (either 14000 (is_tamed strategy) _ _ (tamed_clip_limited s b copol) (choose_clip_limited s b strategy)))
