-- "A window answer is a window with its floats, or blank, or a refusal (1 to 4 only)." Definitions only.
use Rattle.std.specs.Prelude.{ℕ, Bool, true, false, cond, List, [], ◌∷◌, eqb, Float, Option, Some, None, Result, Ok, Err}
use Rattle.std.specs.Float.{binary64}
use Rattle.std.specs.Float.Ieee.{add, sub, mul, div, lt, ne, of_bits}
use Rattle.types.specs.declared.window.WindowAnswer.{WindowAnswer}
use Rattle.types.specs.declared.window.WindowAnswer.TheVariants.{Window, Blank, Refused}
use Rattle.types.specs.declared.AutoscaleStrategy.{AutoscaleStrategy}
use Rattle.types.specs.declared.AutoscaleStrategy.TheVariants.{Standard, Robust, Adaptive, Equalized, Clahe, Tamed, Default}
use Rattle.types.specs.declared.Clip.{Clip}
use Rattle.types.specs.declared.HistogramStats.{HistogramStats}
use Rattle.types.specs.declared.WindowFloats.{WindowFloats}
use Rattle.types.specs.declared.refusal.Refusal.{Refusal}
use Rattle.types.specs.Replies.{refusal_number}
use Rattle.spec.specs.Floats.{zero64, half64, one64, two64, max_float, min_float, abs_float}
use Rattle.spec.specs.Strategies.{is_tamed}
use Rattle.spec.specs.Answer.{Answer, refused, done, first_of, or_refused}
use Rattle.spec.specs.Pixels.{pixels}
use Rattle.spec.specs.Refusals.{sides_refused, lengths_refused, marks_refused, decibels_refused}
use Rattle.spec.specs.Statistics.{statistics_of}

-- what a strategy decides: the source's (low_clip, high_clip, gamma)
abbrev pub between : Float → Float → Float → Clip
between l h g = record { low = l; high = h; gamma = g }

-- "It names low, high, range = max(high - low, 1.0) and gamma"
unfoldable pub opened : Clip → WindowFloats
opened c = record { low = c.low; high = c.high; range = max_float (sub binary64 c.high c.low) one64; gamma = c.gamma }

-- the gammas
abbrev pub gamma08 : Float
gamma08 = of_bits binary64 0x3fe9_9999_9999_999a

abbrev pub gamma09 : Float
gamma09 = of_bits binary64 0x3fec_cccc_cccc_cccd

abbrev pub gamma11 : Float
gamma11 = of_bits binary64 0x3ff1_9999_9999_999a

-- `autoscale_db_image`'s "ensure valid range": low at least the least, high at most the greatest
unfoldable pub valid_range : HistogramStats → Float → Float → Float → Clip
valid_range s low high gamma = between (max_float low s.min_db) (min_float high s.max_db) gamma

-- the four cases of Standard
-- "spread under 15, gamma 1.1": 20 or 0.8 of the spread, around the median
unfoldable pub low_contrast_clip : HistogramStats → Float → Clip
low_contrast_clip s spread =
    let r = max_float (of_bits binary64 0x4034_0000_0000_0000) (mul binary64 spread (of_bits binary64 0x3fe9_9999_9999_999a)) in
    valid_range s (sub binary64 s.median_db (div binary64 r two64)) (add binary64 s.median_db (div binary64 r two64)) gamma11

-- "else interquartile range under 5, gamma 1.0": 2.5 of it beyond p25 and p75
unfoldable pub outlier : Float → Float
outlier iqr = mul binary64 (of_bits binary64 0x4004_0000_0000_0000) iqr

unfoldable pub heavy_tailed_clip : HistogramStats → Float → Clip
heavy_tailed_clip s iqr = valid_range s (sub binary64 s.p25 (outlier iqr)) (add binary64 s.p75 (outlier iqr)) one64

-- "else spread over 40, gamma 0.9": p02 and p98, at least 0.02 of the spread within
unfoldable pub high_range_clip : HistogramStats → Float → Clip
high_range_clip s spread =
    let margin = mul binary64 (of_bits binary64 0x3f94_7ae1_47ae_147b) spread in
    valid_range s (max_float s.p02 (add binary64 s.min_db margin)) (min_float s.p98 (sub binary64 s.max_db margin)) gamma09

-- "else gamma 1.0"
unfoldable pub normal_clip : HistogramStats → Clip
normal_clip s = valid_range s s.p02 s.p98 one64

-- "Standard, which .. sends to `autoscale_db_image`"
unfoldable pub standard_clip : HistogramStats → Clip
standard_clip s =
    let spread = sub binary64 s.max_db s.min_db in
    let iqr = sub binary64 s.p75 s.p25 in
    cond (lt spread (of_bits binary64 0x402e_0000_0000_0000)) (low_contrast_clip s spread)
    (cond (lt iqr (of_bits binary64 0x4014_0000_0000_0000)) (heavy_tailed_clip s iqr)
    (cond (lt (of_bits binary64 0x4044_0000_0000_0000) spread) (high_range_clip s spread) (normal_clip s)))

unfoldable pub robust_clip : HistogramStats → Clip
robust_clip s =
    let reach = outlier (sub binary64 s.p75 s.p25) in
    between (max_float (max_float (sub binary64 s.p25 reach) s.p01) s.min_db) (min_float (min_float (add binary64 s.p75 reach) s.p99) s.max_db) one64

-- "Adaptive's gammas are 0.9, 1.1, 0.8, 1.0": by skew, then by tail
unfoldable pub skew_factor : HistogramStats → Float
skew_factor s = div binary64 (sub binary64 s.mean_db s.median_db) (max_float (abs_float s.std_db) one64)

unfoldable pub tail_heaviness : HistogramStats → Float
tail_heaviness s = div binary64 (sub binary64 s.p99 s.p95) (max_float (sub binary64 s.p95 s.p75) one64)

unfoldable pub adaptive_clip : HistogramStats → Clip
adaptive_clip s =
    let skew = skew_factor s in
    cond (lt half64 (abs_float skew))
    (cond (lt zero64 skew) (between s.p02 s.p98 gamma09) (between s.p05 s.p95 gamma11))
    (cond (lt two64 (tail_heaviness s)) (between s.p10 s.p90 gamma08) (between s.p05 s.p95 one64))

-- "The strategies are decided as in `autoscale_db_image_advanced`", of a band with a valid pixel
unfoldable pub choose_clip : AutoscaleStrategy → HistogramStats → Clip
choose_clip Standard s = standard_clip s
choose_clip Robust s = robust_clip s
choose_clip Adaptive s = adaptive_clip s
choose_clip Equalized s = between s.p01 s.p99 one64
choose_clip Clahe s = between s.p01 s.p99 one64
choose_clip Tamed s = between s.p25 s.p99 one64
choose_clip Default s = between s.p05 s.p95 one64

-- blank without a valid pixel
abbrev pub open_window : ℕ → Clip → Option WindowFloats
open_window valid c = cond (eqb valid 0) None (Some (opened c))

-- "blank exactly if no refusal applies and no mark is 1"
unfoldable pub window_of : AutoscaleStrategy → HistogramStats → Option WindowFloats
window_of strategy s = open_window s.valid_count (choose_clip strategy s)

-- "The Tamed picture path .. low min(p02, p05) co-pol or p05 cross-pol, high p99"
unfoldable pub tamed_clip : Bool → HistogramStats → Clip
tamed_clip true s = between (min_float s.p02 s.p05) s.p99 one64
tamed_clip false s = between s.p05 s.p99 one64

-- what a strategy decides for a band of a picture
abbrev pub picture_clip : AutoscaleStrategy → Bool → HistogramStats → Clip
picture_clip strategy copol s = cond (is_tamed strategy) (tamed_clip copol s) (choose_clip strategy s)

-- the window that a picture paints a band with
unfoldable pub picture_window : AutoscaleStrategy → Bool → HistogramStats → Option WindowFloats
picture_window strategy copol s = open_window s.valid_count (picture_clip strategy copol s)

-- 6: "whose chosen gamma is not 1.0"; F-1: "for U16 only"
unfoldable pub gamma_refused : Option WindowFloats → Bool
gamma_refused (Some w) = ne w.gamma one64
gamma_refused None = false

-- low, high, range and gamma, or nothing for a blank window
unfoldable pub window_floats : Option WindowFloats → List Float
window_floats (Some w) = w.low ∷ w.high ∷ w.range ∷ w.gamma ∷ []
window_floats None = []

-- document 01's number and values for each case of the window call's answer
unfoldable pub read_window : WindowAnswer → Answer (List Float)
read_window (Window low high range gamma) = done (low ∷ high ∷ range ∷ gamma ∷ [])
read_window Blank = done []
read_window (Refused k) = refused k

-- the same of a window, or what refuses it, that is no answer yet
unfoldable pub read_opened : Result (Option WindowFloats) Refusal → Answer (List Float)
read_opened (Ok w) = done (window_floats w)
read_opened (Err refusal) = refused (refusal_number refusal)

-- the window call: refusals 1 to 4, then the window
unfoldable pub autoscale_window : AutoscaleStrategy → ℕ → ℕ → List ℕ → List Float → Answer (List Float)
autoscale_window strategy rows cols marks db =
    let px = pixels marks db in
    let w = window_of strategy (statistics_of px) in
    or_refused (first_of 1 (sides_refused rows cols ∷ lengths_refused rows cols marks db ∷ marks_refused marks ∷ decibels_refused px ∷ [])) (done (window_floats w))
