-- A chosen gamma is one of four. Assumes nothing.
use mathlib.Core.Path.{◌≡◌, refl}
use mathlib.Core.Bool.{Bool, true, false, cond}
use Prim.Native.Nat.{ℕ}
use lib.Dec.{eqb}
use lib.Ieee.{Float, binary64, sub, lt, eq, of_bits}
use Rattle.types.specs.declared.AutoscaleStrategy.{AutoscaleStrategy}
use Rattle.types.specs.declared.AutoscaleStrategy.TheVariants.{Standard, Robust, Adaptive, Equalized, Clahe, Tamed, Default}
use Rattle.types.specs.declared.Clip.{Clip}
use Rattle.types.specs.declared.HistogramStats.{HistogramStats}
use Rattle.types.specs.declared.WindowFloats.{WindowFloats}
use Rattle.std.specs.Prelude.{Option, Some, None}
use Rattle.spec.specs.Strategies.{is_tamed}
use Rattle.spec.specs.Floats.{zero64, half64, one64, two64, abs_float}
use Rattle.spec.specs.Window.{gamma08, gamma09, gamma11, between, valid_range, low_contrast_clip, heavy_tailed_clip, high_range_clip, normal_clip, standard_clip, robust_clip, skew_factor, tail_heaviness, adaptive_clip, choose_clip, tamed_clip, picture_clip, opened, open_window, window_of, picture_window}
use Rattle.gamma.specs.Gammas.{is_gamma, usual, Gammas}

-- exactly one of the four constants
pub data Chosen : Float → Type 0 where
  eight : Chosen gamma08
  nine : Chosen gamma09
  eleven : Chosen gamma11
  one : Chosen one64

of_standard : (s : HistogramStats) (x y : Float) (a b c : Bool) →
    Chosen (cond a (low_contrast_clip s x) (cond b (heavy_tailed_clip s y) (cond c (high_range_clip s x) (normal_clip s)))).gamma
unfolding low_contrast_clip heavy_tailed_clip high_range_clip normal_clip valid_range
of_standard s x y true b c = eleven
of_standard s x y false true c = one
of_standard s x y false false true = nine
of_standard s x y false false false = one

standard : (s : HistogramStats) → Chosen (standard_clip s).gamma
unfolding standard_clip
standard s =
    let spread = sub binary64 s.max_db s.min_db in
    let iqr = sub binary64 s.p75 s.p25 in
    of_standard s spread iqr (lt spread (of_bits binary64 0x402e_0000_0000_0000)) (lt iqr (of_bits binary64 0x4014_0000_0000_0000)) (lt (of_bits binary64 0x4044_0000_0000_0000) spread)

of_adaptive : (s : HistogramStats) (a b c : Bool) →
    Chosen (cond a (cond b (between s.p02 s.p98 gamma09) (between s.p05 s.p95 gamma11)) (cond c (between s.p10 s.p90 gamma08) (between s.p05 s.p95 one64))).gamma
of_adaptive s true true c = nine
of_adaptive s true false c = eleven
of_adaptive s false b true = eight
of_adaptive s false b false = one

adaptive : (s : HistogramStats) → Chosen (adaptive_clip s).gamma
unfolding adaptive_clip
adaptive s = of_adaptive s (lt half64 (abs_float (skew_factor s))) (lt zero64 (skew_factor s)) (lt two64 (tail_heaviness s))

chosen : (strategy : AutoscaleStrategy) (s : HistogramStats) → Chosen (choose_clip strategy s).gamma
unfolding choose_clip robust_clip
chosen Standard s = standard s
chosen Robust s = one
chosen Adaptive s = adaptive s
chosen Equalized s = one
chosen Clahe s = one
chosen Tamed s = one
chosen Default s = one

pictured : (strategy : AutoscaleStrategy) (copol : Bool) (s : HistogramStats) → Chosen (picture_clip strategy copol s).gamma
unfolding tamed_clip
pictured strategy copol s = go (is_tamed strategy) copol
  where
    go : (t copol : Bool) → Chosen (cond t (tamed_clip copol s) (choose_clip strategy s)).gamma
    go true true = one
    go true false = one
    go false copol = chosen strategy s

-- what holds of the four holds of a window
module _ (P : Option WindowFloats → Type 0) (blank : P None) (opens : (c : Clip) → Chosen c.gamma → P (Some (opened c))) where
  of_clip : (valid : ℕ) (c : Clip) → Chosen c.gamma → P (open_window valid c)
  of_clip valid c h = go (eqb valid 0)
    where
      go : (b : Bool) → P (cond b None (Some (opened c)))
      go true = blank
      go false = opens c h

  pub of_window : (strategy : AutoscaleStrategy) (s : HistogramStats) → P (window_of strategy s)
  unfolding window_of
  of_window strategy s = of_clip s.valid_count (choose_clip strategy s) (chosen strategy s)

  pub of_picture : (strategy : AutoscaleStrategy) (copol : Bool) (s : HistogramStats) → P (picture_window strategy copol s)
  unfolding picture_window
  of_picture strategy copol s = of_clip s.valid_count (picture_clip strategy copol s) (pictured strategy copol s)

is_gamma_lem : (g : Float) → Chosen g → is_gamma g ≡ true
unfolding is_gamma eq of_bits
is_gamma_lem g eight = refl
is_gamma_lem g nine = refl
is_gamma_lem g eleven = refl
is_gamma_lem g one = refl

opened-usual : (c : Clip) → Chosen c.gamma → usual (Some (opened c)) ≡ true
unfolding usual opened
opened-usual c h = is_gamma_lem c.gamma h

blank-usual : usual None ≡ true
unfolding usual
blank-usual = refl

pub gammas : Gammas
gammas =
    record {
      grey = of_window (λ w. usual w ≡ true) blank-usual opened-usual;
      picture = of_picture (λ w. usual w ≡ true) blank-usual opened-usual;
    }
