-- Without mean and m2 the summary differs in its mean and deviation only, and the bins not at all. Assumes nothing.
use mathlib.Core.Path.{◌≡◌, refl, sym, ap, ◌∙◌}
use mathlib.Core.List.{List, [], ◌∷◌}
use lib.ListN.{length}
use lib.Ieee.{Float}
use Rattle.types.specs.declared.Moments.{Moments}
use Rattle.types.specs.declared.Place.{Place}
use Rattle.spec.specs.Floats.{zero64}
use Rattle.spec.specs.Moments.{no_moments, with_value, moments_from, span_of, is_flat}
use Rattle.spec.specs.Strongest.{nowhere}
use Rattle.spec.specs.Bins.{bins_of}
use Rattle.spec.specs.Percentile.{flat_percentile, spread_percentile, estimate_percentile}
use Rattle.spec.specs.Statistics.{deviation_of, gathered, summary, summary_of}
use Rattle.histogram.specs.Extremes.{with_extreme, extremes_from, meanless, with_mean}
use Rattle.histogram.proofs.Counting.{none-count}

-- ---- the moments

step : (s : Moments) (v : Float) → with_extreme (meanless s) v ≡ meanless (with_value s v)
unfolding with_extreme meanless with_value
step s v = refl

fold : (s : Moments) (vs : List Float) → extremes_from (meanless s) vs ≡ meanless (moments_from s vs)
unfolding extremes_from moments_from
fold s [] = refl
fold s (v ∷ vs) = ap (λ (t : Moments). extremes_from t vs) (step s v) ∙ fold (with_value s v) vs

none : meanless no_moments ≡ no_moments
unfolding meanless no_moments
none = refl

pub extremes_moments : (vs : List Float) → extremes_from no_moments vs ≡ meanless (moments_from no_moments vs)
extremes_moments vs = ap (λ (t : Moments). extremes_from t vs) (sym none) ∙ fold no_moments vs

-- ---- the record

pub summary-meanless : (s : Moments) (place : Place) (vs : List Float) → summary (meanless s) place vs ≡ with_mean zero64 (deviation_of (meanless s)) (summary s place vs)
unfolding summary gathered estimate_percentile flat_percentile spread_percentile bins_of is_flat span_of meanless with_mean
summary-meanless s place vs = refl

-- from the extremes pass
pub summary-extremes : (vs : List Float) → summary (extremes_from no_moments vs) nowhere vs ≡ with_mean zero64 (deviation_of (extremes_from no_moments vs)) (summary_of vs)
unfolding summary_of
summary-extremes vs =
    ap (λ (t : Moments). summary t nowhere vs) (extremes_moments vs) ∙ summary-meanless (moments_from no_moments vs) nowhere vs
    ∙ ap (λ (t : Moments). with_mean zero64 (deviation_of t) (summary (moments_from no_moments vs) nowhere vs)) (sym (extremes_moments vs))

-- ---- the bins

bins-meanless : (s : Moments) (vs : List Float) → bins_of (meanless s) vs ≡ bins_of s vs
unfolding bins_of is_flat span_of meanless
bins-meanless s vs = refl

pub bins-extremes : (vs : List Float) → bins_of (extremes_from no_moments vs) vs ≡ bins_of (moments_from no_moments vs) vs
bins-extremes vs = ap (λ (t : Moments). bins_of t vs) (extremes_moments vs) ∙ bins-meanless (moments_from no_moments vs) vs

-- ---- the count

pub extremes-count : (vs : List Float) → (extremes_from no_moments vs).count ≡ length vs
unfolding meanless
extremes-count vs = ap (λ (t : Moments). t.count) (extremes_moments vs) ∙ none-count vs
