-- An alteration leaves the pixels as they are, and the calls see nothing else of dB and marks. Assumes nothing.
use mathlib.Core.Path.{◌≡◌, ap}
use mathlib.Core.Bool.{◌||◌}
use mathlib.Core.List.{List}
use Prim.Native.Nat.{ℕ, ◌*◌}
use lib.ListN.{length}
use lib.Ieee.{Float}
use Rattle.spec.specs.Altered.{Altered}
use Rattle.spec.specs.Refusals.{unlike, lengths_refused}
use Rattle.spec.specs.Statistics.{compute_histogram_stats}
use Rattle.spec.specs.Curve.{compute_histogram}
use Rattle.spec.specs.Window.{autoscale_window}
use Rattle.spec.specs.Grey.{autoscale_db_image_to_u8, autoscale_db_image_to_u16, grey_tests}
use Rattle.spec.specs.Copol.{synthetic_rgb_picture_copol, synthetic_rgb_windows}
use Rattle.spec.specs.Picture.{picture_tests}
use Rattle.raster.proofs.Alteration.{same-pixels}
use Rattle.demands.specs.Alteration.{Alteration}

same_named : (rows cols : ℕ) (m : List ℕ) (d d' : List Float) → Altered m d d' → lengths_refused rows cols m d ≡ lengths_refused rows cols m d'
unfolding lengths_refused
same_named rows cols m d d' a = ap (λ (n : ℕ). unlike n (rows * cols) || unlike (length m) (rows * cols)) a.sized

pub alteration : Alteration
unfolding compute_histogram_stats compute_histogram autoscale_window autoscale_db_image_to_u8 autoscale_db_image_to_u16 grey_tests synthetic_rgb_picture_copol synthetic_rgb_windows picture_tests
alteration =
    record {
      statistics = λ rows cols m d d' a. cc (same-pixels m d d' a, same_named rows cols m d d' a);
      histogram = λ rows cols m d d' out a. cc (same-pixels m d d' a, same_named rows cols m d d' a);
      window = λ strategy rows cols m d d' a. cc (same-pixels m d d' a, same_named rows cols m d d' a);
      at_8_bits = λ strategy rows cols m d d' out work a. cc (same-pixels m d d' a, same_named rows cols m d d' a);
      at_16_bits = λ strategy rows cols m d d' out work a. cc (same-pixels m d d' a, same_named rows cols m d d' a);
      picture = λ choices rows cols m1 d1 d1' m2 d2 d2' lent a b.
          cc (same-pixels m1 d1 d1' a, same-pixels m2 d2 d2' b, same_named rows cols m1 d1 d1' a, same_named rows cols m2 d2 d2' b);
      windows = λ strategy copol rows cols m1 d1 d1' m2 d2 d2' a b.
          cc (same-pixels m1 d1 d1' a, same-pixels m2 d2 d2' b, same_named rows cols m1 d1 d1' a, same_named rows cols m2 d2 d2' b);
    }
