-- Comparing what was computed. Definitions only.
use Rattle.std.specs.Prelude.{ℕ, Bool, true, false, ◌&&◌, List, [], ◌∷◌, ◌++◌, map, eqb, Float}
use Rattle.std.specs.Float.{binary32, binary64}
use Rattle.std.specs.Float.Ieee.{to_bits, of_bits}
use Rattle.types.specs.declared.AutoscaleStrategy.{AutoscaleStrategy}
use Rattle.types.specs.declared.AutoscaleStrategy.TheVariants.{Standard, Robust, Adaptive, Equalized, Clahe, Tamed, Default}
use Rattle.types.specs.declared.HistogramStats.{HistogramStats}
use Rattle.spec.specs.Answer.{Answer, refused, done}
use Rattle.spec.specs.Window.{window_of, window_floats}
use Rattle.types.specs.declared.Lent.{Lent}
use Rattle.spec.specs.Picture.{Picture}
use Rattle.spec.specs.Colour.{bytes_of}

-- equal lists of numbers
abbrev pub same : List ℕ → List ℕ → Bool
same [] [] = true
same [] (y ∷ ys) = false
same (x ∷ xs) [] = false
same (x ∷ xs) (y ∷ ys) = eqb x y && same xs ys

-- f64s from their bits
abbrev pub floats : List ℕ → List Float
floats xs = map (of_bits binary64) xs

-- f32s from their bits
abbrev pub floats32 : List ℕ → List Float
floats32 xs = map (of_bits binary32) xs

-- an answer as 0 and its numbers, or a refusal's number
abbrev pub bytes : Answer (List ℕ) → List ℕ
bytes (refused k) = k ∷ []
bytes (done xs) = 0 ∷ xs

-- f32s as their bits
abbrev pub words : Answer (List Float) → List ℕ
words (refused k) = k ∷ []
words (done xs) = 0 ∷ map (to_bits binary32) xs

-- a record as its count and fifteen bit patterns, which the Rust has
abbrev pub stat_answer : Answer HistogramStats → List ℕ
stat_answer (refused k) = k ∷ []
stat_answer (done s) =
    0 ∷ s.valid_count ∷ map (to_bits binary64)
    (s.min_db ∷ s.max_db ∷ s.mean_db ∷ s.std_db ∷ s.median_db ∷ s.p01 ∷ s.p02 ∷ s.p05 ∷ s.p10 ∷ s.p25
    ∷ s.p75 ∷ s.p90 ∷ s.p95 ∷ s.p98 ∷ s.p99 ∷ [])

-- a window as four bit patterns, a blank one as none
abbrev pub window_bits : Answer (List Float) → List ℕ
window_bits (refused k) = k ∷ []
window_bits (done xs) = 0 ∷ map (to_bits binary64) xs

-- the windows of all seven strategies from one record
abbrev pub all_windows : HistogramStats → List ℕ
all_windows s =
    let w : AutoscaleStrategy → List ℕ = λ strategy. window_bits (done (window_floats (window_of strategy s))) in
    w Standard ++ w Robust ++ w Adaptive ++ w Equalized ++ w Clahe ++ w Tamed ++ w Default

-- grey 1, grey 2, colours
abbrev pub picture_bytes : Answer Picture → List ℕ
picture_bytes (refused k) = k ∷ []
picture_bytes (done p) = 0 ∷ p.grey1 ++ p.grey2 ++ bytes_of p.colours

-- lengths lent to a picture call
abbrev pub lent : ℕ → ℕ → ℕ → ℕ → Lent
lent a b c w = record { grey1 = a; grey2 = b; rgb = c; work = w }
