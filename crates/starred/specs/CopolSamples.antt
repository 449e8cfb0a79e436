-- Document 02, F-2, on two bands of the decibels 0 to 20 in one row. Statements only: the proofs are in proofs/.
use Rattle.std.specs.Prelude.{Some, None}
use Rattle.std.specs.Prelude.{ℕ, ◌≡◌, List, [], ◌∷◌, map, Float, replicate}
use Rattle.std.specs.Float.{nan}
use Rattle.types.specs.declared.AutoscaleStrategy.{AutoscaleStrategy}
use Rattle.types.specs.declared.AutoscaleStrategy.TheVariants.{Tamed, Default}
use Rattle.types.specs.declared.CoPol.{CoPol}
use Rattle.types.specs.declared.CoPol.TheVariants.{Band1, Band2}
use Rattle.types.specs.declared.SyntheticRgbMode.TheVariants.{Default as Plain}
use Rattle.spec.specs.Answer.{Answer, refused, done, after}
use Rattle.spec.specs.Copol.{synthetic_rgb_picture_copol, synthetic_rgb_windows}
use Rattle.spec.specs.Floats.{of_count, one64}
use Rattle.spec.specs.Picture.{Picture}

abbrev pub rising : List Float
rising = map of_count (0 ∷ 1 ∷ 2 ∷ 3 ∷ 4 ∷ 5 ∷ 6 ∷ 7 ∷ 8 ∷ 9 ∷ 10 ∷ 11 ∷ 12 ∷ 13 ∷ 14 ∷ 15 ∷ 16 ∷ 17 ∷ 18 ∷ 19 ∷ 20 ∷ [])

abbrev pub ones : List ℕ
ones = replicate 21 1

-- the picture of that band twice, and its two greys
abbrev pub twice : AutoscaleStrategy → CoPol → Answer Picture
twice s c = synthetic_rgb_picture_copol (record { strategy = s; mode = Plain; copol = c }) 1 21 ones rising ones rising (record { grey1 = 21; grey2 = 21; rgb = 63; work = 0 })

abbrev pub grey1 : AutoscaleStrategy → CoPol → List ℕ
grey1 s c = after (λ p. p.grey1) (twice s c) []

abbrev pub grey2 : AutoscaleStrategy → CoPol → List ℕ
grey2 s c = after (λ p. p.grey2) (twice s c) []

-- from p02 and from p05
abbrev pub from_p02 : List ℕ
from_p02 = 0 ∷ 12 ∷ 25 ∷ 38 ∷ 51 ∷ 63 ∷ 76 ∷ 89 ∷ 102 ∷ 114 ∷ 127 ∷ 140 ∷ 153 ∷ 165 ∷ 178 ∷ 191 ∷ 204 ∷ 216 ∷ 229 ∷ 242 ∷ 255 ∷ []

abbrev pub from_p05 : List ℕ
from_p05 = 0 ∷ 0 ∷ 13 ∷ 26 ∷ 40 ∷ 53 ∷ 67 ∷ 80 ∷ 94 ∷ 107 ∷ 120 ∷ 134 ∷ 147 ∷ 161 ∷ 174 ∷ 187 ∷ 201 ∷ 214 ∷ 228 ∷ 241 ∷ 255 ∷ []

-- from p05 to p95
abbrev pub within_p95 : List ℕ
within_p95 = 0 ∷ 0 ∷ 14 ∷ 28 ∷ 42 ∷ 56 ∷ 70 ∷ 85 ∷ 99 ∷ 113 ∷ 127 ∷ 141 ∷ 155 ∷ 170 ∷ 184 ∷ 198 ∷ 212 ∷ 226 ∷ 240 ∷ 255 ∷ 255 ∷ []

pub record CopolSamples : Type 0 where
  -- "That sets Tamed's two windows": min(p02, p05) for the co-pol band, p05 for the other
  pub first : (grey1 Tamed Band1 ≡ from_p02) × (grey2 Tamed Band1 ≡ from_p05)
  pub second : (grey1 Tamed Band2 ≡ from_p05) × (grey2 Tamed Band2 ≡ from_p02)
  -- "and nothing else"
  pub by_default : (grey1 Default Band1 ≡ within_p95) × (grey1 Default Band2 ≡ within_p95) × (grey2 Default Band1 ≡ within_p95) × (grey2 Default Band2 ≡ within_p95)
  -- the windows: one pixel and a blank band; a bad decibel of band 2
  pub windows :
      synthetic_rgb_windows Tamed Band1 1 1 (1 ∷ []) (of_count 3 ∷ []) (0 ∷ []) (nan ∷ []) ≡ done (record { first = Some (record { low = of_count 3; high = of_count 3; range = one64; gamma = one64 }); second = None })
  pub not_a_number : synthetic_rgb_windows Tamed Band1 1 1 (1 ∷ []) (of_count 3 ∷ []) (1 ∷ []) (nan ∷ []) ≡ refused 4
