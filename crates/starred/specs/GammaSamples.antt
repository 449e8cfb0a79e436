-- Document 02, F-1, on numbers and small bands. Statements only: the proofs are in proofs/.
use Rattle.std.specs.Prelude.{ℕ, ◌≡◌, List, [], ◌∷◌, Float}
use Rattle.std.specs.Float.{binary64}
use Rattle.std.specs.Float.Ieee.{of_bits}
use Rattle.types.specs.declared.AutoscaleStrategy.TheVariants.{Standard}
use Rattle.spec.specs.Floats.{of_count, half64}
use Rattle.spec.specs.Answer.{done, refused}
use Rattle.spec.specs.Gamma.{gamma_value}
use Rattle.starred.specs.Samples.{u8, u16}

-- the three gammas at one number: 4/5, 9/10, 11/10
abbrev pub three : Float → List ℕ
three t = gamma_value 4 5 t ∷ gamma_value 9 10 t ∷ gamma_value 11 10 t ∷ []

pub record GammaSamples : Type 0 where
  -- "the largest whole k of 0..255 with k^q ≤ 255^q × t^p"
  pub half : three half64 ≡ 146 ∷ 136 ∷ 118 ∷ []
  pub one : three (of_count 1) ≡ 255 ∷ 255 ∷ 255 ∷ []
  pub none : three (of_count 0) ≡ 0 ∷ 0 ∷ 0 ∷ []
  -- "(below 0 counts as 0)": -1; and no k is above 255
  pub below : three (of_bits binary64 0xbff0_0000_0000_0000) ≡ 0 ∷ 0 ∷ 0 ∷ []
  pub beyond : three (of_count 2) ≡ 255 ∷ 255 ∷ 255 ∷ []
  -- Standard with gamma 1.1 and with 0.9: "done at U8", 6 at U16
  pub narrow_u8 : u8 Standard (of_count 0 ∷ of_count 7 ∷ of_count 14 ∷ []) ≡ done (0 ∷ 118 ∷ 255 ∷ [])
  pub narrow_u16 : u16 Standard (of_count 0 ∷ of_count 7 ∷ of_count 14 ∷ []) ≡ refused 6
  pub wide_u8 : u8 Standard (of_count 0 ∷ of_count 21 ∷ of_count 42 ∷ []) ≡ done (0 ∷ 136 ∷ 255 ∷ [])
  pub wide_u16 : u16 Standard (of_count 0 ∷ of_count 21 ∷ of_count 42 ∷ []) ≡ refused 6
