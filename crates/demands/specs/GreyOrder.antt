-- Demand 3: "Nobody who compares two valid pixels of one band outside Clahe finds the larger decibel with the smaller grey."
-- Statements only: the proofs are in proofs/.
use Rattle.std.specs.Prelude.{ℕ, ◌≤◌, ◌≡◌, List, T, get_or, Float}
use Rattle.std.specs.Float.{nan}
use Rattle.std.specs.Float.Ieee.{le}
use Rattle.types.specs.declared.AutoscaleStrategy.{AutoscaleStrategy}
use Rattle.types.specs.declared.AutoscaleStrategy.TheVariants.{Clahe}
use Rattle.types.specs.declared.PictureChoices.{PictureChoices}
use Rattle.spec.specs.Answer.{done}
use Rattle.spec.specs.Grey.{autoscale_db_image_to_u8, autoscale_db_image_to_u16}
use Rattle.types.specs.declared.Lent.{Lent}
use Rattle.spec.specs.Copol.{synthetic_rgb_picture_copol}
use Rattle.spec.specs.Picture.{Picture}

-- "outside Clahe"
abbrev pub OutsideClahe : AutoscaleStrategy → Type 0
OutsideClahe strategy = strategy ≡ Clahe → ⊥

-- of any two places with mark 1, the one with the larger dB has no smaller grey; equal dB, equal grey. A place beyond the list has mark 0 here.
abbrev pub Ranked : List ℕ → List Float → List ℕ → Type 0
Ranked marks db greys =
    (i j : ℕ) → get_or marks i 0 ≡ 1 → get_or marks j 0 ≡ 1 → T (le (get_or db i nan) (get_or db j nan)) → get_or greys i 0 ≤ get_or greys j 0

-- "That holds for every call that turns decibels into greys and is done, at 8 or 16 bits."
pub record GreyOrder : Type 0 where
  pub at_8_bits :
      (strategy : AutoscaleStrategy) → OutsideClahe strategy → (rows cols : ℕ) (marks : List ℕ) (db : List Float) (out work : ℕ) (greys : List ℕ) →
      autoscale_db_image_to_u8 strategy rows cols marks db out work ≡ done greys → Ranked marks db greys
  pub at_16_bits :
      (strategy : AutoscaleStrategy) → OutsideClahe strategy → (rows cols : ℕ) (marks : List ℕ) (db : List Float) (out work : ℕ) (greys : List ℕ) →
      autoscale_db_image_to_u16 strategy rows cols marks db out work ≡ done greys → Ranked marks db greys
  -- whichever band is co-pol
  pub picture :
      (choices : PictureChoices) → OutsideClahe choices.strategy → (rows cols : ℕ) (marks1 : List ℕ) (db1 : List Float) (marks2 : List ℕ) (db2 : List Float)
      (lent : Lent) (p : Picture) →
      synthetic_rgb_picture_copol choices rows cols marks1 db1 marks2 db2 lent ≡ done p → Ranked marks1 db1 p.grey1 × Ranked marks2 db2 p.grey2
