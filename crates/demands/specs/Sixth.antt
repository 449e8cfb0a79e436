-- Document 02, F-1: "Number 6 remains for U16 only, so the samples refused by it are done at U8." The calls against their reading before it. Statements
-- only: the proofs are in proofs/.
use Rattle.std.specs.Prelude.{ℕ, ◌≡◌, List, Float}
use Rattle.types.specs.declared.AutoscaleStrategy.{AutoscaleStrategy}
use Rattle.types.specs.declared.Lent.{Lent}
use Rattle.types.specs.declared.SyntheticRgbMode.{SyntheticRgbMode}
use Rattle.spec.specs.Answer.{number}
use Rattle.spec.specs.Grey.{autoscale_db_image_to_u8}
use Rattle.spec.specs.Picture.{synthetic_rgb_picture}
use Rattle.spec.specs.Before.{grey_before, picture_before}

pub record Sixth : Type 0 where
  -- what was not refused with 6 is answered as it was
  pub grey_same :
      (strategy : AutoscaleStrategy) (rows cols : ℕ) (marks : List ℕ) (db : List Float) (out work : ℕ) →
      (number (grey_before strategy rows cols marks db out work) ≡ 6 → ⊥) →
      autoscale_db_image_to_u8 strategy rows cols marks db out work ≡ grey_before strategy rows cols marks db out work
  pub picture_same :
      (strategy : AutoscaleStrategy) (mode : SyntheticRgbMode) (rows cols : ℕ) (marks1 : List ℕ) (db1 : List Float) (marks2 : List ℕ) (db2 : List Float) (lent : Lent) →
      (number (picture_before strategy mode rows cols marks1 db1 marks2 db2 lent) ≡ 6 → ⊥) →
      synthetic_rgb_picture strategy mode rows cols marks1 db1 marks2 db2 lent ≡ picture_before strategy mode rows cols marks1 db1 marks2 db2 lent
  -- what was refused with 6 is done
  pub grey_done :
      (strategy : AutoscaleStrategy) (rows cols : ℕ) (marks : List ℕ) (db : List Float) (out work : ℕ) →
      number (grey_before strategy rows cols marks db out work) ≡ 6 → number (autoscale_db_image_to_u8 strategy rows cols marks db out work) ≡ 0
  pub picture_done :
      (strategy : AutoscaleStrategy) (mode : SyntheticRgbMode) (rows cols : ℕ) (marks1 : List ℕ) (db1 : List Float) (marks2 : List ℕ) (db2 : List Float) (lent : Lent) →
      number (picture_before strategy mode rows cols marks1 db1 marks2 db2 lent) ≡ 6 → number (synthetic_rgb_picture strategy mode rows cols marks1 db1 marks2 db2 lent) ≡ 0
