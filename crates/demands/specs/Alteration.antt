-- Demand 3: "Nobody who alters decibels under a 0 mark changes any result." Statements only: the proofs are in proofs/.
use Rattle.std.specs.Prelude.{ℕ, ◌≡◌, List, Float}
use Rattle.types.specs.declared.AutoscaleStrategy.{AutoscaleStrategy}
use Rattle.types.specs.declared.CoPol.{CoPol}
use Rattle.types.specs.declared.PictureChoices.{PictureChoices}
use Rattle.spec.specs.Altered.{Altered}
use Rattle.spec.specs.Statistics.{compute_histogram_stats}
use Rattle.spec.specs.Curve.{compute_histogram}
use Rattle.spec.specs.Window.{autoscale_window}
use Rattle.spec.specs.Grey.{autoscale_db_image_to_u8, autoscale_db_image_to_u16}
use Rattle.types.specs.declared.Lent.{Lent}
use Rattle.spec.specs.Copol.{synthetic_rgb_picture_copol, synthetic_rgb_windows}

-- "Whatever is put there, in any strategy, every call given decibels and marks gives the same reply, the same statistics, window, greys and colours."
-- An answer is the refusal with its number, or all that comes with being done: equal answers are equal results, done or refused.
pub record Alteration : Type 0 where
  pub statistics :
      (rows cols : ℕ) (marks : List ℕ) (db db' : List Float) → Altered marks db db' →
      compute_histogram_stats rows cols marks db ≡ compute_histogram_stats rows cols marks db'
  -- document 02, F-6
  pub histogram :
      (rows cols : ℕ) (marks : List ℕ) (db db' : List Float) (out : ℕ) → Altered marks db db' → compute_histogram rows cols marks db out ≡ compute_histogram rows cols marks db' out
  pub window :
      (strategy : AutoscaleStrategy) (rows cols : ℕ) (marks : List ℕ) (db db' : List Float) → Altered marks db db' →
      autoscale_window strategy rows cols marks db ≡ autoscale_window strategy rows cols marks db'
  pub at_8_bits :
      (strategy : AutoscaleStrategy) (rows cols : ℕ) (marks : List ℕ) (db db' : List Float) (out work : ℕ) → Altered marks db db' →
      autoscale_db_image_to_u8 strategy rows cols marks db out work ≡ autoscale_db_image_to_u8 strategy rows cols marks db' out work
  pub at_16_bits :
      (strategy : AutoscaleStrategy) (rows cols : ℕ) (marks : List ℕ) (db db' : List Float) (out work : ℕ) → Altered marks db db' →
      autoscale_db_image_to_u16 strategy rows cols marks db out work ≡ autoscale_db_image_to_u16 strategy rows cols marks db' out work
  -- "in one band or both": a band is an alteration of itself. Whichever band is co-pol
  pub picture :
      (choices : PictureChoices) (rows cols : ℕ) (marks1 : List ℕ) (db1 db1' : List Float) (marks2 : List ℕ) (db2 db2' : List Float) (lent : Lent) →
      Altered marks1 db1 db1' → Altered marks2 db2 db2' →
      synthetic_rgb_picture_copol choices rows cols marks1 db1 marks2 db2 lent ≡ synthetic_rgb_picture_copol choices rows cols marks1 db1' marks2 db2' lent
  -- document 02, F-2: the windows of a picture
  pub windows :
      (strategy : AutoscaleStrategy) (copol : CoPol) (rows cols : ℕ) (marks1 : List ℕ) (db1 db1' : List Float) (marks2 : List ℕ) (db2 db2' : List Float) →
      Altered marks1 db1 db1' →
      Altered marks2 db2 db2' →
      synthetic_rgb_windows strategy copol rows cols marks1 db1 marks2 db2 ≡ synthetic_rgb_windows strategy copol rows cols marks1 db1' marks2 db2'
