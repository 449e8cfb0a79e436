-- What the calls answer, by the lists that are lent to them. Definitions only.
use Rattle.std.specs.Prelude.{List, ℕ, Float, length}
use Rattle.types.specs.declared.AutoscaleStrategy.{AutoscaleStrategy}
use Rattle.types.specs.declared.CoPol.TheVariants.{Band1}
use Rattle.types.specs.declared.PictureChoices.{PictureChoices}
use Rattle.types.specs.declared.SyntheticRgbMode.{SyntheticRgbMode}
use Rattle.spec.specs.Answer.{Answer}
use Rattle.spec.specs.Grey.{autoscale_db_image_to_u8, autoscale_db_image_to_u16}
use Rattle.spec.specs.Copol.{synthetic_rgb_picture_copol}
use Rattle.spec.specs.Picture.{Picture}

-- the grey calls
abbrev pub answer_u8 : AutoscaleStrategy → ℕ → ℕ → List ℕ → List Float → List ℕ → List Float → Answer (List ℕ)
answer_u8 strategy rows cols marks db out work = autoscale_db_image_to_u8 strategy rows cols marks db (length out) (length work)

abbrev pub answer_u16 : AutoscaleStrategy → ℕ → ℕ → List ℕ → List Float → List ℕ → List Float → Answer (List ℕ)
answer_u16 strategy rows cols marks db out work = autoscale_db_image_to_u16 strategy rows cols marks db (length out) (length work)

-- the picture call
abbrev pub answer_picture_copol :
    PictureChoices → ℕ → ℕ → List ℕ → List Float → List ℕ → List Float → List ℕ → List ℕ → List ℕ → List Float → Answer Picture
answer_picture_copol choices rows cols marks1 db1 marks2 db2 grey1 grey2 rgb work =
    synthetic_rgb_picture_copol choices rows cols marks1 db1 marks2 db2 (record { grey1 = length grey1; grey2 = length grey2; rgb = length rgb; work = length work })

-- the same with band 1 as co-pol
abbrev pub answer_picture :
    AutoscaleStrategy → SyntheticRgbMode → ℕ → ℕ → List ℕ → List Float → List ℕ → List Float → List ℕ → List ℕ → List ℕ → List Float → Answer Picture
answer_picture strategy mode = answer_picture_copol (record { strategy = strategy; mode = mode; copol = Band1 })
