-- The samples of document 01 hold, each by computation. Assumes nothing.
use mathlib.Core.Path.{refl}
use Rattle.starred.specs.Computing.{computing}
use Rattle.starred.specs.Samples.{Starred, Unstarred}

pub starred : Starred
unfolding computing
starred =
    record {
      ten = refl;
      ten_p05 = refl;
      ten_p95 = refl;
      ten_u8 = refl;
      half_u16 = refl;
      half_u8 = refl;
      one = refl;
      one_all = refl;
      one_u8 = refl;
      one_u16 = refl;
      fourteen_u8 = refl;
      fourteen_u16 = refl;
      fifteen_u8 = refl;
      fifteen_u16 = refl;
      forty_u8 = refl;
      forty_u16 = refl;
      forty_one_u8 = refl;
      forty_one_u16 = refl;
      stretch_012 = refl;
      stretch_777 = refl;
      colour_full = refl;
      colour_red = refl;
      colour_dark = refl;
      above_floor = refl;
      above_full = refl;
      above_red = refl;
      above_dark = refl;
    }

pub unstarred : Unstarred
unfolding computing
unstarred =
    record {
      colour_green = refl;
      above_green = refl;
      four = refl;
      five = refl;
      pad = refl;
      marks = refl;
    }
