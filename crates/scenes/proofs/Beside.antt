-- Stretch, colours, padding, arithmetic, marks. Written by oracle/vectors; the expected numbers are the Rust's. Closed computations: assumes nothing.
use mathlib.Core.List.{[], ◌∷◌}
use lib.Dec.{T}
use Rattle.types.specs.declared.AutoscaleStrategy.TheVariants.{Clahe, Default}
use Rattle.types.specs.declared.SyntheticRgbMode.TheVariants.{Enhanced}
use Rattle.spec.specs.Stretch.{scale_u16_to_u8}
use Rattle.spec.specs.Colour.{create_synthetic_rgb_by_mode_and_strategy}
use Rattle.spec.specs.Padding.{add_padding_to_square}
use Rattle.spec.specs.Marks.{process_scalar_data_mask}
use Rattle.spec.specs.Ops.{operate_arrays, sum_op, difference_op, ratio_op, log_ratio_op, normalized_diff_op}
use Rattle.starred.specs.Computing.{computing}
use Rattle.scenes.specs.Tests.{same, floats32, bytes, words}

pub stretch_1 : T (same (bytes (scale_u16_to_u8 (0 ∷ 65535 ∷ 1 ∷ 257 ∷ 32768 ∷ []) 5)) (0 ∷ 0 ∷ 255 ∷ 0 ∷ 1 ∷ 128 ∷ []))
unfolding computing
stretch_1 = tt

pub stretch_2 : T (same (bytes (scale_u16_to_u8 (3 ∷ 9 ∷ 5 ∷ 200 ∷ 77 ∷ 31 ∷ []) 6)) (0 ∷ 0 ∷ 8 ∷ 3 ∷ 255 ∷ 96 ∷ 36 ∷ []))
unfolding computing
stretch_2 = tt

pub stretch_3 : T (same (bytes (scale_u16_to_u8 (7 ∷ 7 ∷ []) 2)) (0 ∷ 0 ∷ 0 ∷ []))
unfolding computing
stretch_3 = tt

pub stretch_4 : T (same (bytes (scale_u16_to_u8 ([]) 0)) (0 ∷ []))
unfolding computing
stretch_4 = tt

pub composition_5 : T (same (bytes (create_synthetic_rgb_by_mode_and_strategy Enhanced Default (0 ∷ 3 ∷ 4 ∷ 40 ∷ 41 ∷ 90 ∷ 200 ∷ 255 ∷ []) (255 ∷ 3 ∷ 9 ∷ 12 ∷ 0 ∷ 177 ∷ 41 ∷ 128 ∷ []) 24)) (0 ∷ 0 ∷ 255 ∷ 0 ∷ 11 ∷ 5 ∷ 66 ∷ 14 ∷ 13 ∷ 62 ∷ 70 ∷ 16 ∷ 71 ∷ 71 ∷ 0 ∷ 0 ∷ 123 ∷ 184 ∷ 59 ∷ 215 ∷ 49 ∷ 71 ∷ 255 ∷ 137 ∷ 65 ∷ []))
unfolding computing
composition_5 = tt

pub composition_6 : T (same (bytes (create_synthetic_rgb_by_mode_and_strategy Enhanced Clahe (0 ∷ 3 ∷ 4 ∷ 40 ∷ 41 ∷ 90 ∷ 200 ∷ 255 ∷ []) (255 ∷ 3 ∷ 9 ∷ 12 ∷ 0 ∷ 177 ∷ 41 ∷ 128 ∷ []) 24)) (0 ∷ 0 ∷ 255 ∷ 32 ∷ 0 ∷ 0 ∷ 0 ∷ 0 ∷ 4 ∷ 44 ∷ 28 ∷ 7 ∷ 50 ∷ 29 ∷ 0 ∷ 53 ∷ 75 ∷ 170 ∷ 43 ∷ 192 ∷ 32 ∷ 54 ∷ 255 ∷ 118 ∷ 49 ∷ []))
unfolding computing
composition_6 = tt

pub padding_7 : T (same (bytes (add_padding_to_square 0 2 5 (1000 ∷ 2000 ∷ 3000 ∷ 4000 ∷ 5000 ∷ 6000 ∷ 7000 ∷ 8000 ∷ 9000 ∷ 10000 ∷ []) 25)) (0 ∷ 0 ∷ 0 ∷ 0 ∷ 0 ∷ 0 ∷ 1000 ∷ 2000 ∷ 3000 ∷ 4000 ∷ 5000 ∷ 6000 ∷ 7000 ∷ 8000 ∷ 9000 ∷ 10000 ∷ 0 ∷ 0 ∷ 0 ∷ 0 ∷ 0 ∷ 0 ∷ 0 ∷ 0 ∷ 0 ∷ 0 ∷ []))
unfolding computing
padding_7 = tt

pub padding_8 : T (same (bytes (add_padding_to_square 0 4 1 (1000 ∷ 2000 ∷ 3000 ∷ 4000 ∷ []) 16)) (0 ∷ 0 ∷ 1000 ∷ 0 ∷ 0 ∷ 0 ∷ 2000 ∷ 0 ∷ 0 ∷ 0 ∷ 3000 ∷ 0 ∷ 0 ∷ 0 ∷ 4000 ∷ 0 ∷ 0 ∷ []))
unfolding computing
padding_8 = tt

pub arithmetic_9 : T (same (words (operate_arrays sum_op (floats32 (0x3f800000 ∷ 0x40490fdb ∷ 0x7f800000 ∷ 0x7fc00000 ∷ 0x1 ∷ 0x3dcccccd ∷ 0xc2f6e979 ∷ 0x80000000 ∷ [])) (floats32 (0x3eaaaaab ∷ 0x2edbe6ff ∷ 0x7f800000 ∷ 0x3f800000 ∷ 0x80000001 ∷ 0x2edbe700 ∷ 0x42f6e979 ∷ 0x0 ∷ [])) 8)) (0 ∷ 0x3faaaaab ∷ 0x40490fdb ∷ 0x7f800000 ∷ 0x7fc00000 ∷ 0x0 ∷ 0x3dcccccd ∷ 0x0 ∷ 0x0 ∷ []))
unfolding computing
arithmetic_9 = tt

pub arithmetic_10 : T (same (words (operate_arrays difference_op (floats32 (0x3f800000 ∷ 0x40490fdb ∷ 0x7f800000 ∷ 0x7fc00000 ∷ 0x1 ∷ 0x3dcccccd ∷ 0xc2f6e979 ∷ 0x80000000 ∷ [])) (floats32 (0x3eaaaaab ∷ 0x2edbe6ff ∷ 0x7f800000 ∷ 0x3f800000 ∷ 0x80000001 ∷ 0x2edbe700 ∷ 0x42f6e979 ∷ 0x0 ∷ [])) 8)) (0 ∷ 0x3f2aaaaa ∷ 0x40490fdb ∷ 0x7fc00000 ∷ 0x7fc00000 ∷ 0x2 ∷ 0x3dcccccd ∷ 0xc376e979 ∷ 0x80000000 ∷ []))
unfolding computing
arithmetic_10 = tt

pub arithmetic_11 : T (same (words (operate_arrays ratio_op (floats32 (0x3f800000 ∷ 0x40490fdb ∷ 0x7f800000 ∷ 0x7fc00000 ∷ 0x1 ∷ 0x3dcccccd ∷ 0xc2f6e979 ∷ 0x80000000 ∷ [])) (floats32 (0x3eaaaaab ∷ 0x2edbe6ff ∷ 0x7f800000 ∷ 0x3f800000 ∷ 0x80000001 ∷ 0x2edbe700 ∷ 0x42f6e979 ∷ 0x0 ∷ [])) 8)) (0 ∷ 0x40400000 ∷ 0x0 ∷ 0x7fc00000 ∷ 0x7fc00000 ∷ 0x0 ∷ 0x4e6e6b27 ∷ 0xbf800000 ∷ 0x0 ∷ []))
unfolding computing
arithmetic_11 = tt

pub arithmetic_12 : T (same (words (operate_arrays log_ratio_op (floats32 (0x3f800000 ∷ 0x40490fdb ∷ 0x7f800000 ∷ 0x7fc00000 ∷ 0x1 ∷ 0x3dcccccd ∷ 0xc2f6e979 ∷ 0x80000000 ∷ [])) (floats32 (0x3eaaaaab ∷ 0x2edbe6ff ∷ 0x7f800000 ∷ 0x3f800000 ∷ 0x80000001 ∷ 0x2edbe700 ∷ 0x42f6e979 ∷ 0x0 ∷ [])) 8)) (0 ∷ 0x40400000 ∷ 0x0 ∷ 0x7fc00000 ∷ 0x7fc00000 ∷ 0x0 ∷ 0x4e6e6b27 ∷ 0xbf800000 ∷ 0x0 ∷ []))
unfolding computing
arithmetic_12 = tt

pub arithmetic_13 : T (same (words (operate_arrays normalized_diff_op (floats32 (0x3f800000 ∷ 0x40490fdb ∷ 0x7f800000 ∷ 0x7fc00000 ∷ 0x1 ∷ 0x3dcccccd ∷ 0xc2f6e979 ∷ 0x80000000 ∷ [])) (floats32 (0x3eaaaaab ∷ 0x2edbe6ff ∷ 0x7f800000 ∷ 0x3f800000 ∷ 0x80000001 ∷ 0x2edbe700 ∷ 0x42f6e979 ∷ 0x0 ∷ [])) 8)) (0 ∷ 0x3effffff ∷ 0x3f800000 ∷ 0x7fc00000 ∷ 0x0 ∷ 0x0 ∷ 0x3f800000 ∷ 0x0 ∷ 0x0 ∷ []))
unfolding computing
arithmetic_13 = tt

pub marks_14 : T (same (bytes (process_scalar_data_mask (floats32 (0x3727c5ac ∷ 0x3727c5ad ∷ 0x7f800000 ∷ 0x7fc00000 ∷ 0xff800000 ∷ 0x0 ∷ 0xbf800000 ∷ 0x3f800000 ∷ [])) 8)) (0 ∷ 0 ∷ 1 ∷ 1 ∷ 0 ∷ 0 ∷ 0 ∷ 0 ∷ 1 ∷ []))
unfolding computing
marks_14 = tt
