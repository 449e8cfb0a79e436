-- Pictures of small scenes, refusals over both bands. Written by oracle/vectors; the expected numbers are the Rust's. Closed computations: assumes nothing.
use mathlib.Core.List.{[], ◌∷◌}
use lib.Dec.{T}
use Rattle.types.specs.declared.AutoscaleStrategy.TheVariants.{Standard, Robust, Adaptive, Equalized, Clahe, Tamed, Default}
use Rattle.types.specs.declared.SyntheticRgbMode.TheVariants.{Default as Plain, RgbRatio, SarUrban, Enhanced}
use Rattle.spec.specs.Picture.{synthetic_rgb_picture}
use Rattle.starred.specs.Computing.{computing}
use Rattle.scenes.specs.Tests.{same, floats, picture_bytes, lent}

pub picture_1 : T (same (picture_bytes (synthetic_rgb_picture Standard Plain 2 3 (0 ∷ 1 ∷ 1 ∷ 1 ∷ 1 ∷ 1 ∷ []) (floats (0x7fe1ccf385ebc8a0 ∷ 0xc03ca7566cc6e1d0 ∷ 0x4001a7917c5d9310 ∷ 0xc038fee781cd2155 ∷ 0xc035699d9d28a10a ∷ 0xc03cd98d594baada ∷ [])) (1 ∷ 0 ∷ 1 ∷ 1 ∷ 1 ∷ 1 ∷ []) (floats (0xc027aaa4262b605a ∷ 0x7ff0000000000000 ∷ 0xc0326d4c95d1e4d4 ∷ 0xc030bd1b4d19d4b6 ∷ 0xc035b928e3fc182a ∷ 0xc034c1547407c47a ∷ [])) (lent 6 6 18 16384))) (0 ∷ 0 ∷ 1 ∷ 255 ∷ 31 ∷ 61 ∷ 0 ∷ 255 ∷ 0 ∷ 76 ∷ 120 ∷ 0 ∷ 19 ∷ 0 ∷ 255 ∷ 0 ∷ 5 ∷ 0 ∷ 0 ∷ 255 ∷ 86 ∷ 68 ∷ 58 ∷ 129 ∷ 56 ∷ 94 ∷ 0 ∷ 0 ∷ 0 ∷ 25 ∷ 0 ∷ []))
unfolding computing
picture_1 = tt

pub picture_2 : T (same (picture_bytes (synthetic_rgb_picture Robust RgbRatio 2 3 (0 ∷ 1 ∷ 1 ∷ 1 ∷ 1 ∷ 1 ∷ []) (floats (0x7fe1ccf385ebc8a0 ∷ 0xc03ca7566cc6e1d0 ∷ 0x4001a7917c5d9310 ∷ 0xc038fee781cd2155 ∷ 0xc035699d9d28a10a ∷ 0xc03cd98d594baada ∷ [])) (1 ∷ 0 ∷ 1 ∷ 1 ∷ 1 ∷ 1 ∷ []) (floats (0xc027aaa4262b605a ∷ 0x7ff0000000000000 ∷ 0xc0326d4c95d1e4d4 ∷ 0xc030bd1b4d19d4b6 ∷ 0xc035b928e3fc182a ∷ 0xc034c1547407c47a ∷ [])) (lent 6 6 18 16384))) (0 ∷ 0 ∷ 1 ∷ 255 ∷ 38 ∷ 74 ∷ 0 ∷ 255 ∷ 0 ∷ 85 ∷ 128 ∷ 0 ∷ 24 ∷ 0 ∷ 255 ∷ 0 ∷ 5 ∷ 0 ∷ 0 ∷ 255 ∷ 95 ∷ 68 ∷ 67 ∷ 137 ∷ 57 ∷ 107 ∷ 0 ∷ 0 ∷ 0 ∷ 30 ∷ 0 ∷ []))
unfolding computing
picture_2 = tt

pub picture_3 : T (same (picture_bytes (synthetic_rgb_picture Adaptive SarUrban 2 3 (0 ∷ 1 ∷ 1 ∷ 1 ∷ 1 ∷ 1 ∷ []) (floats (0x7fe1ccf385ebc8a0 ∷ 0xc03ca7566cc6e1d0 ∷ 0x4001a7917c5d9310 ∷ 0xc038fee781cd2155 ∷ 0xc035699d9d28a10a ∷ 0xc03cd98d594baada ∷ [])) (1 ∷ 0 ∷ 1 ∷ 1 ∷ 1 ∷ 1 ∷ []) (floats (0xc027aaa4262b605a ∷ 0x7ff0000000000000 ∷ 0xc0326d4c95d1e4d4 ∷ 0xc030bd1b4d19d4b6 ∷ 0xc035b928e3fc182a ∷ 0xc034c1547407c47a ∷ [])) (lent 6 6 18 16384))) (0 ∷ 0 ∷ 1 ∷ 255 ∷ 31 ∷ 61 ∷ 0 ∷ 255 ∷ 0 ∷ 85 ∷ 128 ∷ 0 ∷ 24 ∷ 0 ∷ 255 ∷ 0 ∷ 5 ∷ 0 ∷ 0 ∷ 255 ∷ 95 ∷ 68 ∷ 58 ∷ 137 ∷ 56 ∷ 94 ∷ 0 ∷ 0 ∷ 0 ∷ 30 ∷ 0 ∷ []))
unfolding computing
picture_3 = tt

pub picture_4 : T (same (picture_bytes (synthetic_rgb_picture Equalized Enhanced 2 3 (0 ∷ 1 ∷ 1 ∷ 1 ∷ 1 ∷ 1 ∷ []) (floats (0x7fe1ccf385ebc8a0 ∷ 0xc03ca7566cc6e1d0 ∷ 0x4001a7917c5d9310 ∷ 0xc038fee781cd2155 ∷ 0xc035699d9d28a10a ∷ 0xc03cd98d594baada ∷ [])) (1 ∷ 0 ∷ 1 ∷ 1 ∷ 1 ∷ 1 ∷ []) (floats (0xc027aaa4262b605a ∷ 0x7ff0000000000000 ∷ 0xc0326d4c95d1e4d4 ∷ 0xc030bd1b4d19d4b6 ∷ 0xc035b928e3fc182a ∷ 0xc034c1547407c47a ∷ [])) (lent 6 6 18 16384))) (0 ∷ 0 ∷ 1 ∷ 255 ∷ 31 ∷ 61 ∷ 0 ∷ 255 ∷ 0 ∷ 85 ∷ 128 ∷ 0 ∷ 24 ∷ 0 ∷ 255 ∷ 0 ∷ 5 ∷ 0 ∷ 0 ∷ 255 ∷ 95 ∷ 68 ∷ 58 ∷ 137 ∷ 56 ∷ 94 ∷ 0 ∷ 0 ∷ 0 ∷ 30 ∷ 0 ∷ []))
unfolding computing
picture_4 = tt

pub picture_5 : T (same (picture_bytes (synthetic_rgb_picture Clahe Plain 2 3 (0 ∷ 1 ∷ 1 ∷ 1 ∷ 1 ∷ 1 ∷ []) (floats (0x7fe1ccf385ebc8a0 ∷ 0xc03ca7566cc6e1d0 ∷ 0x4001a7917c5d9310 ∷ 0xc038fee781cd2155 ∷ 0xc035699d9d28a10a ∷ 0xc03cd98d594baada ∷ [])) (1 ∷ 0 ∷ 1 ∷ 1 ∷ 1 ∷ 1 ∷ []) (floats (0xc027aaa4262b605a ∷ 0x7ff0000000000000 ∷ 0xc0326d4c95d1e4d4 ∷ 0xc030bd1b4d19d4b6 ∷ 0xc035b928e3fc182a ∷ 0xc034c1547407c47a ∷ [])) (lent 6 6 18 16384))) (5 ∷ []))
unfolding computing
picture_5 = tt

pub picture_6 : T (same (picture_bytes (synthetic_rgb_picture Tamed RgbRatio 2 3 (0 ∷ 1 ∷ 1 ∷ 1 ∷ 1 ∷ 1 ∷ []) (floats (0x7fe1ccf385ebc8a0 ∷ 0xc03ca7566cc6e1d0 ∷ 0x4001a7917c5d9310 ∷ 0xc038fee781cd2155 ∷ 0xc035699d9d28a10a ∷ 0xc03cd98d594baada ∷ [])) (1 ∷ 0 ∷ 1 ∷ 1 ∷ 1 ∷ 1 ∷ []) (floats (0xc027aaa4262b605a ∷ 0x7ff0000000000000 ∷ 0xc0326d4c95d1e4d4 ∷ 0xc030bd1b4d19d4b6 ∷ 0xc035b928e3fc182a ∷ 0xc034c1547407c47a ∷ [])) (lent 6 6 18 16384))) (0 ∷ 0 ∷ 1 ∷ 255 ∷ 31 ∷ 61 ∷ 0 ∷ 255 ∷ 0 ∷ 85 ∷ 128 ∷ 0 ∷ 24 ∷ 0 ∷ 255 ∷ 32 ∷ 0 ∷ 0 ∷ 0 ∷ 255 ∷ 74 ∷ 52 ∷ 20 ∷ 118 ∷ 39 ∷ 47 ∷ 0 ∷ 56 ∷ 0 ∷ 17 ∷ 41 ∷ []))
unfolding computing
picture_6 = tt

pub picture_7 : T (same (picture_bytes (synthetic_rgb_picture Default SarUrban 2 3 (0 ∷ 1 ∷ 1 ∷ 1 ∷ 1 ∷ 1 ∷ []) (floats (0x7fe1ccf385ebc8a0 ∷ 0xc03ca7566cc6e1d0 ∷ 0x4001a7917c5d9310 ∷ 0xc038fee781cd2155 ∷ 0xc035699d9d28a10a ∷ 0xc03cd98d594baada ∷ [])) (1 ∷ 0 ∷ 1 ∷ 1 ∷ 1 ∷ 1 ∷ []) (floats (0xc027aaa4262b605a ∷ 0x7ff0000000000000 ∷ 0xc0326d4c95d1e4d4 ∷ 0xc030bd1b4d19d4b6 ∷ 0xc035b928e3fc182a ∷ 0xc034c1547407c47a ∷ [])) (lent 6 6 18 16384))) (0 ∷ 0 ∷ 1 ∷ 255 ∷ 31 ∷ 61 ∷ 0 ∷ 255 ∷ 0 ∷ 85 ∷ 128 ∷ 0 ∷ 24 ∷ 0 ∷ 255 ∷ 0 ∷ 5 ∷ 0 ∷ 0 ∷ 255 ∷ 95 ∷ 68 ∷ 58 ∷ 137 ∷ 56 ∷ 94 ∷ 0 ∷ 0 ∷ 0 ∷ 30 ∷ 0 ∷ []))
unfolding computing
picture_7 = tt

-- mixed zeros beside a blank band
pub picture_8 : T (same (picture_bytes (synthetic_rgb_picture Default Plain 2 3 (1 ∷ 1 ∷ 1 ∷ 1 ∷ 1 ∷ 1 ∷ []) (floats (0x0 ∷ 0x8000000000000000 ∷ 0x4028000000000000 ∷ 0x8000000000000000 ∷ 0x0 ∷ 0xc008000000000000 ∷ [])) (0 ∷ 0 ∷ 0 ∷ 0 ∷ 0 ∷ 0 ∷ []) (floats (0x7ff8000000000000 ∷ 0x7ff8000000000000 ∷ 0x7ff8000000000000 ∷ 0x7ff8000000000000 ∷ 0x7ff8000000000000 ∷ 0x7ff8000000000000 ∷ [])) (lent 6 6 18 16384))) (0 ∷ 51 ∷ 51 ∷ 255 ∷ 51 ∷ 51 ∷ 0 ∷ 0 ∷ 0 ∷ 0 ∷ 0 ∷ 0 ∷ 0 ∷ 83 ∷ 0 ∷ 0 ∷ 83 ∷ 0 ∷ 0 ∷ 255 ∷ 0 ∷ 0 ∷ 83 ∷ 0 ∷ 0 ∷ 83 ∷ 0 ∷ 0 ∷ 0 ∷ 0 ∷ 0 ∷ []))
unfolding computing
picture_8 = tt

pub picture_9 : T (same (picture_bytes (synthetic_rgb_picture Tamed Plain 2 3 (0 ∷ 0 ∷ 0 ∷ 0 ∷ 0 ∷ 0 ∷ []) (floats (0x7ff8000000000000 ∷ 0x7ff8000000000000 ∷ 0x7ff8000000000000 ∷ 0x7ff8000000000000 ∷ 0x7ff8000000000000 ∷ 0x7ff8000000000000 ∷ [])) (1 ∷ 1 ∷ 1 ∷ 1 ∷ 1 ∷ 1 ∷ []) (floats (0x0 ∷ 0x8000000000000000 ∷ 0x4028000000000000 ∷ 0x8000000000000000 ∷ 0x0 ∷ 0xc008000000000000 ∷ [])) (lent 6 6 18 16384))) (0 ∷ 0 ∷ 0 ∷ 0 ∷ 0 ∷ 0 ∷ 0 ∷ 51 ∷ 51 ∷ 255 ∷ 51 ∷ 51 ∷ 0 ∷ 0 ∷ 41 ∷ 38 ∷ 0 ∷ 41 ∷ 38 ∷ 0 ∷ 255 ∷ 32 ∷ 0 ∷ 41 ∷ 38 ∷ 0 ∷ 41 ∷ 38 ∷ 0 ∷ 0 ∷ 0 ∷ []))
unfolding computing
picture_9 = tt

pub picture_10 : T (same (picture_bytes (synthetic_rgb_picture Clahe Plain 2 3 (0 ∷ 0 ∷ 0 ∷ 0 ∷ 0 ∷ 0 ∷ []) (floats (0x7ff8000000000000 ∷ 0x7ff8000000000000 ∷ 0x7ff8000000000000 ∷ 0x7ff8000000000000 ∷ 0x7ff8000000000000 ∷ 0x7ff8000000000000 ∷ [])) (0 ∷ 0 ∷ 0 ∷ 0 ∷ 0 ∷ 0 ∷ []) (floats (0x7ff8000000000000 ∷ 0x7ff8000000000000 ∷ 0x7ff8000000000000 ∷ 0x7ff8000000000000 ∷ 0x7ff8000000000000 ∷ 0x7ff8000000000000 ∷ [])) (lent 6 6 18 16384))) (0 ∷ 0 ∷ 0 ∷ 0 ∷ 0 ∷ 0 ∷ 0 ∷ 0 ∷ 0 ∷ 0 ∷ 0 ∷ 0 ∷ 0 ∷ 0 ∷ 0 ∷ 0 ∷ 0 ∷ 0 ∷ 0 ∷ 0 ∷ 0 ∷ 0 ∷ 0 ∷ 0 ∷ 0 ∷ 0 ∷ 0 ∷ 0 ∷ 0 ∷ 0 ∷ 0 ∷ []))
unfolding computing
picture_10 = tt

-- the smallest number over both bands
pub picture_11 : T (same (picture_bytes (synthetic_rgb_picture Default Plain 2 4097 (1 ∷ 1 ∷ 1 ∷ 1 ∷ 1 ∷ 1 ∷ []) (floats (0xc08f480000000000 ∷ 0xc03ca7566cc6e1d0 ∷ 0x4001a7917c5d9310 ∷ 0xc038fee781cd2155 ∷ 0xc035699d9d28a10a ∷ 0xc03cd98d594baada ∷ [])) (2 ∷ 0 ∷ 1 ∷ 1 ∷ 1 ∷ 1 ∷ []) (floats (0x0 ∷ 0x7ff0000000000000 ∷ 0xc0326d4c95d1e4d4 ∷ 0xc030bd1b4d19d4b6 ∷ 0xc035b928e3fc182a ∷ 0xc034c1547407c47a ∷ [])) (lent 6 6 18 16384))) (1 ∷ []))
unfolding computing
picture_11 = tt

pub picture_12 : T (same (picture_bytes (synthetic_rgb_picture Default Plain 2 3 (1 ∷ 1 ∷ 1 ∷ 1 ∷ 1 ∷ 1 ∷ []) (floats (0xc08f480000000000 ∷ 0xc03ca7566cc6e1d0 ∷ 0x4001a7917c5d9310 ∷ 0xc038fee781cd2155 ∷ 0xc035699d9d28a10a ∷ 0xc03cd98d594baada ∷ [])) (2 ∷ 0 ∷ 1 ∷ 1 ∷ 1 ∷ 1 ∷ []) (floats (0x0 ∷ 0x7ff0000000000000 ∷ 0xc0326d4c95d1e4d4 ∷ 0xc030bd1b4d19d4b6 ∷ 0xc035b928e3fc182a ∷ 0xc034c1547407c47a ∷ [])) (lent 6 6 17 16384))) (2 ∷ []))
unfolding computing
picture_12 = tt

pub picture_13 : T (same (picture_bytes (synthetic_rgb_picture Default Plain 2 3 (1 ∷ 1 ∷ 1 ∷ 1 ∷ 1 ∷ 1 ∷ []) (floats (0xc08f480000000000 ∷ 0xc03ca7566cc6e1d0 ∷ 0x4001a7917c5d9310 ∷ 0xc038fee781cd2155 ∷ 0xc035699d9d28a10a ∷ 0xc03cd98d594baada ∷ [])) (2 ∷ 0 ∷ 1 ∷ 1 ∷ 1 ∷ 1 ∷ []) (floats (0x0 ∷ 0x7ff0000000000000 ∷ 0xc0326d4c95d1e4d4 ∷ 0xc030bd1b4d19d4b6 ∷ 0xc035b928e3fc182a ∷ 0xc034c1547407c47a ∷ [])) (lent 6 6 18 16384))) (3 ∷ []))
unfolding computing
picture_13 = tt

pub picture_14 : T (same (picture_bytes (synthetic_rgb_picture Tamed Plain 2 3 (0 ∷ 1 ∷ 1 ∷ 1 ∷ 1 ∷ 1 ∷ []) (floats (0x7fe1ccf385ebc8a0 ∷ 0xc03ca7566cc6e1d0 ∷ 0x4001a7917c5d9310 ∷ 0xc038fee781cd2155 ∷ 0xc035699d9d28a10a ∷ 0xc03cd98d594baada ∷ [])) (1 ∷ 0 ∷ 1 ∷ 1 ∷ 1 ∷ 1 ∷ []) (floats (0x7ff0000000000000 ∷ 0x7ff0000000000000 ∷ 0xc0326d4c95d1e4d4 ∷ 0xc030bd1b4d19d4b6 ∷ 0xc035b928e3fc182a ∷ 0xc034c1547407c47a ∷ [])) (lent 6 6 18 16384))) (4 ∷ []))
unfolding computing
picture_14 = tt

pub picture_15 : T (same (picture_bytes (synthetic_rgb_picture Clahe Plain 2 3 (0 ∷ 1 ∷ 1 ∷ 1 ∷ 1 ∷ 1 ∷ []) (floats (0x7fe1ccf385ebc8a0 ∷ 0xc03ca7566cc6e1d0 ∷ 0x4001a7917c5d9310 ∷ 0xc038fee781cd2155 ∷ 0xc035699d9d28a10a ∷ 0xc03cd98d594baada ∷ [])) (0 ∷ 0 ∷ 0 ∷ 0 ∷ 0 ∷ 0 ∷ []) (floats (0x7ff8000000000000 ∷ 0x7ff8000000000000 ∷ 0x7ff8000000000000 ∷ 0x7ff8000000000000 ∷ 0x7ff8000000000000 ∷ 0x7ff8000000000000 ∷ [])) (lent 6 6 18 16384))) (5 ∷ []))
unfolding computing
picture_15 = tt

pub picture_16 : T (same (picture_bytes (synthetic_rgb_picture Standard Plain 2 3 (0 ∷ 0 ∷ 0 ∷ 0 ∷ 0 ∷ 0 ∷ []) (floats (0x7ff8000000000000 ∷ 0x7ff8000000000000 ∷ 0x7ff8000000000000 ∷ 0x7ff8000000000000 ∷ 0x7ff8000000000000 ∷ 0x7ff8000000000000 ∷ [])) (1 ∷ 1 ∷ 1 ∷ 1 ∷ 1 ∷ 1 ∷ []) (floats (0x3ff0000000000000 ∷ 0x4000000000000000 ∷ 0x4008000000000000 ∷ 0x4010000000000000 ∷ 0x4014000000000000 ∷ 0x4018000000000000 ∷ [])) (lent 6 6 18 16384))) (0 ∷ 0 ∷ 0 ∷ 0 ∷ 0 ∷ 0 ∷ 0 ∷ 0 ∷ 43 ∷ 93 ∷ 145 ∷ 199 ∷ 255 ∷ 0 ∷ 0 ∷ 0 ∷ 0 ∷ 51 ∷ 0 ∷ 0 ∷ 103 ∷ 0 ∷ 0 ∷ 153 ∷ 0 ∷ 0 ∷ 204 ∷ 0 ∷ 0 ∷ 255 ∷ 0 ∷ []))
unfolding computing
picture_16 = tt
