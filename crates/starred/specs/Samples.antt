-- The samples of document 01, "those starred .. gathered in one theorem". Rasters are one row of valid pixels. Statements only: the proofs are in proofs/.
use Rattle.std.specs.Prelude.{ℕ, ◌≡◌, List, [], ◌∷◌, map, length, replicate, Float}
use Rattle.std.specs.Float.{binary32, binary64}
use Rattle.std.specs.Float.Ieee.{neg, of_bits}
use Rattle.types.specs.declared.AutoscaleStrategy.{AutoscaleStrategy}
use Rattle.types.specs.declared.AutoscaleStrategy.TheVariants.{Standard, Tamed, Default}
use Rattle.types.specs.declared.HistogramStats.{HistogramStats}
use Rattle.types.specs.declared.SyntheticRgbMode.TheVariants.{Default as Plain}
use Rattle.spec.specs.Floats.{zero64, half64, of_count}
use Rattle.spec.specs.Answer.{Answer, refused, done, number}
use Rattle.spec.specs.Pixels.{pixels}
use Rattle.spec.specs.Statistics.{placed_statistics, compute_histogram_stats}
use Rattle.spec.specs.Grey.{autoscale_db_image_to_u8, autoscale_db_image_to_u16}
use Rattle.spec.specs.Stretch.{scale_u16_to_u8}
use Rattle.spec.specs.Colour.{create_synthetic_rgb_by_mode_and_strategy, floor_level}
use Rattle.spec.specs.Padding.{add_padding_to_square}
use Rattle.spec.specs.Marks.{process_scalar_data_mask}

-- one row, every mark 1
abbrev pub stats : List Float → HistogramStats
stats db = placed_statistics (length db) (pixels (replicate (length db) 1) db)

abbrev pub statistics : List Float → Answer HistogramStats
statistics db = compute_histogram_stats 1 (length db) (replicate (length db) 1) db

abbrev pub u8 : AutoscaleStrategy → List Float → Answer (List ℕ)
u8 strategy db = autoscale_db_image_to_u8 strategy 1 (length db) (replicate (length db) 1) db (length db) 0

abbrev pub u16 : AutoscaleStrategy → List Float → Answer (List ℕ)
u16 strategy db = autoscale_db_image_to_u16 strategy 1 (length db) (replicate (length db) 1) db (length db) 0

-- all eleven
abbrev pub percentiles : HistogramStats → List Float
percentiles s = s.median_db ∷ s.p01 ∷ s.p02 ∷ s.p05 ∷ s.p10 ∷ s.p25 ∷ s.p75 ∷ s.p90 ∷ s.p95 ∷ s.p98 ∷ s.p99 ∷ []

-- the colour of one pixel, by default and suppressed
abbrev pub colour : ℕ → ℕ → Answer (List ℕ)
colour v1 v2 = create_synthetic_rgb_by_mode_and_strategy Plain Default (v1 ∷ []) (v2 ∷ []) 3

abbrev pub above : ℕ → ℕ → Answer (List ℕ)
above v1 v2 = create_synthetic_rgb_by_mode_and_strategy Plain Tamed (v1 ∷ []) (v2 ∷ []) 3

-- -12.5
abbrev pub deep : Float
deep = neg (of_bits binary64 0x4029_0000_0000_0000)

pub record Starred : Type 0 where
  -- "dB 0, 10, Default: p05 = 0, p95 = 9.99755859375, U8 grey 0, 255"
  pub ten : statistics (of_count 0 ∷ of_count 10 ∷ []) ≡ done (stats (of_count 0 ∷ of_count 10 ∷ []))
  pub ten_p05 : (stats (of_count 0 ∷ of_count 10 ∷ [])).p05 ≡ zero64
  pub ten_p95 : (stats (of_count 0 ∷ of_count 10 ∷ [])).p95 ≡ of_bits binary64 0x4023_fec0_0000_0000
  pub ten_u8 : u8 Default (of_count 0 ∷ of_count 10 ∷ []) ≡ done (0 ∷ 255 ∷ [])
  -- "0, 0.5, Default: U16 grey 0, 32759; U8 0, 255"
  pub half_u16 : u16 Default (of_count 0 ∷ half64 ∷ []) ≡ done (0 ∷ 32759 ∷ [])
  pub half_u8 : u8 Default (of_count 0 ∷ half64 ∷ []) ≡ done (0 ∷ 255 ∷ [])
  -- "One pixel -12.5, Default: all percentiles -12.5, grey 0"
  pub one : statistics (deep ∷ []) ≡ done (stats (deep ∷ []))
  pub one_all : percentiles (stats (deep ∷ [])) ≡ replicate 11 deep
  pub one_u8 : u8 Default (deep ∷ []) ≡ done (0 ∷ [])
  pub one_u16 : u16 Default (deep ∷ []) ≡ done (0 ∷ [])
  -- "Standard: 0, 14 refused 6; 0, 15 done; 0, 40 done; 0, 41 refused 6"; F-1: at U16 alone, "done at U8"
  pub fourteen_u8 : u8 Standard (of_count 0 ∷ of_count 14 ∷ []) ≡ done (0 ∷ 255 ∷ [])
  pub fourteen_u16 : u16 Standard (of_count 0 ∷ of_count 14 ∷ []) ≡ refused 6
  pub fifteen_u8 : number (u8 Standard (of_count 0 ∷ of_count 15 ∷ [])) ≡ 0
  pub fifteen_u16 : number (u16 Standard (of_count 0 ∷ of_count 15 ∷ [])) ≡ 0
  pub forty_u8 : number (u8 Standard (of_count 0 ∷ of_count 40 ∷ [])) ≡ 0
  pub forty_u16 : number (u16 Standard (of_count 0 ∷ of_count 40 ∷ [])) ≡ 0
  pub forty_one_u8 : u8 Standard (of_count 0 ∷ of_count 41 ∷ []) ≡ done (0 ∷ 255 ∷ [])
  pub forty_one_u16 : u16 Standard (of_count 0 ∷ of_count 41 ∷ []) ≡ refused 6
  -- "Stretch 0, 1, 2: 0, 128, 255. 7, 7, 7: zeros"
  pub stretch_012 : scale_u16_to_u8 (0 ∷ 1 ∷ 2 ∷ []) 3 ≡ done (0 ∷ 128 ∷ 255 ∷ [])
  pub stretch_777 : scale_u16_to_u8 (7 ∷ 7 ∷ 7 ∷ []) 3 ≡ done (0 ∷ 0 ∷ 0 ∷ [])
  -- "Default (255,255): 255, 255, 61. (255,1): 255, 2, 99. (1,1): 5, 2, 67"
  pub colour_full : colour 255 255 ≡ done (255 ∷ 255 ∷ 61 ∷ [])
  pub colour_red : colour 255 1 ≡ done (255 ∷ 2 ∷ 99 ∷ [])
  pub colour_dark : colour 1 1 ≡ done (5 ∷ 2 ∷ 67 ∷ [])
  -- "Suppressed, one pixel, f = 3: (255,255): 255, 255, 46. (255,3): 255, 0, 65. (4,4): 0, 1, 45"
  pub above_floor : floor_level (255 ∷ []) (255 ∷ []) ≡ 3
  pub above_full : above 255 255 ≡ done (255 ∷ 255 ∷ 46 ∷ [])
  pub above_red : above 255 3 ≡ done (255 ∷ 0 ∷ 65 ∷ [])
  pub above_dark : above 4 4 ≡ done (0 ∷ 1 ∷ 45 ∷ [])

-- "tests run the rest"
pub record Unstarred : Type 0 where
  -- "(0,255): 0, 255, 0"
  pub colour_green : colour 0 255 ≡ done (0 ∷ 255 ∷ 0 ∷ [])
  -- "(3,255): 0, 255, 32"
  pub above_green : above 3 255 ≡ done (0 ∷ 255 ∷ 32 ∷ [])
  -- "Four pixels of 200 in both bands: f = 3; five: f = 40"
  pub four : floor_level (replicate 4 200) (replicate 4 200) ≡ 3
  pub five : floor_level (replicate 5 200) (replicate 5 200) ≡ 40
  -- "Pad 1 row 1, 2: 1, 2, 0, 0"
  pub pad : add_padding_to_square {A = ℕ} 0 1 2 (1 ∷ 2 ∷ []) 4 ≡ done (1 ∷ 2 ∷ 0 ∷ 0 ∷ [])
  -- "Marks: 3727C5AC gives 0, 3727C5AD gives 1"
  pub marks : process_scalar_data_mask (map (of_bits binary32) (0x3727_c5ac ∷ 0x3727_c5ad ∷ [])) 2 ≡ done (0 ∷ 1 ∷ [])
