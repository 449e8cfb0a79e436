-- Document 02, F-3: "Each row's results in 0..1 are shown to follow from these four, its marks, its normalised pixels and the tile sums alone; all greys
-- remain those of document 01." Statements only: the proofs are in proofs/.
use Rattle.std.specs.Prelude.{ℕ, ◌*◌, ◌<◌, ◌≡◌, List, map, length}
use Rattle.spec.specs.Pixels.{Pixel}
use Rattle.spec.specs.Value.{full8, full16}
use Rattle.spec.specs.Clahe.{tile_side, tile_position, clahe_values}
use Rattle.spec.specs.RowResults.{clahe_results, scaled, tile_sums, row_at, row_results}

pub record RowPosition : Type 0 where
  -- "all greys remain those of document 01": its values are the results scaled and truncated, at either depth
  pub greys_8 : (rows cols : ℕ) (px : List Pixel) → clahe_values full8 rows cols px ≡ map (scaled full8) (clahe_results rows cols px)
  pub greys_16 : (rows cols : ℕ) (px : List Pixel) → clahe_values full16 rows cols px ≡ map (scaled full16) (clahe_results rows cols px)
  -- a row's results are worked out from its four, the tile sums and its own pixels
  pub follows :
      (rows cols r : ℕ) (px : List Pixel) → length px ≡ rows * cols → r < rows →
      row_at cols r (clahe_results rows cols px) ≡ row_results (tile_position (tile_side rows) r) (tile_sums rows cols px) (row_at cols r px)
  -- ".. alone": two rows, of one scene or of two, that are equal in all these have equal results
  pub alone :
      (rows cols r : ℕ) (px : List Pixel) (rows' cols' r' : ℕ) (px' : List Pixel) → length px ≡ rows * cols → length px' ≡ rows' * cols' → r < rows → r' < rows' →
      let y = tile_position (tile_side rows) r in
      let y' = tile_position (tile_side rows') r' in
      y.position ≡ y'.position → y.first ≡ y'.first → y.second ≡ y'.second → y.weight ≡ y'.weight →
      row_at cols r px ≡ row_at cols' r' px' → tile_sums rows cols px ≡ tile_sums rows' cols' px' →
      row_at cols r (clahe_results rows cols px) ≡ row_at cols' r' (clahe_results rows' cols' px')
