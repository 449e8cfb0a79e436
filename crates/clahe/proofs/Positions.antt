-- A position from its parts, the positions of all columns, and a sample from a row's position and a column's. Assumes nothing.
use Rattle.std.proofs.Common.{◌≡◌, ℕ, ◌+◌, ◌<◌, min, List, length, get_or, sym, ap, ◌∙◌, subst, arith}
use lib.ListN.{length-map}
use lib.Ieee.{Float, binary64, sub, div, to_unsigned}
use Rattle.types.specs.declared.TilePosition.{TilePosition}
use Rattle.spec.specs.Floats.{half64, of_count}
use Rattle.spec.specs.Lists.{places}
use Rattle.spec.specs.Clahe.{tile_side, tile_position, blend}
use Rattle.clahe.specs.declared.columns.Column.{Column}
use Rattle.clahe.specs.declared.sampling.Row.{Row}
use Rattle.clahe.specs.Work.{Among, ColumnAmong, sum_in, sampled}
use Rattle.lists.proofs.Places.{from-length, places-at, from_places}
use Rattle.clahe.specs.Paint.{at_position, column_of, columns_of, no_column}

module _ (side i : ℕ) where
  abbrev pub place : Float
  place = sub binary64 (div binary64 (of_count i) (of_count side)) half64

  pub position_of : (k m n : ℕ) (w x : Float) → k ≡ to_unsigned 64 place → m ≡ min k 7 → n ≡ min (k + 1) 7 → w ≡ of_count k → x ≡ sub binary64 place w
      → ◌≡◌ {A = TilePosition} (record { position = place; first = m; second = n; weight = x }) (tile_position side i)
  unfolding tile_position
  position_of k m n w x a b c d e = cc

  -- a position's tiles are among the eight, and the second is the next one
  pub among : Among (tile_position side i)
  unfolding tile_position
  among = (omega arith, omega arith)

  pub among_of : (p : TilePosition) → p ≡ tile_position side i → Among p
  among_of p e = subst Among (sym e) among

-- ---- columns

pub columns-length : (cols : ℕ) → length (columns_of cols) ≡ cols
unfolding columns_of
columns-length cols = length-map (places cols) (column_of cols) ∙ from-length 0 cols

pub column_at : (cols c : ℕ) (d : Column) → c < cols → get_or (columns_of cols) c d ≡ column_of cols c
unfolding columns_of
column_at cols c d h = places-at (column_of cols) d cols c h

-- a column of the list has its tiles among the eight
pub column_among : (cols c : ℕ) (d : Column) (xs : List Column) → xs ≡ columns_of cols → c < cols → (get_or xs c d ≡ column_of cols c) × ColumnAmong (get_or xs c d)
column_among cols c d xs e h =
    let q = ap (λ (l : List Column). get_or l c d) e ∙ column_at cols c d h in (q, subst ColumnAmong (sym q) (let h = among (tile_side cols) c in (omega arith, omega arith)))

-- the column at a position has its tiles among the eight
pub column_among_of : (side i : ℕ) (p : TilePosition) (x : Column) → p ≡ tile_position side i → x ≡ at_position p → ColumnAmong x
column_among_of side i p x e f = let h = among_of side i p e in subst ColumnAmong (sym f) (omega arith, omega arith)

-- all columns, each known
pub all_columns : (cols : ℕ) (xs : List Column) → length xs ≡ cols → ((c : ℕ) → c < cols → get_or xs c no_column ≡ column_of cols c) → xs ≡ columns_of cols
unfolding columns_of
all_columns cols xs e all = from_places (column_of cols) no_column cols xs e all

-- the next column, from its position
pub column_made : (cols c side : ℕ) (p : TilePosition) (x : Column) → side ≡ tile_side cols → p ≡ tile_position side c → x ≡ at_position p → x ≡ column_of cols c
column_made cols c side p x d e f = cc (f, e, d)

-- ---- a sample

pub sampled-from : (row : Row) (x : Column) (b : ℕ) (p q top s t bottom r : Float)
    → p ≡ sum_in row.top.now x.first b → q ≡ sum_in row.top.now x.second b → top ≡ blend x.weight p q
    → s ≡ sum_in row.bottom.now x.first b → t ≡ sum_in row.bottom.now x.second b → bottom ≡ blend x.weight s t
    → r ≡ blend row.weight top bottom → r ≡ sampled row.top.now row.bottom.now row.weight x b
unfolding sampled
sampled-from row x b p q top s t bottom r e f g h k l m = cc
