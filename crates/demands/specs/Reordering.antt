-- Demand 3: "Nobody who reorders a two band scene can recolour it." Nor can who reorders a band move its bins. Statements only: the proofs are in proofs/.
use Rattle.std.specs.Prelude.{ℕ, ◌+◌, ◌*◌, ◌<◌, ◌≡◌, List, [], ◌∷◌, T, length, get_or, Float}
use Rattle.std.specs.Float.{nan, binary64}
use Rattle.std.specs.Float.Ieee.{fits}
use Rattle.types.specs.declared.AutoscaleStrategy.{AutoscaleStrategy}
use Rattle.types.specs.declared.AutoscaleStrategy.TheVariants.{Adaptive, Clahe}
use Rattle.types.specs.declared.PictureChoices.{PictureChoices}
use Rattle.types.specs.declared.HistogramStats.{HistogramStats}
use Rattle.spec.specs.Answer.{Answer, refused, done}
use Rattle.spec.specs.Statistics.{compute_histogram_stats}
use Rattle.spec.specs.Curve.{compute_histogram}
use Rattle.spec.specs.Colour.{bytes_of}
use Rattle.types.specs.declared.Lent.{Lent}
use Rattle.spec.specs.Copol.{synthetic_rgb_picture_copol}
use Rattle.spec.specs.Picture.{Picture}
use Rattle.spec.specs.Places.{Order, moved, moved_picture}

-- "For every strategy but Adaptive and Clahe"
abbrev pub Reorders : AutoscaleStrategy → Type 0
Reorders strategy = (strategy ≡ Adaptive → ⊥) × (strategy ≡ Clahe → ⊥)

-- every f64 fits binary64. It is said because a list of floats in the logic may hold other numbers as well; a lent `&[f64]` tells it (runs/src/reordered.rt).
abbrev pub AreF64 : List Float → Type 0
AreF64 xs = (i : ℕ) → i < length xs → T (fits binary64 (get_or xs i nan))

-- "the three colour bytes of a pixel move together, in their order": those of pixel i stand at 3i, 3i + 1 and 3i + 2
unfoldable pub moved_triples : List ℕ → List ℕ → List ℕ
moved_triples [] bytes = []
moved_triples (i ∷ ps) bytes = get_or bytes (3 * i) 0 ∷ get_or bytes (3 * i + 1) 0 ∷ get_or bytes (3 * i + 2) 0 ∷ moved_triples ps bytes

-- "the same refusal, or is done for both, and each grey of each band and each pixel's colours are moved by that permutation", in the bytes that are lent
pub data MovedBy (ps : List ℕ) : Answer Picture → Answer Picture → Type 0 where
  same_refusal : (k : ℕ) → MovedBy ps (refused k) (refused k)
  both_done : {p q : Picture} →
      q.grey1 ≡ moved 0 ps p.grey1 → q.grey2 ≡ moved 0 ps p.grey2 → bytes_of q.colours ≡ moved_triples ps (bytes_of p.colours) →
      MovedBy ps (done p) (done q)

-- document 02, F-6: the same refusal, or the same bins of p05 and p95
pub data SameBins : Answer HistogramStats → Answer HistogramStats → Type 0 where
  refused_alike : (k : ℕ) → SameBins (refused k) (refused k)
  same_bins : {s t : HistogramStats} → s.p05_bin ≡ t.p05_bin → s.p95_bin ≡ t.p95_bin → SameBins (done s) (done t)

-- "A reordering is one permutation of the places of four lists of one length, n or not: dB and marks of both bands."
-- "the two scenes compared have the same sides, strategy, mode and lent lengths"; document 02, F-2: "A reordering keeps that choice with its band."
pub record Reordering : Type 0 where
  pub picture :
      (choices : PictureChoices) → Reorders choices.strategy → (rows cols : ℕ) (marks1 : List ℕ) (db1 : List Float) (marks2 : List ℕ) (db2 : List Float) (lent : Lent)
      (size : ℕ) → length marks1 ≡ size → length db1 ≡ size → length marks2 ≡ size → length db2 ≡ size → AreF64 db1 → AreF64 db2 → (ps : List ℕ) → Order ps size →
      MovedBy ps (synthetic_rgb_picture_copol choices rows cols marks1 db1 marks2 db2 lent)
      (synthetic_rgb_picture_copol choices rows cols (moved 0 ps marks1) (moved nan ps db1) (moved 0 ps marks2) (moved nan ps db2) lent)
  -- the same as one equation
  pub equation :
      (choices : PictureChoices) → Reorders choices.strategy → (rows cols : ℕ) (marks1 : List ℕ) (db1 : List Float) (marks2 : List ℕ) (db2 : List Float) (lent : Lent)
      (size : ℕ) → length marks1 ≡ size → length db1 ≡ size → length marks2 ≡ size → length db2 ≡ size → AreF64 db1 → AreF64 db2 → (ps : List ℕ) → Order ps size →
      synthetic_rgb_picture_copol choices rows cols (moved 0 ps marks1) (moved nan ps db1) (moved 0 ps marks2) (moved nan ps db2) lent
      ≡ moved_picture ps (synthetic_rgb_picture_copol choices rows cols marks1 db1 marks2 db2 lent)
  -- the bins of p05 and p95 and the whole curve do not see the order
  pub bins :
      (rows cols : ℕ) (marks : List ℕ) (db : List Float) (size : ℕ) → length marks ≡ size → length db ≡ size → AreF64 db → (ps : List ℕ) → Order ps size →
      SameBins (compute_histogram_stats rows cols marks db) (compute_histogram_stats rows cols (moved 0 ps marks) (moved nan ps db))
  pub curve :
      (rows cols : ℕ) (marks : List ℕ) (db : List Float) (out size : ℕ) → length marks ≡ size → length db ≡ size → AreF64 db → (ps : List ℕ) → Order ps size →
      compute_histogram rows cols (moved 0 ps marks) (moved nan ps db) out ≡ compute_histogram rows cols marks db out
