-- What two runs on a scene and on a reordering of it are given. Definitions only.
use Rattle.std.specs.Prelude.{ℕ, ◌≡◌, List, length, Float}
use Rattle.std.specs.Float.{nan}
use Rattle.spec.specs.Places.{Order, moved}

-- a band and its reordering: marks and dB of one length, moved by one order of their places
pub record MovedBand (ps marks : List ℕ) (db : List Float) (marks' : List ℕ) (db' : List Float) : Type 0 where
  pub sized : length db ≡ length marks
  pub order : Order ps (length marks)
  pub marks-moved : marks' ≡ moved 0 ps marks
  pub db_moved : db' ≡ moved nan ps db
