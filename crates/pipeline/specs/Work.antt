-- The work list afterwards: "Clahe's work contents after success are free .. its length holds"; "other strategies .. do not touch it". Definitions only.
use Rattle.std.specs.Prelude.{◌≡◌, Bool, false, List, length, Float}
use Rattle.types.specs.declared.AutoscaleStrategy.{AutoscaleStrategy}
use Rattle.spec.specs.Answer.{Answer, refused, done}
use Rattle.spec.specs.Strategies.{is_clahe}

-- whether a call may write to the work list: Clahe, and done
unfoldable pub uses : {A : Type 0} → AutoscaleStrategy → Answer A → Bool
uses strategy (refused k) = false
uses strategy (done a) = is_clahe strategy

-- the same length, and the same list where it may not be written
pub record Kept (free : Bool) (old new : List Float) : Type 0 where
  pub size : length new ≡ length old
  pub same : free ≡ false → new ≡ old
