-- What a code that names nothing leaves of a call for C. Definitions only.
use Rattle.std.specs.Prelude.{Bool, false, Option, Some, None}
use Rattle.types.specs.declared.AutoscaleStrategy.{AutoscaleStrategy}
use Rattle.spec.specs.Answer.{Answer, refused}
use Rattle.pipeline.specs.Work.{uses}

-- "A code that names nothing is answered 255 and alters nothing."
unfoldable pub with_named : {A B : Type 0} → Option B → (B → Answer A) → Answer A
with_named (Some b) call = call b
with_named None call = refused 255

-- whether a call may write to the work list: never where its strategy's code names nothing
unfoldable pub uses_named : {A : Type 0} → Option AutoscaleStrategy → Answer A → Bool
uses_named (Some strategy) a = uses strategy a
uses_named None a = false
