-- What a code names, and the call that it stands for. Assumes nothing.
use mathlib.Core.Path.{◌≡◌, refl, sym, ◌∙◌}
use mathlib.Core.Bool.{Bool}
use mathlib.Core.List.{List}
use Prim.Native.Nat.{ℕ}
use lib.Ieee.{Float}
use Rattle.std.specs.Prelude.{Option, Some, None, Result, Ok, Err}
use Rattle.types.specs.declared.AutoscaleStrategy.{AutoscaleStrategy}
use Rattle.types.specs.declared.codes.UnknownCode.{UnknownCode}
use Rattle.types.specs.Codes.{named}
use Rattle.spec.specs.Answer.{Answer, refused}
use Rattle.pipeline.specs.Work.{uses, Kept}
use Rattle.quicklook.specs.Codes.{with_named, uses_named}

-- found is what reading the code gave
module _ {B : Type 0} (code : ℕ) (found : Result B UnknownCode) where
  some-named : (o : Option B) → found ≡ named code o → (b : B) → found ≡ Ok b → o ≡ Some b
  some-named (Some a) e b n = let z : ◌≡◌ {A = Result B UnknownCode} (Ok a) (Ok b) = sym e ∙ n in cc
  some-named None e b n = let z : ◌≡◌ {A = Result B UnknownCode} (Err (record { code = code })) (Ok b) = sym e ∙ n in cc

  none-named : (o : Option B) → found ≡ named code o → (k : UnknownCode) → found ≡ Err k → o ≡ None
  none-named (Some a) e k n = let z : ◌≡◌ {A = Result B UnknownCode} (Ok a) (Err k) = sym e ∙ n in cc
  none-named None e k n = refl

  module _ {A : Type 0} (o : Option B) (call : B → Answer A) (e : found ≡ named code o) where
    pub named_call : (b : B) → found ≡ Ok b → with_named o call ≡ call b
    unfolding with_named
    named_call b n = rw (some-named o e b n) refl

    pub unnamed_call : (k : UnknownCode) → found ≡ Err k → with_named o call ≡ refused 255
    unfolding with_named
    unnamed_call k n = rw (none-named o e k n) refl

-- the work list as the call leaves it
pub named_work :
    {A : Type 0} (code : ℕ) (found : Result AutoscaleStrategy UnknownCode) (o : Option AutoscaleStrategy) → found ≡ named code o → (strategy : AutoscaleStrategy)
    → found ≡ Ok strategy → (a b : Answer A) → a ≡ b → (old new : List Float) → Kept (uses strategy b) old new → Kept (uses_named o a) old new
unfolding uses_named
named_work code found o e strategy n a b same old new k = rw (some-named code found o e strategy n, same) k

-- a call that did not begin leaves its work list
pub unchanged : (free : Bool) (old : List Float) → Kept free old old
unchanged free old = record { size = refl; same = λ f. refl }
