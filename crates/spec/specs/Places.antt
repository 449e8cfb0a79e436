-- Demand 3, "A reordering is one permutation of the places of four lists of one length". Definitions only.
use Rattle.std.specs.Prelude.{ℕ, get_or}
use mathlib.Core.List.{List, map, Permᴰ}
use Rattle.spec.specs.Lists.{places}
use Rattle.spec.specs.Answer.{Answer, refused, done}
use Rattle.types.specs.declared.Rgb.{Rgb}
use Rattle.spec.specs.Picture.{Picture}

-- ps names each of the places 0 .. n - 1 once
abbrev pub Order : List ℕ → ℕ → Type 0
Order ps n = Permᴰ ps (places n)

-- what stood at place i of ps comes to stand i-th; d is for places beyond the list, of which an order has none
abbrev pub moved : {A : Type 0} → A → List ℕ → List A → List A
moved d ps xs = map (λ i. get_or xs i d) ps

abbrev pub dark : Rgb
dark = record { r = 0; g = 0; b = 0 }

-- "each grey output is moved by it, and the three colour bytes of a pixel move together, in their order"
unfoldable pub moved_picture : List ℕ → Answer Picture → Answer Picture
moved_picture ps (refused k) = refused k
moved_picture ps (done p) = done (record { grey1 = moved 0 ps p.grey1; grey2 = moved 0 ps p.grey2; colours = moved dark ps p.colours })
