-- The answer of the window call and the window in it. Definitions only.
use Rattle.std.specs.Prelude.{Option, Some, None}
use Rattle.types.specs.declared.WindowFloats.{WindowFloats}
use Rattle.types.specs.declared.window.WindowAnswer.{WindowAnswer}
use Rattle.types.specs.declared.window.WindowAnswer.TheVariants.{Window, Blank, Refused}

-- "A window answer is a window with its floats, or blank"
unfoldable pub window_answer : Option WindowFloats → WindowAnswer
window_answer (Some w) = Window w.low w.high w.range w.gamma
window_answer None = Blank

-- the window of an answer: none of a blank or a refused one
unfoldable pub window_in : WindowAnswer → Option WindowFloats
window_in (Window low high range gamma) = Some (record { low = low; high = high; range = range; gamma = gamma })
window_in Blank = None
window_in (Refused k) = None
