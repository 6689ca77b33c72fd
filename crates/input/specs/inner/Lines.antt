-- A line that was found fits into the bytes that were lent for it.
use Rattle.std.specs.Prelude.{ℕ, ◌≤◌, length}
use Rattle.input.specs.declared.lines.Line.{Line}
use Rattle.input.specs.declared.lines.Line.TheVariants.{Whole, TooLong, Begun, Failed, End}

abbrev pub LineFits : Line → ℕ → Type 0
LineFits (Whole line) room = length line.now ≤ room
LineFits TooLong room = Unit {0}
LineFits Begun room = Unit {0}
LineFits Failed room = Unit {0}
LineFits End room = Unit {0}
