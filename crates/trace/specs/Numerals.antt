-- A number in decimal, as it is held.
use Rattle.std.specs.Prelude.{ℕ, List}
use Rattle.words.specs.Shorts.{short_text}
use Rattle.trace.specs.declared.numeral.Numeral.{Numeral}

abbrev pub numeral_text : Numeral → List ℕ
numeral_text n = short_text n.digits
