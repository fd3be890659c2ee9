-- What can be wrong with a line, by its number. Assumes nothing.
use Rattle.std.specs.Prelude.{ℕ}
use Rattle.lines.specs.declared.flaw.Flaw.{Flaw}
use Rattle.lines.specs.declared.flaw.Flaw.TheVariants.{UnknownKind, WordCount, BadName, NameTaken, BadNumber, NoSuchLine, AlreadyJoined}

abbrev pub flaw_number : Flaw → ℕ
flaw_number UnknownKind = 4
flaw_number WordCount = 5
flaw_number BadName = 6
flaw_number NameTaken = 7
flaw_number BadNumber = 8
flaw_number NoSuchLine = 9
flaw_number AlreadyJoined = 10
