-- Each fault by its number, its place and its line. Assumes nothing.
use Rattle.std.specs.Prelude.{ℕ, List, ◌++◌, codes, decimal}
use Rattle.lines.specs.Flaws.{flaw_number}
use Rattle.topology.specs.declared.fault.Fault.{Fault}
use Rattle.topology.specs.declared.fault.Fault.TheVariants.{BadSize, Unended, TooManyLines, TooFewCells, BadLine, NeverJoined}
use Rattle.topology.specs.declared.fault.Place.{Place}
use Rattle.topology.specs.declared.fault.Place.TheVariants as place

pub record Shown : Type 0 where
  pub number : ℕ
  pub place : Place
  pub line : ℕ

-- lines are counted from 1, and 0 is the whole text
abbrev pub shown : Fault → Shown
shown BadSize = record { number = 1; place = place.Text; line = 0 }
shown Unended = record { number = 2; place = place.Text; line = 0 }
shown TooManyLines = record { number = 3; place = place.Text; line = 0 }
shown TooFewCells = record { number = 12; place = place.Text; line = 0 }
shown (BadLine flaw line) = record { number = flaw_number flaw; place = place.Line; line = line }
shown (NeverJoined line) = record { number = 11; place = place.Tree; line = line }

-- how a fault is printed
abbrev pub fault_text : Shown → List ℕ
fault_text s = codes "fault " ++ decimal s.number ++ codes " line " ++ decimal s.line
