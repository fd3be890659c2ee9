-- The four kinds of line, and what a line is by its words. Assumes nothing.
use Rattle.std.specs.Prelude.{ℕ, cond, List, length, Some, None, Ok, Err, codes, Option, Result, ◌==◌}
use Rattle.std.specs.Str.{bytes_eq}
use Rattle.words.specs.Pieces.{words_of, word_of}
use Rattle.words.specs.Names.{legal}
use Rattle.lines.specs.declared.flaw.Flaw.{Flaw}
use Rattle.lines.specs.declared.flaw.Flaw.TheVariants.{UnknownKind, WordCount, BadName}
use Rattle.lines.specs.declared.line.Kind.{Kind}
use Rattle.lines.specs.declared.line.Kind.TheVariants as kind
use Rattle.lines.specs.declared.line.Line.{Line}
use Rattle.lines.specs.declared.line.Line.TheVariants as line

-- a line by its words, without the first: the name, then numbers or the names of two earlier lines
pub data Said : Type 0 where
  timed : List ℕ → List ℕ → List ℕ → List ℕ → Said
  work : List ℕ → List ℕ → Said
  dist : List ℕ → List ℕ → List ℕ → Said
  seq : List ℕ → List ℕ → List ℕ → Said

abbrev pub said : Line → Said
said (line.Timed n d e k) = timed n.now d.now e.now k.now
said (line.Work n p) = work n.now p.now
said (line.Dist n a b) = dist n.now a.now b.now
said (line.Seq n a b) = seq n.now a.now b.now

abbrev pub name_in : Said → List ℕ
name_in (timed n d e k) = n
name_in (work n p) = n
name_in (dist n a b) = n
name_in (seq n a b) = n

-- the first word
abbrev pub kind_of : List ℕ → Option Kind
kind_of w =
    cond (bytes_eq w (codes "timed")) (Some kind.Timed)
    (cond (bytes_eq w (codes "work")) (Some kind.Work)
    (cond (bytes_eq w (codes "dist")) (Some kind.Dist)
    (cond (bytes_eq w (codes "seq")) (Some kind.Seq) None)))

-- how many words a line has
abbrev pub width : Kind → ℕ
width kind.Timed = 5
width kind.Work = 3
width kind.Dist = 4
width kind.Seq = 4

abbrev pub say : Kind → List ℕ → Said
say kind.Timed l = timed (word_of l 1) (word_of l 2) (word_of l 3) (word_of l 4)
say kind.Work l = work (word_of l 1) (word_of l 2)
say kind.Dist l = dist (word_of l 1) (word_of l 2) (word_of l 3)
say kind.Seq l = seq (word_of l 1) (word_of l 2) (word_of l 3)

-- what is wrong with a line that should have n words, the second of them a name
abbrev pub misframe : ℕ → List ℕ → Option Flaw
misframe n l = cond (length (words_of l) == n) (cond (legal (word_of l 1)) None (Some BadName)) (Some WordCount)

abbrev pub framed : Kind → List ℕ → Result Said Flaw
framed k l = elim (misframe (width k) l) [ None ↦ Ok (say k l) | Some f ↦ Err f ]

-- a line by its words, or what is wrong with it
abbrev pub line_of : List ℕ → Result Said Flaw
line_of l = elim (kind_of (word_of l 0)) [ None ↦ Err UnknownKind | Some k ↦ framed k l ]

-- what was read of a line
abbrev pub line_told : Result Line Flaw → Result Said Flaw
line_told (Ok l) = Ok (said l)
line_told (Err f) = Err f
