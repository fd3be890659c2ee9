-- What a tree tells of its lines.
use Rattle.std.specs.Prelude.{ℕ, zero, suc, cond, List, Some, None, Option, nat_lt, map}
use Rattle.channel.specs.Phases.{levels_of}
use Rattle.cells.specs.declared.cell.Body.{Body}
use Rattle.cells.specs.declared.cell.Cell.{Cell}
use Rattle.cells.specs.Bodies.{body_phase, body_denier}
use Rattle.cells.specs.Flat.{at, body_at}
use Rattle.tree.specs.declared.line.Line.{Line}
use Rattle.tree.specs.declared.line.Lines.{Lines}

abbrev pub cell_tells : Cell → Line
cell_tells c = record {
  name = c.name;
  phase = body_phase c.body;
  denier = body_denier c.body;
  levels = levels_of (body_phase c.body);
}

-- a line among the first n, else nothing
abbrev pub line_tells : ℕ → List Cell → ℕ → Option Line
line_tells n cs i = cond (nat_lt i n) (Some (cell_tells (at cs i))) None

-- what is left of the lines that an iterator goes over
abbrev pub lines_left : Lines → List Line
lines_left l = map cell_tells l.cells.now

-- the device of the last of n lines
abbrev pub top_body : ℕ → List Cell → Option Body
top_body zero cs = None
top_body (suc t) cs = Some (body_at cs t)
