-- Edges: the changes of phase that a step makes on the channels of the lines, in the order in which it makes them.
use Rattle.std.specs.Prelude.{ℕ, zero, suc, Bool, true, false, cond, List, [], ◌∷◌, ◌++◌, ◌==◌}
use Rattle.channel.specs.declared.phase.Phase.{Phase}
use Rattle.channel.specs.Phases.{number_of}
use Rattle.cells.specs.declared.cell.Body.{Body}
use Rattle.cells.specs.declared.cell.Cell.{Cell}
use Rattle.cells.specs.Bodies.{body_phase}
use Rattle.words.specs.Names.{text_of}
use Rattle.cells.specs.Flat.{at, body_at, first_of, second_of, is_join, drive_line, drive_from, answer_line, answer_to}

-- the channel of a line, from 0, has come to a phase
pub record Edge : Type 0 where
  pub line : ℕ
  pub to : Phase

abbrev pub phase_at : List Cell → ℕ → Phase
phase_at cs i = body_phase (body_at cs i)

-- line i was at p and is at q
unfoldable pub change : Phase → Phase → ℕ → List Edge
change p q i = cond (number_of p == number_of q) [] (record { line = i; to = q } ∷ [])

-- what line i did between two states of the cells
abbrev pub line_edge : ℕ → List Cell → List Cell → List Edge
line_edge i cs ds = change (phase_at cs i) (phase_at ds i) i

-- a join drives its first device, then its second
unfoldable pub drive_edges_by : Bool → Body → List Cell → List Cell → List Edge
drive_edges_by true j cs ds = line_edge (first_of j) cs ds ++ line_edge (second_of j) cs ds
drive_edges_by false j cs ds = []

abbrev pub drive_edges : ℕ → List Cell → List Edge
drive_edges i cs = drive_edges_by (is_join (body_at cs i)) (body_at cs i) cs (drive_line i cs)

-- lines from last to first drive
unfoldable pub drives_from : ℕ → List Cell → List Edge
drives_from zero cs = []
drives_from (suc n) cs = drive_edges n cs ++ drives_from n (drive_line n cs)

abbrev pub answer_edges : ℕ → List Cell → List Edge
answer_edges i cs = line_edge i cs (answer_line i cs)

-- lines from first to last answer
unfoldable pub answers_to : ℕ → List Cell → List Edge
answers_to zero cs = []
answers_to (suc n) cs = answers_to n cs ++ answer_edges n (answer_to n cs)

-- the edges of one step of the first n lines
abbrev pub step_edges : ℕ → List Cell → List Edge
step_edges n cs = drives_from n cs ++ answers_to n (drive_from n cs)

abbrev pub name_at : List Cell → ℕ → List ℕ
name_at cs i = text_of (at cs i).name
