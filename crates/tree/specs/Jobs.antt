-- A job call on a tree: the work leaf of that name takes the jobs, as its own call does.
use Rattle.std.specs.Prelude.{◌≡◌, ℕ, zero, suc, cond, List, Some, None, Err, Option, Result}
use Rattle.std.specs.Str.{bytes_eq}
use Rattle.leaves.specs.declared.worker.JobRefusal.{JobRefusal}
use Rattle.leaves.specs.declared.worker.JobRefusal.TheVariants.{NoWorkLeaf}
use Rattle.leaves.specs.Jobs.{add_answer, after_add}
use Rattle.words.specs.Names.{text_of}
use Rattle.cells.specs.declared.cell.Body.{Body}
use Rattle.cells.specs.declared.cell.Body.TheVariants as body
use Rattle.cells.specs.declared.cell.Cell.{Cell}
use Rattle.cells.specs.Flat.{at, body_at, put}
use Rattle.tree.specs.declared.state.Tree.{Tree}
use Rattle.tree.specs.Trees.{lines_of}

-- the line of that name among the first n; no two lines of a loaded tree have one name
unfoldable pub line_named : ℕ → List Cell → List ℕ → Option ℕ
line_named zero cs w = None
line_named (suc n) cs w = cond (bytes_eq (text_of (at cs n).name) w) (Some n) (line_named n cs w)

-- a line with n more jobs, and its answer
abbrev pub job_body : Body → ℕ → Body
job_body body.Blank n = body.Blank
job_body (body.Timed t) n = body.Timed t
job_body (body.Work w) n = body.Work (after_add w n)
job_body (body.Join k a b q) n = body.Join k a b q

abbrev pub body_answer : Body → ℕ → Result Unit JobRefusal
body_answer body.Blank n = Err NoWorkLeaf
body_answer (body.Timed t) n = Err NoWorkLeaf
body_answer (body.Work w) n = add_answer w n
body_answer (body.Join k a b q) n = Err NoWorkLeaf

abbrev pub job_cells : Option ℕ → List Cell → ℕ → List Cell
job_cells None cs n = cs
job_cells (Some i) cs n = put cs i (job_body (body_at cs i) n)

abbrev pub job_answer : Option ℕ → List Cell → ℕ → Result Unit JobRefusal
job_answer None cs n = Err NoWorkLeaf
job_answer (Some i) cs n = body_answer (body_at cs i) n

pub record JobMade (w : List ℕ) (n : ℕ) (t u : Tree) (r : Result Unit JobRefusal) : Type 0 where
  pub answer : r ≡ job_answer (line_named t.count (lines_of t) w) (lines_of t) n
  pub cells : lines_of u ≡ job_cells (line_named t.count (lines_of t) w) (lines_of t) n
  pub count : u.count ≡ t.count
  pub own : u.own ≡ t.own
  pub lent : u.cells.ghost_name ≡ t.cells.ghost_name
