-- The lines of a tree in a list of cells: the two passes of a step, and the nested tree that they stand for.
use Rattle.std.specs.Prelude.{◌≡◌, ℕ, zero, suc, ◌<◌, ◌≤◌, Bool, true, false, List, [], length, get_or, ◌≢◌, slice_index_or, slice_set}
use Rattle.channel.specs.declared.phase.Phase.TheVariants.{Run}
use Rattle.cells.specs.declared.cell.Body.{Body}
use Rattle.cells.specs.declared.cell.Body.TheVariants as body
use Rattle.cells.specs.declared.cell.Cell.{Cell}
use Rattle.cells.specs.Bodies.{body_phase, driven_body, answered_body, reset_body, to_first, to_second, joins_line, joins_twice}
use Rattle.cells.specs.Nests.{Nest, empty, timed_leaf, work_leaf, join}

-- what stands past the end of the cells
abbrev pub absent : Cell
absent = record { name = record { bytes = []; len = 0 }; body = body.Blank }

abbrev pub at : List Cell → ℕ → Cell
at cs i = slice_index_or cs i absent

abbrev pub body_at : List Cell → ℕ → Body
body_at cs i = (get_or cs i absent).body

-- the same cell with another device
abbrev pub with_body : Cell → Body → Cell
with_body c b = record { name = c.name; body = b }

unfoldable pub put : List Cell → ℕ → Body → List Cell
put cs i b = slice_set cs i (with_body (at cs i) b)

-- the lines that a line joins
abbrev pub first_of : Body → ℕ
first_of body.Blank = 0
first_of (body.Timed t) = 0
first_of (body.Work w) = 0
first_of (body.Join k a b q) = a

abbrev pub second_of : Body → ℕ
second_of body.Blank = 0
second_of (body.Timed t) = 0
second_of (body.Work w) = 0
second_of (body.Join k a b q) = b

abbrev pub is_join : Body → Bool
is_join body.Blank = false
is_join (body.Timed t) = false
is_join (body.Work w) = false
is_join (body.Join k a b q) = true

-- a join drives its two devices, by their phases before
unfoldable pub drive_pair : List Cell → Body → ℕ → ℕ → List Cell
drive_pair cs j a b =
    put (put cs a (driven_body (to_first j (body_phase (body_at cs a)) (body_phase (body_at cs b))) (body_at cs a)))
    b (driven_body (to_second j (body_phase (body_at cs a)) (body_phase (body_at cs b))) (body_at cs b))

unfoldable pub drive_by : Bool → List Cell → Body → List Cell
drive_by true cs j = drive_pair cs j (first_of j) (second_of j)
drive_by false cs j = cs

abbrev pub drive_line : ℕ → List Cell → List Cell
drive_line i cs = drive_by (is_join (body_at cs i)) cs (body_at cs i)

-- lines from last to first drive
unfoldable pub drive_from : ℕ → List Cell → List Cell
drive_from zero cs = cs
drive_from (suc n) cs = drive_from n (drive_line n cs)

unfoldable pub answer_line : ℕ → List Cell → List Cell
answer_line i cs =
    put cs i (answered_body (body_at cs i) (body_at cs (first_of (body_at cs i))) (body_at cs (second_of (body_at cs i))))

-- lines from first to last answer
unfoldable pub answer_to : ℕ → List Cell → List Cell
answer_to zero cs = cs
answer_to (suc n) cs = answer_line n (answer_to n cs)

-- one step of the first n lines
abbrev pub stepped : ℕ → List Cell → List Cell
stepped n cs = answer_to n (drive_from n cs)

unfoldable pub reset_to : ℕ → List Cell → List Cell
reset_to zero cs = cs
reset_to (suc n) cs = put (reset_to n cs) n (reset_body (body_at (reset_to n cs) n))

-- the nested tree of a line, its devices being those of the lines that it joins
abbrev pub nest_of : Body → (ℕ → Nest) → Nest
nest_of body.Blank f = empty Run
nest_of (body.Timed t) f = timed_leaf t
nest_of (body.Work w) f = work_leaf w
nest_of (body.Join k a b q) f = join k q (f a) (f b)

-- the nested tree of line i, at most n lines deep
unfoldable pub nest : ℕ → List Cell → ℕ → Nest
nest zero cs i = empty Run
nest (suc n) cs i = nest_of (body_at cs i) (nest n cs)

abbrev pub is_blank : Body → Bool
is_blank body.Blank = true
is_blank (body.Timed t) = false
is_blank (body.Work w) = false
is_blank (body.Join k a b q) = false

-- lines join earlier lines, and no line is joined twice
pub record Wired (n : ℕ) (cs : List Cell) : Type 0 where
  pub fits : n ≤ length cs
  pub filled : (j : ℕ) → j < n → is_blank (body_at cs j) ≡ false
  pub earlier : (j k : ℕ) → j < n → joins_line k (body_at cs j) ≡ true → k < j
  pub apart : (j : ℕ) → j < n → joins_twice (body_at cs j) ≡ false
  pub once : (i j k : ℕ) → i < j → j < n → joins_line k (body_at cs i) ≡ true → joins_line k (body_at cs j) ≢ true
