-- What a load lays into the cells: each line as after a reset, spare cells blank.
use Rattle.std.specs.Prelude.{◌≡◌, ℕ, ◌+◌, ◌%◌, ◌<◌, max, List, length, Some, None, Ok, Err, Option, Result}
use Rattle.std.specs.List.{slice_get}
use Rattle.channel.specs.Ends.{at_rest}
use Rattle.leaves.specs.declared.timed.Timed.{Timed}
use Rattle.leaves.specs.Timed as timed
use Rattle.leaves.specs.Work as work
use Rattle.joins.specs.declared.rules.Kind.TheVariants.{Distributor, Sequencer}
use Rattle.topology.specs.declared.fault.Fault.{Fault}
use Rattle.topology.specs.declared.node.Node.{Node}
use Rattle.topology.specs.declared.node.Part.{Part}
use Rattle.topology.specs.declared.node.Part.TheVariants as part
use Rattle.cells.specs.declared.cell.Body.{Body}
use Rattle.cells.specs.declared.cell.Body.TheVariants as body
use Rattle.cells.specs.declared.cell.Cell.{Cell}
use Rattle.cells.specs.Bodies.{blank}
use Rattle.cells.specs.Flat.{at}

-- a line's tag is its number, counted from 1
abbrev pub tag_of : ℕ → ℕ
tag_of i = i % 256 + 1

-- a timed leaf just made
pub record FreshTimed (tag d e k : ℕ) (b : Body) : Type 0 where
  pub leaf : Timed
  pub is : b ≡ body.Timed leaf
  pub made : leaf ≡ timed.made tag leaf.delays k
  pub answer : leaf.delays.answer ≡ max d 1
  pub wake : leaf.delays.wake ≡ max e 1

-- the device of a line, as after a reset
abbrev pub Fresh : ℕ → Part → Body → Type 0
Fresh tag (part.Timed d e k) b = FreshTimed tag d e k b
Fresh tag (part.Work p) b = b ≡ body.Work (work.made tag p)
Fresh tag (part.Dist x y) b = b ≡ body.Join Distributor x y at_rest
Fresh tag (part.Seq x y) b = b ≡ body.Join Sequencer x y at_rest

-- the cell of line i, where there is one, else a blank cell
abbrev pub LineIs : ℕ → Option Node → Cell → Type 0
LineIs i (Some n) c = (c.name ≡ n.name) × Fresh (tag_of i) n.part c.body
LineIs i None c = c ≡ blank

-- all cells after a load of these nodes
abbrev pub Laid : List Node → List Cell → Type 0
Laid ns cs = (i : ℕ) → i < length cs → LineIs i (slice_get ns i) (at cs i)

-- all cells are blank
abbrev pub AllBlank : List Cell → Type 0
AllBlank cs = (i : ℕ) → i < length cs → at cs i ≡ blank

-- what a load answers, and what the cells and the count of lines are then
abbrev pub load_answer : Result (List Node) Fault → Result Unit Fault
load_answer (Ok ns) = Ok tt
load_answer (Err f) = Err f

abbrev pub LoadedAs : Result (List Node) Fault → ℕ → List Cell → Type 0
LoadedAs (Ok ns) n cs = (n ≡ length ns) × Laid ns cs
LoadedAs (Err f) n cs = (n ≡ 0) × AllBlank cs
