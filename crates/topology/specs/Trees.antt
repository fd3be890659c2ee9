-- What holds of the nodes of every text that is read. Assumes nothing.
use Rattle.std.specs.Prelude.{◌≡◌, ℕ, ◌+◌, ◌*◌, ◌<◌, ◌≤◌, true, List, [], ◌∷◌, length, get_or, ◌≢◌, slice_index_or}
use Rattle.words.specs.Names.{legal, name_of}
use Rattle.topology.specs.declared.node.Node.{Node}
use Rattle.topology.specs.declared.node.Part.{Part}
use Rattle.topology.specs.declared.node.Part.TheVariants.{Timed, Work, Dist, Seq}
use Rattle.topology.specs.Nodes.{absent, called, part_joins}

-- the node of line j, from 0
abbrev pub node_of_line : List Node → ℕ → Node
node_of_line ns j = slice_index_or ns j absent

abbrev pub part_of_line : List Node → ℕ → Part
part_of_line ns j = (get_or ns j absent).part

abbrev pub name_of_line : List Node → ℕ → List ℕ
name_of_line ns j = called (slice_index_or ns j absent)

-- the lines that a part joins are below n
abbrev pub JoinsBelow : ℕ → Part → Type 0
JoinsBelow n (Timed d e k) = Unit {0}
JoinsBelow n (Work p) = Unit {0}
JoinsBelow n (Dist a b) = (a < n) × (b < n)
JoinsBelow n (Seq a b) = (a < n) × (b < n)

-- numbers as they may be, and two lines that are not one
abbrev pub SoundPart : Part → Type 0
SoundPart (Timed d e k) = (1 ≤ d) × (d ≤ 255) × (1 ≤ e) × (e ≤ 255) × (k ≤ 255)
SoundPart (Work p) = p ≤ 255
SoundPart (Dist a b) = a ≡ b → ⊥
SoundPart (Seq a b) = a ≡ b → ⊥

-- how many lines join others
abbrev pub join_count : Part → ℕ
join_count (Timed d e k) = 0
join_count (Work p) = 0
join_count (Dist a b) = 1
join_count (Seq a b) = 1

unfoldable pub joins_in : List Node → ℕ
joins_in [] = 0
joins_in (n ∷ ns) = join_count n.part + joins_in ns

pub record WellFormed (ns : List Node) : Type 0 where
  pub some : 0 < length ns
  pub few : length ns ≤ 127
  -- a line joins earlier lines only
  pub earlier : (j : ℕ) → j < length ns → JoinsBelow j (part_of_line ns j)
  -- numbers are in their ranges, and a join is of two lines
  pub sound : (j : ℕ) → j < length ns → SoundPart (part_of_line ns j)
  -- no two lines join the same
  pub once : (i j : ℕ) → i < j → j < length ns → (k : ℕ) → part_joins k (part_of_line ns i) ≡ true → part_joins k (part_of_line ns j) ≢ true
  -- every line but the last is joined, by a later one
  pub owned : (k : ℕ) → k + 1 < length ns → (j : ℕ) × (k < j) × (j < length ns) × (part_joins k (part_of_line ns j) ≡ true)
  -- names are legal, stored with zeros behind them, and differ
  pub legal_names : (j : ℕ) → j < length ns → legal (name_of_line ns j) ≡ true
  pub stored : (j : ℕ) → j < length ns → name_of (name_of_line ns j) ≡ (node_of_line ns j).name
  pub distinct : (i j : ℕ) → i < j → j < length ns → name_of_line ns i ≢ name_of_line ns j
  -- at most every second line is a join
  pub few_joins : 2 * joins_in ns ≤ length ns
