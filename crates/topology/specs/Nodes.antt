-- Nodes, as lines become them one after another. Assumes nothing.
use Rattle.std.specs.Prelude.{ℕ, suc, Bool, false, cond, ◌||◌, List, [], ◌∷◌, is_some, Some, None, Ok, Err, Option, Result, ◌==◌}
use Rattle.std.specs.List.{list_any}
use Rattle.std.specs.Str.{bytes_eq}
use Rattle.words.specs.Numbers.{number_of}
use Rattle.words.specs.Names.{name_of, text_of}
use Rattle.lines.specs.declared.flaw.Flaw.{Flaw}
use Rattle.lines.specs.declared.flaw.Flaw.TheVariants.{NameTaken, BadNumber, NoSuchLine, AlreadyJoined}
use Rattle.topology.specs.declared.node.Node.{Node}
use Rattle.topology.specs.declared.node.Part.{Part}
use Rattle.topology.specs.declared.node.Part.TheVariants.{Timed, Work, Dist, Seq}
use Rattle.lines.specs.Lines.{Said, timed, work, dist, seq, name_in}

-- go on with what was made, or keep the refusal
abbrev pub and_then : {A B E : Type 0} → Result A E → (A → Result B E) → Result B E
and_then (Ok a) f = f a
and_then (Err e) f = Err e

-- what stands past the end of a list of nodes
abbrev pub absent : Node
absent = record { name = record { bytes = []; len = 0 }; part = Timed 0 0 0 }

-- the name of a node
abbrev pub called : Node → List ℕ
called n = text_of n.name

-- one line further down
abbrev pub next : Option ℕ → Option ℕ
next None = None
next (Some k) = Some (suc k)

-- the line, from 0, of the first node of a name
unfoldable pub named : List Node → List ℕ → Option ℕ
named [] w = None
named (n ∷ ns) w = cond (bytes_eq (called n) w) (Some 0) (next (named ns w))

-- whether a part joins line j
abbrev pub part_joins : ℕ → Part → Bool
part_joins j (Timed d e k) = false
part_joins j (Work p) = false
part_joins j (Dist a b) = a == j || b == j
part_joins j (Seq a b) = a == j || b == j

-- whether some node joins line j
abbrev pub joined : ℕ → List Node → Bool
joined j ns = list_any (λ n. part_joins j n.part) ns

-- a number of low to 255
abbrev pub number_in : ℕ → List ℕ → Result ℕ Flaw
number_in low w = elim (number_of low w) [ Some v ↦ Ok v | None ↦ Err BadNumber ]

-- an earlier line of this name that is not joined yet
abbrev pub child_of : List Node → List ℕ → Result ℕ Flaw
child_of ns w = elim (named ns w) [ Some j ↦ cond (joined j ns) (Err AlreadyJoined) (Ok j) | None ↦ Err NoSuchLine ]

-- two of them
abbrev pub children_of : List Node → List ℕ → List ℕ → Result (ℕ × ℕ) Flaw
children_of ns v w = and_then (child_of ns v) (λ a. and_then (child_of ns w) (λ b. cond (a == b) (Err AlreadyJoined) (Ok (a, b))))

-- the rest of a timed line
abbrev pub timed_of : List ℕ → List ℕ → List ℕ → Result Part Flaw
timed_of d e k = and_then (number_in 1 d) (λ d. and_then (number_in 1 e) (λ e. and_then (number_in 0 k) (λ k. Ok (Timed d e k))))

abbrev pub part_of : List Node → Said → Result Part Flaw
part_of ns (timed n d e k) = timed_of d e k
part_of ns (work n p) = and_then (number_in 0 p) (λ p. Ok (Work p))
part_of ns (dist n v w) = and_then (children_of ns v w) (λ c. Ok (Dist c.0 c.1))
part_of ns (seq n v w) = and_then (children_of ns v w) (λ c. Ok (Seq c.0 c.1))

-- the node of a line, after the nodes of the lines before it
abbrev pub node_of : List Node → Said → Result Node Flaw
node_of ns s = cond (is_some (named ns (name_in s))) (Err NameTaken) (and_then (part_of ns s) (λ p. Ok (record { name = name_of (name_in s); part = p })))
