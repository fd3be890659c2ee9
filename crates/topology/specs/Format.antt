-- What a text reads as: the nodes of its lines, or the one fault that holds. Assumes nothing.
use Rattle.std.specs.Prelude.{ℕ, zero, suc, ◌+◌, ◌-◌, Bool, cond, not, List, [], ◌∷◌, ◌++◌, length, Some, None, Ok, Err, Option, Result, ◌==◌, nat_lt, slice_index}
use Rattle.words.specs.Pieces.{lines_of}
use Rattle.lines.specs.declared.flaw.Flaw.{Flaw}
use Rattle.topology.specs.declared.fault.Fault.{Fault}
use Rattle.topology.specs.declared.fault.Fault.TheVariants.{BadSize, Unended, TooManyLines, TooFewCells, BadLine, NeverJoined}
use Rattle.topology.specs.declared.node.Node.{Node}
use Rattle.lines.specs.Lines.{line_of}
use Rattle.topology.specs.Nodes.{and_then, node_of, joined}

-- the count of lines of a text, by its size, its end, its lines and the cells for them
abbrev pub whole : List ℕ → ℕ → Result ℕ Fault
whole t cells =
    cond (length t == 0) (Err BadSize)
    (cond (nat_lt 8192 (length t)) (Err BadSize)
    (cond (not (slice_index t (length t - 1) == 10)) (Err Unended)
    (cond (nat_lt 127 (length (lines_of t))) (Err TooManyLines)
    (cond (nat_lt cells (length (lines_of t))) (Err TooFewCells)
    (Ok (length (lines_of t)))))))

-- a line after the nodes so far
abbrev pub node_at : List Node → List ℕ → Result Node Flaw
node_at ns l = and_then (line_of l) (node_of ns)

-- line by line, after the nodes so far
unfoldable pub nodes_on : List Node → List (List ℕ) → Result (List Node) Fault
nodes_on ns [] = Ok ns
nodes_on ns (l ∷ ls) = elim (node_at ns l) [ Ok n ↦ nodes_on (ns ++ n ∷ []) ls | Err f ↦ Err (BadLine f (length ns + 1)) ]

-- of the next n lines from k on, the first that is not marked
unfoldable pub loose : ℕ → ℕ → (ℕ → Bool) → Option ℕ
loose zero k marked = None
loose (suc n) k marked = cond (marked k) (loose n (k + 1) marked) (Some k)

-- every line before the last is joined, or the lowest is named that is not
abbrev pub tree : List Node → Result (List Node) Fault
tree ns = elim (loose (length ns - 1) 0 (λ k. joined k ns)) [ None ↦ Ok ns | Some k ↦ Err (NeverJoined (k + 1)) ]

-- the nodes of a text, or its fault
abbrev pub outcome : List ℕ → ℕ → Result (List Node) Fault
outcome t cells = and_then (whole t cells) (λ n. and_then (nodes_on [] (lines_of t)) tree)
