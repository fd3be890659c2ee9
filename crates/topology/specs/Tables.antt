-- The nodes that a topology holds. Assumes nothing.
use Rattle.std.specs.Prelude.{◌≡◌, ℕ, List, take, Ok, Err, Result}
use Rattle.topology.specs.declared.fault.Fault.{Fault}
use Rattle.topology.specs.declared.node.Node.{Node}
use Rattle.topology.specs.declared.table.Topology.{Topology}
use Rattle.topology.specs.Format.{outcome}

abbrev pub nodes_in : Topology → List Node
nodes_in t = take t.count t.nodes

-- the nodes that were read, or the fault
abbrev pub told : Result Topology Fault → Result (List Node) Fault
told (Ok t) = Ok (nodes_in t)
told (Err f) = Err f

-- no other text reads as these nodes
abbrev pub ReadAlone : List ℕ → List Node → Type 0
ReadAlone t ns = (other : List ℕ) (cells : ℕ) → outcome other cells ≡ Ok ns → other ≡ t
