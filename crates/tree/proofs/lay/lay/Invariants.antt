use Rattle.std.proofs.Common.{◌≡◌, ℕ, ◌<◌, ◌≤◌, List, length}
use Rattle.std.specs.List.{slice_get}
use Rattle.topology.specs.Tables.{nodes_in}
use Rattle.topology.specs.declared.node.Node.{Node}
use Rattle.cells.specs.declared.cell.Cell.{Cell}
use Rattle.cells.specs.Bodies.{blank}
use Rattle.cells.specs.Flat.{at}
use Rattle.tree.specs.Loads.{LineIs}
use Rattle.tree.proofs.lay.lay.Given as goal

pub record Laying (ns : List Node) (i : ℕ) (cs : List Cell) : Type 0 where
  pub done : (k : ℕ) → k < i → k < length cs → LineIs k (slice_get ns k) (at cs k)
  pub left : (k : ℕ) → i ≤ k → k < length cs → at cs k ≡ blank

abbrev pub invariant-loop-i : goal.invariant-loop-i
invariant-loop-i l = Laying (nodes_in l.plan) l.i l.cells
