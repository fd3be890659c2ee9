use Rattle.std.proofs.Common.{◌≡◌, ◌++◌, drop}
use Rattle.cells.specs.Flat.{reset_to}
use Rattle.cells.proofs.lines.reset_lines.Given as goal

abbrev pub invariant-loop-cell : goal.invariant-loop-cell
invariant-loop-cell l = l.cell-items ++ drop l.n l.fn.cells ≡ reset_to l.cell-index l.fn.cells
