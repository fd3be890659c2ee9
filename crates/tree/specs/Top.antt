-- The nested tree of lines in cells.
use Rattle.std.specs.Prelude.{ℕ, zero, suc, List}
use Rattle.channel.specs.declared.phase.Phase.{Phase}
use Rattle.cells.specs.declared.cell.Cell.{Cell}
use Rattle.cells.specs.Nests.{Nest, empty}
use Rattle.cells.specs.Flat.{nest}

-- that of the last of n lines, or the empty one
abbrev pub top : ℕ → Phase → List Cell → Nest
top zero own cs = empty own
top (suc t) own cs = nest (suc t) cs t
