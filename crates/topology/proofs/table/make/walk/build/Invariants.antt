use Rattle.words.specs.Pieces.{lines_left}
use Rattle.topology.specs.Tables.{nodes_in}
use Rattle.topology.proofs.Turns.{Sofar}
use Rattle.topology.proofs.table.make.walk.build.Given as goal

abbrev pub invariant-loop-line : goal.invariant-loop-line
invariant-loop-line l = Sofar l.text (nodes_in l.topology) (lines_left l.line-iterator)
