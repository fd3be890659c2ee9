-- A text of one join.
use Rattle.std.proofs.Common.{◌≡◌, Err, codes, refl}
use Rattle.words.specs.Pieces.{lines_of}
use Rattle.lines.specs.declared.flaw.Flaw.TheVariants.{NoSuchLine}
use Rattle.topology.specs.declared.fault.Fault.TheVariants.{BadLine}
use Rattle.topology.specs.Nodes.{named}
use Rattle.topology.specs.Format.{nodes_on, outcome}

pub lone_join : outcome (codes "seq a b c\n") 127 ≡ Err (BadLine NoSuchLine 1)
unfolding lines_of named nodes_on
lone_join = refl
