use Rattle.std.proofs.Common.{◌≡◌}
use Rattle.tree.specs.Jobs.{line_named}
use Rattle.tree.proofs.job.find_line.Given as goal

abbrev pub invariant-loop-i : goal.invariant-loop-i
invariant-loop-i l = line_named l.i l.cells l.name ≡ line_named l.n l.cells l.name
