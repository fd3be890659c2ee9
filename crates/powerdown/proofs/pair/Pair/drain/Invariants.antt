use Rattle.std.proofs.Common.{◌≡◌}
use Rattle.powerdown.proofs.pair.Pair.drain.Given as goal

abbrev pub invariant-loop : goal.invariant-loop
invariant-loop g l = l.tally.longest ≡ l.initial.tally.longest
