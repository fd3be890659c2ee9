use Rattle.std.proofs.Common.{◌≤◌}
use Rattle.powerdown.proofs.island.power_down.Given as goal

abbrev pub invariant-loop-state : goal.invariant-loop-state
invariant-loop-state g l = l.tally.longest ≤ 32
