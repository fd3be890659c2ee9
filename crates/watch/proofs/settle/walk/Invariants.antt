use Rattle.std.proofs.Common.{◌≡◌, ◌+◌, ◌≤◌, true}
use Rattle.watch.specs.Watched.{Walked}
use Rattle.watch.specs.Tally.{with_steps}
use Rattle.watch.proofs.settle.walk.Given as goal

-- at most the bound is used up by the steps taken and the steps left; all of them are counted
abbrev pub invariant-loop-taken : goal.invariant-loop-taken
invariant-loop-taken g l = record {
  kept : g.W.Watched.ready l.initial.design → g.W.Watched.ready l.design;
  in_time : g.W.Watched.ready l.initial.design → g.W.Watched.changing l.design ≡ true
      → (1 ≤ g.W.Watched.left l.design) × (g.W.Watched.left l.design + l.taken ≤ g.W.Watched.BOUND);
  walked : Walked g.W.Watched.changing g.W.Watched.stepped l.taken l.initial.design l.design;
  counted : l.tally ≡ with_steps l.taken l.initial.tally;
}
