use Rattle.std.proofs.Common.{arith}
use Rattle.watch.proofs.Walks.{steps_none, steps_more, walked_none, walked_more}
use Rattle.watch.proofs.settle.walk.Goals as goal

pub loop-taken-init : goal.loop-taken-init
loop-taken-init g c = record {
  kept = λ r. r;
  in_time = λ r o. let p = g.met.W.Watched.pending c.args.design.now r in (p.some_left o, omega (arith, p.at_most o));
  walked = walked_none _ _ _;
  counted = steps_none _;
}

pub loop-taken-preserved : goal.loop-taken-preserved
loop-taken-preserved g c = record {
  kept = λ r. c.watch_step.ensures.kept (c.loop-taken.invariant.kept r);
  in_time = λ r o.
      let i = c.loop-taken.invariant in
      let s = c.watch_step.ensures in
      let p = g.met.W.Watched.pending c.watch_step.new.self (s.kept (i.kept r)) in
      (p.some_left o, omega (arith, s.fewer (i.kept r) (cc) o, i.in_time r (cc)));
  walked = walked_more _ _ _ _ _ _ c.loop-taken.invariant.walked (cc) c.watch_step.ensures.exact;
  counted = steps_more _ _ _ _ c.loop-taken.invariant.counted c.watch_step.ensures.counted;
}
