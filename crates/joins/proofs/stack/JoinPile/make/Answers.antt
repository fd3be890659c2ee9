use Rattle.joins.specs.Shows.{join_fits}
use Rattle.joins.proofs.stack.JoinPile.make.Goals as goal

pub returns-clause-linked : goal.returns-clause-linked
returns-clause-linked g c = λ w. record {
  called = c.own_call.ensures.called w;
  timed = c.own_call.ensures.timed w;
  fit = join_fits g.met.A.QDevice.in_order g.met.B.QDevice.in_order c.own_call.new.device (c.own_call.ensures.kept w);
}
