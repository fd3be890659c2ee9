use Rattle.joins.proofs.Whole.{together_lowered, lowers}
use Rattle.joins.proofs.join.JoinQDevice.lower.Goals as goal

pub returns-clause-order : goal.returns-clause-order
returns-clause-order g c = λ w.
    let i = c.args.self.now in
    rw c.lower.ensures.end (lowers i.end.phase i.end.denier _ _ w.together
    (g.met.A.QDevice.in_order i.first w.first).sound (g.met.B.QDevice.in_order i.second w.second).sound)

pub returns-clause-kept : goal.returns-clause-kept
returns-clause-kept g c = λ w.
    let i = c.args.self.now in
    record {
      first = w.first;
      second = w.second;
      together = rw c.lower.ensures.end (together_lowered i.end.phase i.end.denier _ _ w.together);
      sequence = w.sequence;
    }
