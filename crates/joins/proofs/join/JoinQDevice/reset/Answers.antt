use Rattle.joins.proofs.Whole.{resets}
use Rattle.joins.proofs.join.JoinQDevice.reset.Goals as goal

pub returns-clause-order : goal.returns-clause-order
returns-clause-order g c =
    rw c.at_rest-self.ensures (resets _ _ _ _ _ _ c.reset.ensures.order c.reset-2.ensures.order)
