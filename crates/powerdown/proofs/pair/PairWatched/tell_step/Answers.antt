use Rattle.std.proofs.Common.{◌∙◌}
use Rattle.powerdown.specs.Laws.{pair_certain}
use Rattle.powerdown.proofs.Watching.{q_fewer}
use Rattle.powerdown.proofs.pair.PairWatched.tell_step.Goals as goal

pub returns-clause-fewer : goal.returns-clause-fewer
returns-clause-fewer g c = λ _.
    let w = pair_certain _ c.args.self.now.ordered in
    q_fewer _ _ _ _ (c.step.ensures.order w).to (c.step.ensures.pace w)

pub invariant_of-self : goal.invariant_of-self
invariant_of-self g c =
    let w = pair_certain _ c.args.self.now.ordered in
    record { ordered = ∣ c.step.ensures.kept w ∣₁; bound = (c.step.ensures.pace w).same_bound ∙ c.args.self.now.bound }
