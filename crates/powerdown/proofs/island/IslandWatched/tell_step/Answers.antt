use Rattle.std.proofs.Common.{◌∙◌}
use Rattle.powerdown.specs.Laws.{island_certain}
use Rattle.powerdown.proofs.Watching.{p_fewer}
use Rattle.powerdown.proofs.island.IslandWatched.tell_step.Goals as goal

pub returns-clause-fewer : goal.returns-clause-fewer
returns-clause-fewer g c = λ _.
    let w = island_certain _ c.args.self.now.ordered in
    p_fewer _ _ _ _ _ _ _ _ _ c.step.ensures.exact.decides (c.step.ensures.linked w).timed

pub invariant_of-self : goal.invariant_of-self
invariant_of-self g c =
    let l = c.step.ensures.linked (island_certain _ c.args.self.now.ordered) in
    record { ordered = ∣ l.fit.own ∣₁; bound = l.timed.same_bound ∙ c.args.self.now.bound }
