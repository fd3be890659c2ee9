use Rattle.powerdown.specs.Laws.{pair_certain}
use Rattle.powerdown.proofs.pair.Pair.ask_stop.Goals as goal

pub invariant_of-self-clause-ordered : goal.invariant_of-self-clause-ordered
invariant_of-self-clause-ordered g c = ∣ c.lower.ensures.kept (pair_certain _ c.args.self.now.ordered) ∣₁
