use Rattle.std.proofs.Common.{None, refl, ◌∙◌}
use Rattle.channel.specs.declared.phase.Phase.TheVariants.{Stopped}
use Rattle.joins.specs.Leaves.{tags-++}
use Rattle.joins.specs.Shows.{rest_begun}
use Rattle.joins.proofs.Whole.{resets}
use Rattle.joins.proofs.join.Join.new.Goals as goal

pub returns-clause-holds : goal.returns-clause-holds
returns-clause-holds g c =
    let a = c.reset.ensures in
    let b = c.reset-2.ensures in
    record {
      leaves = tags-++ (g.A.QDevice.means c.reset.new.self).leaves (g.B.QDevice.means c.reset-2.new.self).leaves
          ∙ rw (a.order.same_tags, b.order.same_tags);
      bound = rw (a.pace, b.pace);
    }

pub returns-clause-begun : goal.returns-clause-begun
returns-clause-begun g c =
    let r = resets Stopped None _ _ _ _ c.reset.ensures.order c.reset-2.ensures.order in
    rw c.at_rest.ensures (rest_begun _ refl r.all_stopped refl)
