use Rattle.std.proofs.Common.{◌≡◌, is_ok, arith}
use Rattle.std.proofs.lemmas.Grind.{common_steps}
use Rattle.tree.proofs.Piles.{own_linked, own_linked_as, job_linked}
use Rattle.tree.proofs.stack.TreePile.make.Goals as goal

pub returns-in-Own-clause-linked : goal.returns-in-Own-clause-linked
returns-in-Own-clause-linked c =
    let t = c.args.self.now in
    let u = c.own_call.new.device in
    let o = c.own_call.ensures in
    let e : is_ok c.map_err.result ≡ is_ok c.own_call.result = grind (arith, common_steps) in
    λ f. own_linked_as c.args.call c.in-Own.call _ _ t u c.in-Own.is e
    (own_linked c.in-Own.call (is_ok c.own_call.result) t u o.exact (o.called tt) (o.timed tt) f)

pub returns-in-Job-clause-linked : goal.returns-in-Job-clause-linked
returns-in-Job-clause-linked c =
    let o = c.job.ensures in
    job_linked c.args.call c.in-Job.name c.in-Job.jobs _ _ _ c.in-Job.is o.order o.pace o.joins
