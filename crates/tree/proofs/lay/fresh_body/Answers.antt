use Rattle.std.proofs.Common.{sym, refl, ap, subst}
use Rattle.cells.specs.declared.cell.Body.TheVariants as body
use Rattle.tree.specs.Loads.{Fresh}
use Rattle.tree.proofs.lay.fresh_body.Goals as goal

pub returns-in-Timed : goal.returns-in-Timed
returns-in-Timed c =
    subst (λ p. Fresh c.args.tag p (body.Timed c.new.result)) (sym c.in-Timed.is)
    (record {
      leaf = c.new.result;
      is = refl;
      made = c.new.ensures.made;
      answer = c.new.ensures.delays.0;
      wake = c.new.ensures.delays.1;
    })

pub returns-in-Work : goal.returns-in-Work
returns-in-Work c = subst (λ p. Fresh c.args.tag p (body.Work c.new-in-Work.result)) (sym c.in-Work.is) (ap body.Work c.new-in-Work.ensures)
