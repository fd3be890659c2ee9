use Rattle.std.proofs.Common.{ap, ◌∙◌, sym}
use Rattle.cells.specs.declared.cell.Body.TheVariants as body
use Rattle.cells.specs.Bodies.{reset_body}
use Rattle.cells.proofs.cell.Body.reset.Goals as goal

pub returns-in-Timed : goal.returns-in-Timed
returns-in-Timed c = ap body.Timed c.restarted.ensures ∙ sym (ap reset_body c.in-Timed.is)

pub returns-in-Work : goal.returns-in-Work
returns-in-Work c = ap body.Work c.restarted-in-Work.ensures ∙ sym (ap reset_body c.in-Work.is)
