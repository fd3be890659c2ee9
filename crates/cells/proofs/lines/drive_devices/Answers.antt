use Rattle.std.proofs.Common.{sym, ap, ◌∙◌, arith}
use Rattle.std.proofs.lemmas.Grind.{common_steps}
use Rattle.cells.specs.Bodies.{body_phase}
use Rattle.cells.specs.Flat.{is_join, first_of, second_of, drive_by, drive_pair}
use Rattle.cells.proofs.Seen.{devices_none, devices_some, drove_none, drove_pair}
use Rattle.cells.proofs.lines.drive_devices.Goals as goal

pub returns-in-Some-clause-cells : goal.returns-in-Some-clause-cells
unfolding drive_by drive_pair
returns-in-Some-clause-cells g c = grind (arith, common_steps)

pub returns-in-Some-clause-seen : goal.returns-in-Some-clause-seen
returns-in-Some-clause-seen g c =
    let w = g.met.W.Witness in
    let e = c.body_of-line.ensures in
    let d = devices_some c.body_of-line.result _ (c.in-Some.a, c.in-Some.b) c.devices.ensures c.in-Some.is in
    drove_pair g.W.Witness.saw w.none w.more _ _ _ c.args.cells.now _ c.args.i _ _ _ _
    (ap is_join (sym e) ∙ d.0) (d.1 ∙ ap first_of e) (d.2 ∙ ap second_of e)
    (c.phase-in-Some-2.ensures ∙ ap body_phase c.body_of-x.ensures) (c.phase-in-Some-3.ensures ∙ ap body_phase c.body_of-y.ensures)
    (returns-in-Some-clause-cells g c) c.see.ensures c.see-in-Some.ensures

pub returns-in_default-clause-seen : goal.returns-in_default-clause-seen
returns-in_default-clause-seen g c =
    let w = g.met.W.Witness in
    drove_none g.W.Witness.saw w.none w.more _ c.args.cells.now c.args.i
    (ap is_join (sym c.body_of-line.ensures) ∙ devices_none _ _ c.devices.ensures c.in_default.is)
