use Rattle.std.proofs.Common.{◌≡◌, subst}
use Rattle.trace.specs.Written.{Adds}
use Rattle.trace.proofs.Lays.{adds_then}
use Rattle.cells.specs.Flat.{stepped}
use Rattle.edges.specs.Lines.{last_phase, denied_lines}
use Rattle.edges.proofs.told.step_told.Goals as goal

pub returns-clause-lines : goal.returns-clause-lines
returns-clause-lines c =
    let p = c.pass_traced.ensures in
    let cs = c.args.cells.now in
    let e : denied_lines c.pass_traced.new.sheet.tick.now c.top_phase-before.result c.args.n c.pass_traced.new.cells ≡ denied_lines c.args.sheet.now.tick.now (last_phase c.args.n cs) c.args.n (stepped c.args.n cs) =
    (λ i. denied_lines (p.lines.same.tick i).now (c.top_phase-before.ensures i) c.args.n (p.cells i)) in
    adds_then _ _ _ _ _ p.lines (subst (Adds c.pass_traced.new.sheet c.put_ending.new.sheet) e c.put_ending.ensures)
