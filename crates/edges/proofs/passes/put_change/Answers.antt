use Rattle.std.proofs.Common.{cond, [], ◌∷◌, refl, ap, ◌∙◌, subst}
use Rattle.trace.specs.Texts.{edge_text}
use Rattle.trace.specs.Written.{Adds}
use Rattle.trace.proofs.Lays.{adds_none}
use Rattle.edges.specs.Edges.{change}
use Rattle.edges.specs.Lines.{name_at, edge_lines}
use Rattle.edges.proofs.Writes.{agrees, same_numbers, moved_edges}
use Rattle.edges.proofs.passes.put_change.Goals as goal

pub returns-then-ne : goal.returns-then-ne
returns-then-ne c =
    let tick = c.args.sheet.now.tick.now in
    subst (Adds c.args.sheet.now c.put_moved.new.sheet)
    (moved_edges tick c.as_bytes.result.now (name_at c.args.cells.now) c.args.before c.phase_of-phase.result c.args.i (c.as_bytes.ensures ∙ c.name_of-name.ensures)
    ∙ ap (λ q. edge_lines tick (name_at c.args.cells.now) (change c.args.before q c.args.i)) c.phase_of-phase.ensures)
    c.put_moved.ensures

pub returns-else-ne : goal.returns-else-ne
returns-else-ne c =
    let tick = c.args.sheet.now.tick.now in
    let names = name_at c.args.cells.now in
    let q = c.phase_of-phase.result in
    subst (Adds c.args.sheet.now c.args.sheet.now)
    (moved_edges tick (names c.args.i) names c.args.before q c.args.i refl
    ∙ ap (λ q. edge_lines tick names (change c.args.before q c.args.i)) c.phase_of-phase.ensures)
    (subst (λ b. Adds c.args.sheet.now c.args.sheet.now (cond b [] (edge_text tick (names c.args.i) q ∷ [])))
    (agrees _ c.if-ne.ensures ∙ same_numbers c.args.before q)
    (adds_none _))
