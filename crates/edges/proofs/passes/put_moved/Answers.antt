use Rattle.std.proofs.Common.{◌≡◌, Bool, true, false, cond, not, [], ◌∷◌, sym, refl, ◌∙◌, subst}
use Rattle.trace.specs.Texts.{edge_text}
use Rattle.trace.specs.Written.{Adds}
use Rattle.trace.proofs.Lays.{adds_none, adds_one}
use Rattle.edges.proofs.Writes.{agrees, same_numbers}
use Rattle.edges.proofs.passes.put_moved.Goals as goal

differs : (b : Bool) → true ≡ not b → false ≡ b
differs true e = sym e
differs false e = refl

pub returns-then-ne : goal.returns-then-ne
returns-then-ne c =
    subst (λ b. Adds c.args.sheet.now c.put_edge.new.self (cond b [] (edge_text c.args.sheet.now.tick.now c.args.name.now c.args.phase ∷ [])))
    (differs _ c.if-ne.ensures ∙ same_numbers c.args.before c.args.phase)
    (adds_one _ _ _ c.put_edge.ensures.line c.put_edge.ensures.same)

pub returns-else-ne : goal.returns-else-ne
returns-else-ne c =
    subst (λ b. Adds c.args.sheet.now c.args.sheet.now (cond b [] (edge_text c.args.sheet.now.tick.now c.args.name.now c.args.phase ∷ [])))
    (agrees _ c.if-ne.ensures ∙ same_numbers c.args.before c.args.phase)
    (adds_none _)
