use Rattle.std.proofs.Common.{◌≡◌, [], ◌∷◌, ap, ◌∙◌, subst, arith}
use denote.Enum.Bare.{sameb}
use Rattle.channel.specs.contracts.phase.Phase.{the_type}
use Rattle.channel.specs.declared.phase.Phase.TheVariants.{Denied}
use Rattle.cells.specs.Bodies.{body_phase, body_denier}
use Rattle.cells.specs.Flat.{body_at}
use Rattle.trace.specs.Texts.{denied_text}
use Rattle.trace.specs.Written.{Adds}
use Rattle.trace.proofs.Lays.{adds_one}
use Rattle.edges.specs.Edges.{phase_at}
use Rattle.edges.specs.Lines.{name_at, leaf_name}
use Rattle.edges.proofs.Writes.{ends_empty, ends_at, ends_still, ends_other, ends_denied}
use Rattle.edges.proofs.told.put_ending.Goals as goal
use Rattle.edges.proofs.told.put_ending.Goals.{else-ne-via-then-ne+else-eq, else-ne-via-else-ne}

pub returns-in_default : goal.returns-in_default
returns-in_default c = ends_empty _ _ c.args.before c.args.n c.args.cells.now (omega (arith, c.in_default.ensures))

pub returns-then-eq : goal.returns-then-eq
returns-then-eq c =
    let cs = c.args.cells.now in
    let q : c.phase.result ≡ phase_at cs c.in-Some.top = c.phase.ensures ∙ ap body_phase c.body_of-body.ensures in
    let w : c.as_bytes.result.now ≡ name_at cs c.in-Some.top = c.as_bytes.ensures ∙ c.name_of-name.ensures in
    let l : c.as_bytes-then-eq.result.now ≡ leaf_name cs (body_denier (body_at cs c.in-Some.top)) =
    c.as_bytes-then-eq.ensures ∙ (c.leaf_of-leaf.ensures ∙ ap (leaf_name cs) (c.denier.ensures ∙ ap body_denier c.body_of-body.ensures)) in
    let e = c.put_denied.ensures in
    ends_at _ _ _ c.args.before c.args.n c.in-Some.top cs (omega (arith, c.in-Some.ensures))
    (ends_denied _ c.args.before _ _ _ c.if-ne.ensures (c.if-eq.ensures ∙ ap (λ x. sameb the_type x Denied) q)
    (subst (λ x. Adds c.args.sheet.now c.put_denied.new.self (x ∷ [])) (λ i. denied_text c.args.sheet.now.tick.now (w i) (l i)) (adds_one _ _ _ e.line e.same)))

pub returns-else-ne : goal.returns-else-ne
returns-else-ne c =
    let cs = c.args.cells.now in
    ends_at _ _ _ c.args.before c.args.n c.in-Some.top cs (omega (arith, c.in-Some.ensures))
    (elim c.else-ne.branch [
      | else-ne-via-then-ne+else-eq w ↦ ends_other _ c.args.before _ _ w.if-ne.ensures (w.if-eq.ensures ∙ ap (λ x. sameb the_type x Denied) (w.phase.ensures ∙ ap body_phase c.body_of-body.ensures))
      | else-ne-via-else-ne w ↦ ends_still _ c.args.before _ _ w.if-ne.ensures
    ])
