use Rattle.std.proofs.Common.{◌+◌, ◌<◌, ◌∷◌, length, sym, ap, ◌∙◌, eqb-true, arith, rules}
use Rattle.std.proofs.lemmas.Bool.{eqb-false}
use Rattle.std.proofs.lemmas.List.{length-drop}
use Rattle.words.specs.Pieces.{lines_of, line_end}
use Rattle.words.proofs.Cuts.{lines_at, lines_none}
use Rattle.words.proofs.piece.LinesIterator.next.Goals as goal

pub returns-then-is_empty-clause-steps : goal.returns-then-is_empty-clause-steps
returns-then-is_empty-clause-steps c = let e = lines_none c.args.self.now.rest.now (eqb-true _ _ (sym c.is_empty.ensures ∙ c.if-is_empty.true)) in (e, e)

pub returns-clause-steps : goal.returns-clause-steps
returns-clause-steps c =
    let t = c.args.self.now.rest.now in
    let some : 0 < length t = omega (arith, eqb-false _ _ (sym c.is_empty.ensures ∙ c.if-is_empty.false)) in
    lines_at t some ∙ (λ i. sym c.split_line.ensures.line i ∷ lines_of (sym c.split_line.ensures.rest i))

pub returns-clause-goes : goal.returns-clause-goes
returns-clause-goes c =
    let t = c.args.self.now.rest.now in
    let some : 0 < length t = omega (arith, eqb-false _ _ (sym c.is_empty.ensures ∙ c.if-is_empty.false)) in
    let after = ap length c.split_line.ensures.rest ∙ length-drop (line_end t + 1) t in
    search (rules, after, some)
