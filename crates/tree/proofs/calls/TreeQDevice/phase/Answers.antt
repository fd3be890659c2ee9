use Rattle.std.proofs.Common.{◌≡◌, ap, ◌∙◌, arith}
use Rattle.std.proofs.lemmas.Grind.{common_steps}
use Rattle.tree.specs.Trees.{lines_of}
use Rattle.tree.proofs.Tops.{phase_of, top_phase}
use Rattle.tree.proofs.calls.TreeQDevice.phase.Goals as goal

pub returns : goal.returns
returns c =
    let t = c.args.self.now in
    let e : c.map_or.result ≡ phase_of t.own c.top.result = grind (arith, common_steps) in
    e ∙ (ap (phase_of t.own) c.top.ensures ∙ top_phase t.count t.own (lines_of t) t.wired)
