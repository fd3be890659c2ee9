use Rattle.std.proofs.Common.{◌≡◌, ap, ◌∙◌, arith}
use Rattle.std.proofs.lemmas.Grind.{common_steps}
use Rattle.tree.specs.Trees.{lines_of}
use Rattle.tree.proofs.Tops.{denier_of, top_denier}
use Rattle.tree.proofs.calls.TreeQDevice.denier.Goals as goal

pub returns : goal.returns
returns c =
    let t = c.args.self.now in
    let e : c.and_then.result ≡ denier_of c.top.result = grind (arith, common_steps) in
    e ∙ (ap denier_of c.top.ensures ∙ top_denier t.count t.own (lines_of t) t.wired)
