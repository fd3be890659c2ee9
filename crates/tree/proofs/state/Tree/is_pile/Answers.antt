use Rattle.std.proofs.Common.{◌≡◌, ap, ◌∙◌, arith}
use Rattle.std.proofs.lemmas.Grind.{common_steps}
use Rattle.tree.specs.Trees.{lines_of}
use Rattle.tree.proofs.Piles.{joins_of, top_joined}
use Rattle.tree.proofs.state.Tree.is_pile.Goals as goal

pub returns : goal.returns
returns c =
    let t = c.args.self.now in
    let e : c.is_some_and.result ≡ joins_of c.top.result = grind (arith, common_steps) in
    e ∙ (ap joins_of c.top.ensures ∙ top_joined t.count t.own (lines_of t))
