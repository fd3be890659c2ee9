use Rattle.std.proofs.Common.{◌≡◌, ◌∙◌, rules}
use Rattle.std.specs.Str.{bytes_eq}
use Rattle.std.proofs.lemmas.Iterator.{YieldsList-from_slice}
use Rattle.std.proofs.lemmas.Iterator.Search.{position_from_yields_List}
use borrow.Author.Tests.{tests}
use Rattle.topology.specs.Nodes.{called}
use Rattle.topology.specs.Tables.{nodes_in}
use Rattle.topology.proofs.Looks.{position_named}
use Rattle.topology.proofs.table.Topology.find.Goals as goal

pub returns : goal.returns
returns c =
    let ns = nodes_in c.args.self.now in
    let w = c.args.w.now in
    let e = position_from_yields_List (λ n. bytes_eq (called n) w) _ _ c.position.result c.position.ensures.ran (YieldsList-from_slice ns (c.iter.ensures.rest ∙ c.nodes.ensures)) (λ x b q k. search (rules, tests)) in
    let same : c.map.result ≡ c.position.result = search rules in
    same ∙ e ∙ position_named ns w
