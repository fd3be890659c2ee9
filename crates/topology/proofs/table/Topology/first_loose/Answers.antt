use Rattle.std.proofs.Common.{◌≡◌, ◌-◌, true, false, length, ap, ◌∙◌, arith, rules}
use Rattle.std.proofs.lemmas.Iterator.{first_from_Range}
use Rattle.std.proofs.lemmas.List.{length-take-le}
use borrow.Author.Tests.{tests}
use Rattle.topology.specs.Nodes.{joined}
use Rattle.topology.specs.Tables.{nodes_in}
use Rattle.topology.specs.Format.{loose}
use Rattle.topology.proofs.Turns.{loose_first}
use Rattle.topology.proofs.table.Topology.first_loose.Goals as goal

pub returns-clause-value : goal.returns-clause-value
returns-clause-value c =
    let t = c.args.self.now in
    let ns = nodes_in t in
    let e = first_from_Range _ _ _ c.find.result (λ k. joined k ns ≡ false) (λ k. joined k ns ≡ true) c.find.ensures.ran (λ x q k. search (rules, tests)) (λ x q k. search (rules, tests)) in
    let size = length-take-le t.count t.nodes (omega arith) in
    let less : c.saturating_sub.result ≡ length ns - 1 = omega (arith, c.saturating_sub.ensures, size) in
    loose_first c.saturating_sub.result (λ k. joined k ns) c.find.result e ∙ ap (λ n. loose n 0 (λ k. joined k ns)) less
