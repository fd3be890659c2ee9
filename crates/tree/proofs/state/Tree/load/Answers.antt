use Rattle.std.proofs.Common.{arith}
use Rattle.topology.specs.Tables.{nodes_in}
use Rattle.tree.proofs.Piles.{tree_begun}
use Rattle.tree.proofs.Tops.{laid_at, laid_fresh, laid_order}
use Rattle.tree.proofs.state.Tree.load.Goals as goal

pub invariant_of-self-in-Ok : goal.invariant_of-self-in-Ok
invariant_of-self-in-Ok c =
    let told = c.in-Ok.ensures in
    let o = laid_order c.len-self.result (nodes_in c.in-Ok.plan) c.lay.new.cells c.len-self.ensures told.sound (omega (arith, told.fits)) c.lay.ensures in
    record {
      wired = laid_at _ (nodes_in c.in-Ok.plan) _ c.len-self.ensures told.sound (omega (arith, told.fits)) c.lay.ensures;
      order = ∣ o.1 ∣₁;
    }

pub returns-in-Ok-clause-fresh : goal.returns-in-Ok-clause-fresh
returns-in-Ok-clause-fresh c =
    let told = c.in-Ok.ensures in
    laid_fresh _ (nodes_in c.in-Ok.plan) _ c.len-self.ensures told.sound (omega (arith, told.fits)) c.lay.ensures

pub returns-in-Ok-clause-order : goal.returns-in-Ok-clause-order
returns-in-Ok-clause-order c =
    let told = c.in-Ok.ensures in
    (laid_order c.len-self.result (nodes_in c.in-Ok.plan) c.lay.new.cells c.len-self.ensures told.sound (omega (arith, told.fits)) c.lay.ensures).0

pub returns-in-Ok-clause-begun : goal.returns-in-Ok-clause-begun
returns-in-Ok-clause-begun c =
    let told = c.in-Ok.ensures in
    let o = laid_order c.len-self.result (nodes_in c.in-Ok.plan) c.lay.new.cells c.len-self.ensures told.sound (omega (arith, told.fits)) c.lay.ensures in
    tree_begun _ _ o.0
