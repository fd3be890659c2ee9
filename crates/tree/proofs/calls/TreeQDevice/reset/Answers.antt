use Rattle.std.proofs.Common.{sym, refl, subst}
use Rattle.channel.specs.declared.device.Call.TheVariants as call
use Rattle.channel.specs.declared.phase.Phase.TheVariants.{Stopped}
use Rattle.cells.specs.Nests.{NestOrder}
use Rattle.cells.specs.Flat.{Wired}
use Rattle.cells.proofs.Calls.{reset_all, reset_wired}
use Rattle.tree.specs.Top.{top}
use Rattle.tree.specs.Ordered.{tree_order}
use Rattle.tree.specs.Trees.{lines_of}
use Rattle.tree.proofs.Tops.{tree_made, reset_order, rest_order, reset_ordered}
use Rattle.tree.proofs.calls.TreeQDevice.reset.Goals as goal

pub invariant_of-self : goal.invariant_of-self
invariant_of-self c =
    let t = c.args.self.now in
    record { wired = t.wired; order = ∣ rest_order t.count t.own (lines_of t) (tree_order t) ∣₁ }

pub invariant_of-self-2 : goal.invariant_of-self-2
invariant_of-self-2 c =
    let t = c.args.self.now in
    record {
      wired = subst (Wired t.count) (sym c.reset_lines.ensures) (reset_wired t.count (lines_of t) _ (reset_all t.count (lines_of t) t.wired.fits) t.wired);
      order = ∣ subst (λ cs. NestOrder (top t.count Stopped cs)) (sym c.reset_lines.ensures) (reset_ordered t.count t.own (lines_of t) t.wired) ∣₁;
    }

pub returns : goal.returns
returns c =
    let m = tree_made call.Restart c.args.self.now _ refl c.reset_lines.ensures refl refl in
    record { exact = m; order = (reset_order _ _ m).0; pace = (reset_order _ _ m).1; kept = tt }
