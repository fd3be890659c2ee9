use Rattle.std.proofs.Common.{sym, refl, subst}
use Rattle.channel.specs.declared.device.Call.TheVariants as call
use Rattle.cells.specs.Nests.{NestOrder}
use Rattle.cells.specs.Flat.{Wired, stepped}
use Rattle.cells.proofs.Calls.{stepped_wired}
use Rattle.tree.specs.Top.{top}
use Rattle.tree.specs.Ordered.{tree_order}
use Rattle.tree.specs.Trees.{lines_of}
use Rattle.tree.proofs.Tops.{tree_made, step_order, own_order, stepped_order}
use Rattle.tree.proofs.calls.TreeQDevice.step.Goals as goal

pub invariant_of-self : goal.invariant_of-self
invariant_of-self c =
    let t = c.args.self.now in
    record {
      wired = t.wired;
      order = ∣ subst (λ p. NestOrder (top t.count p (lines_of t))) (sym c.own_next-self.ensures) (own_order t.count t.own (lines_of t) (tree_order t)) ∣₁;
    }

pub invariant_of-self-2 : goal.invariant_of-self-2
invariant_of-self-2 c =
    let t = c.args.self.now in
    record {
      wired = subst (Wired t.count) (sym c.step_lines.ensures) (stepped_wired t.count (lines_of t) t.wired);
      order = ∣ subst (λ cs. NestOrder (top t.count c.own_next-self.result cs)) (sym c.step_lines.ensures)
          (subst (λ p. NestOrder (top t.count p (stepped t.count (lines_of t)))) (sym c.own_next-self.ensures)
          (stepped_order t.count t.own (lines_of t) t.wired (tree_order t))) ∣₁;
    }

pub returns : goal.returns
returns c =
    let m = tree_made call.Step c.args.self.now _ refl c.step_lines.ensures c.own_next-self.ensures refl in
    record { exact = m; order = λ _. (step_order _ _ m).0; pace = λ _. (step_order _ _ m).1; kept = λ _. tt }
