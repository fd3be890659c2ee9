use Rattle.std.proofs.Common.{sym, refl, subst, arith}
use Rattle.cells.specs.Nests.{NestOrder}
use Rattle.cells.specs.Flat.{Wired}
use Rattle.tree.specs.Top.{top}
use Rattle.tree.specs.Ordered.{tree_order}
use Rattle.tree.specs.Trees.{lines_of, top_driven}
use Rattle.tree.proofs.Tops.{top_put, driven_made, top_driven_wired, driven_order, own_some}
use Rattle.tree.proofs.state.Tree.drive_top.Goals as goal

pub invariant_of-self : goal.invariant_of-self
invariant_of-self c =
    let t = c.args.self.now in
    let d = c.args.drive in
    let e = top_put d t.count c.in-Some.top (lines_of t) _ _ c.driven.result (omega (arith, c.in-Some.ensures)) (omega (arith, c.in-Some.ensures))
    (omega (arith, c.in-Some.ensures, t.wired.fits)) c.driven.ensures in
    record {
      wired = subst (Wired t.count) (sym e) (top_driven_wired d t.count (lines_of t) t.wired);
      order = ∣ subst (λ cs. NestOrder (top t.count t.own cs)) (sym e)
          (subst (λ p. NestOrder (top t.count p (top_driven d t.count (lines_of t)))) (sym (own_some d t.count t.own (omega (arith, c.in-Some.ensures))))
          (driven_order d t.count t.own (lines_of t) t.wired (tree_order t))) ∣₁;
    }

pub returns-in-Some : goal.returns-in-Some
returns-in-Some c =
    let t = c.args.self.now in
    driven_made c.args.drive t _ refl
    (top_put c.args.drive t.count c.in-Some.top (lines_of t) _ _ c.driven.result (omega (arith, c.in-Some.ensures)) (omega (arith, c.in-Some.ensures))
    (omega (arith, c.in-Some.ensures, t.wired.fits)) c.driven.ensures)
    (own_some c.args.drive t.count t.own (omega (arith, c.in-Some.ensures))) refl
