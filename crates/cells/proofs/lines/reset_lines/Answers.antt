use Rattle.std.proofs.Common.{◌≡◌, ap, ◌∙◌, length, min, arith}
use Rattle.std.proofs.lemmas.List.{length-take}
use Rattle.cells.specs.declared.cell.Cell.{Cell}
use Rattle.cells.specs.Flat.{reset_to}
use Rattle.cells.proofs.Walks.{reset_none, reset_more, reset_past}
use Rattle.cells.proofs.lines.reset_lines.Goals as goal

pub loop-cell-init : goal.loop-cell-init
loop-cell-init c = reset_none _ _

pub loop-cell-preserved : goal.loop-cell-preserved
loop-cell-preserved c =
    reset_more c.loop-cell.cell-index c.args.cells.now c.loop-cell.cell-items _ _ _ (omega arith) c.loop-cell.invariant c.reset-cell.ensures

pub returns : goal.returns
returns c =
    let e : c.loop-cell.cell-index ≡ min c.args.n (length c.args.cells.now) = omega (arith, length-take {A = Cell}) in
    c.loop-cell.invariant ∙ (ap (λ k. reset_to k c.args.cells.now) e ∙ reset_past c.args.n c.args.cells.now)
