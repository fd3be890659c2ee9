use Rattle.std.proofs.Common.{◌≡◌, sym, ap, ◌∙◌, arith}
use Rattle.tree.specs.Jobs.{line_named}
use Rattle.tree.proofs.Works.{named_down, named_here, named_none}
use Rattle.tree.proofs.job.find_line.Goals as goal

pub loop-i-preserved : goal.loop-i-preserved
loop-i-preserved c =
    named_down c.loop-i.i c.args.cells.now c.args.name.now c.loop-i-test.true (sym c.if-is_called.ensures) ∙ c.loop-i.invariant

pub returns-then-is_called : goal.returns-then-is_called
returns-then-is_called c =
    sym (named_here c.loop-i.i c.args.cells.now c.args.name.now c.loop-i-test.true (sym c.if-is_called.ensures)) ∙ c.loop-i.invariant

pub returns : goal.returns
returns c =
    let z : c.loop-i.i ≡ 0 = omega arith in
    named_none c.args.cells.now c.args.name.now
    ∙ (ap (λ k. line_named k c.args.cells.now c.args.name.now) (sym z) ∙ c.loop-i.invariant)
