use Rattle.tree.proofs.Works.{named_within}
use Rattle.tree.specs.Trees.{lines_of}
use Rattle.tree.proofs.state.Tree.line_called.Goals as goal

pub returns : goal.returns
returns c =
    let t = c.args.self.now in
    record { line = c.find_line.ensures; below = named_within t.count (lines_of t) c.args.name.now c.find_line.result t.wired.fits c.find_line.ensures }
