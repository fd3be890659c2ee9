use Rattle.std.proofs.Common.{◌≡◌, false, arith}
use Rattle.std.proofs.lemmas.Grind.{common_steps}
use Rattle.tree.specs.Trees.{lowers, tree_nest}
use Rattle.tree.proofs.Tops.{lower_order, lower_stays}
use Rattle.tree.proofs.calls.TreeQDevice.lower.Goals as goal

pub returns-in_err-lower-clause-exact : goal.returns-in_err-lower-clause-exact
returns-in_err-lower-clause-exact c =
    let e : lowers (tree_nest c.args.self.now) ≡ false = grind (arith, common_steps) in
    lower_stays c.args.self.now e

pub returns-clause-order : goal.returns-clause-order
returns-clause-order c = λ _. lower_order c.args.self.now c.drive_top.new.self c.drive_top.ensures.nested
