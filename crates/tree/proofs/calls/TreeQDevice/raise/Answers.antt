use Rattle.std.proofs.Common.{◌≡◌, false, arith}
use Rattle.std.proofs.lemmas.Grind.{common_steps}
use Rattle.tree.specs.Trees.{raises, tree_nest}
use Rattle.tree.proofs.Tops.{raise_stays}
use Rattle.tree.proofs.calls.TreeQDevice.raise.Goals as goal

pub returns-in_err-raise-clause-exact : goal.returns-in_err-raise-clause-exact
returns-in_err-raise-clause-exact c =
    let e : raises (tree_nest c.args.self.now) ≡ false = grind (arith, common_steps) in
    raise_stays c.args.self.now e
