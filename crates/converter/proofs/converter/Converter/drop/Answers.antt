use Rattle.std.proofs.Common.{Ok, Err, rules}
use Rattle.converter.specs.declared.refusal.PRefusal.TheVariants.{DropNotAnswered}
use Rattle.converter.proofs.Whole.{drop_links}
use Rattle.converter.proofs.converter.Converter.drop.Goals as goal

pub returns-in_default : goal.returns-in_default
returns-in_default g c = record {
  answer = search rules;
  exact = search rules;
  refused = search rules;
  linked = drop_links g.met.D.QDevice.in_order _ _ (Err DropNotAnswered) (search rules) (search rules);
}

pub returns-clause-linked : goal.returns-clause-linked
returns-clause-linked g c = drop_links g.met.D.QDevice.in_order _ _ (Ok tt) (search rules) (search rules)
