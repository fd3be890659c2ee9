use Rattle.std.proofs.Common.{Ok, Err, rules}
use Rattle.converter.specs.declared.refusal.PRefusal.TheVariants.{AskNotAtStable}
use Rattle.converter.proofs.Whole.{ask_links}
use Rattle.converter.proofs.converter.Converter.ask.Goals as goal

pub returns-in-Stable-default : goal.returns-in-Stable-default
returns-in-Stable-default g c = record {
  answer = search rules;
  exact = search rules;
  refused = search rules;
  linked = ask_links g.met.D.QDevice.in_order c.args.state _ _ (Ok tt) (search rules) (search rules);
}

pub returns-in_default : goal.returns-in_default
returns-in_default g c = record {
  answer = search rules;
  exact = search rules;
  refused = search rules;
  linked = ask_links g.met.D.QDevice.in_order c.args.state _ _ (Err AskNotAtStable) (search rules) (search rules);
}
