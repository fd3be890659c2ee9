-- What the traits of rules and devices say of both rules and of a join, as one record each.
use Rattle.channel.specs.declared.device.QDevice as device
use Rattle.joins.specs.declared.rules.Kind.TheVariants.{Distributor, Sequencer}
use Rattle.joins.specs.declared.rule.Rule as rule
use Rattle.joins.specs.declared.rule.Parallel.{Parallel}
use Rattle.joins.specs.declared.rule.Serial.{Serial}
use Rattle.joins.specs.declared.join.Join.{Join}
use Rattle.joins.specs.Join.{join_means, join_time, JoinOrder, join_makes}

abbrev pub parallel : rule.Ghosts Parallel
parallel = record { KIND = Distributor }

abbrev pub serial : rule.Ghosts Serial
serial = record { KIND = Sequencer }

abbrev pub joined : {R A B : Type 0} → rule.Ghosts R → device.Ghosts A → device.Ghosts B → device.Ghosts (Join R A B)
joined r a b = record { means = join_means a b; timing = join_time r a b; ordered = JoinOrder r a b; makes = join_makes r a b }
