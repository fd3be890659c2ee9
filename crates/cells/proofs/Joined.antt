-- Each join of a nested tree is the library's join over nested devices: it means the same, and its calls are that join's calls.
use Rattle.std.proofs.Common.{◌≡◌, refl}
use Rattle.channel.specs.declared.device.Call.{Call}
use Rattle.channel.specs.declared.device.Call.TheVariants as call
use Rattle.channel.specs.declared.device.QDevice as device
use Rattle.channel.specs.declared.end.QEnd.{QEnd}
use Rattle.channel.specs.Ends.{end_of, at_rest, end_lowered, end_raised}
use Rattle.joins.specs.declared.rule.Rule as rule
use Rattle.joins.specs.declared.rules.Kind.{Kind}
use Rattle.joins.specs.declared.rules.Drive.{Drive}
use Rattle.joins.specs.declared.rules.Drive.TheVariants.{Nothing, Lower, Raise}
use Rattle.joins.specs.declared.join.Join.{Join}
use Rattle.joins.specs.Rules.{DriveMakes}
use Rattle.joins.specs.Join.{join_means, join_time, JoinOrder, join_makes}
use Rattle.cells.specs.Bodies.{answered_end}
use Rattle.cells.specs.Nests.{Nest, empty, timed_leaf, work_leaf, join, nest_means, nest_timing, NestOrder, drive_nest, wish_first, wish_second, turn, reset_nest, nest_after}

-- what the trait of devices says of a nested tree
abbrev pub nested : device.Ghosts Nest
nested = record { means = nest_means; timing = nest_timing; ordered = NestOrder; makes = λ c s t. t ≡ nest_after c s }

abbrev pub ruled : Kind → rule.Ghosts Unit
ruled k = record { KIND = k }

-- a join of the tree as the library's join over nested devices
abbrev pub as_join : QEnd → Nest → Nest → Join Unit Nest Nest
as_join q a b = record { rule = record {}; end = q; first = a; second = b }

-- it is in order where the nested tree is
pub joined_order : (k : Kind) (q : QEnd) (a b : Nest) → NestOrder (join k q a b) → JoinOrder (ruled k) nested nested (as_join q a b)
joined_order k q a b o = record { first = o.0; second = o.1; together = o.2; sequence = o.3 }

-- a driven device that steps has turned
turn_driven : (w : Drive) (t : Nest) → turn w t ≡ turn Nothing (drive_nest w t)
turn_driven w (empty p) = refl
turn_driven w (timed_leaf t) = refl
turn_driven w (work_leaf v) = refl
turn_driven w (join k q a b) = refl

drive_made : (w : Drive) (t : Nest) → DriveMakes nested.makes w t (drive_nest w t)
drive_made Nothing (empty p) = refl
drive_made Nothing (timed_leaf t) = refl
drive_made Nothing (work_leaf v) = refl
drive_made Nothing (join k q a b) = refl
drive_made Lower t = refl
drive_made Raise t = refl

-- the end and the two devices of a join after a call
abbrev pub end_after : Call → Kind → QEnd → Nest → Nest → QEnd
end_after call.Lower k q a b = end_lowered q
end_after call.Raise k q a b = end_raised q
end_after call.Step k q a b =
    answered_end q (end_of (nest_means (turn (wish_first k q a b) a))) (end_of (nest_means (turn (wish_second k q a b) b)))
end_after call.Restart k q a b = at_rest

abbrev pub first_after : Call → Kind → QEnd → Nest → Nest → Nest
first_after call.Lower k q a b = a
first_after call.Raise k q a b = a
first_after call.Step k q a b = turn (wish_first k q a b) a
first_after call.Restart k q a b = reset_nest a

abbrev pub second_after : Call → Kind → QEnd → Nest → Nest → Nest
second_after call.Lower k q a b = b
second_after call.Raise k q a b = b
second_after call.Step k q a b = turn (wish_second k q a b) b
second_after call.Restart k q a b = reset_nest b

pub joined_after : (c : Call) (k : Kind) (q : QEnd) (a b : Nest)
    → nest_after c (join k q a b) ≡ join k (end_after c k q a b) (first_after c k q a b) (second_after c k q a b)
joined_after call.Lower k q a b = refl
joined_after call.Raise k q a b = refl
joined_after call.Step k q a b = refl
joined_after call.Restart k q a b = refl

module _ (k : Kind) (q : QEnd) (a b : Nest) where
  pub joined_means : join_means nested nested (as_join q a b) ≡ nest_means (join k q a b)
  joined_means = refl

  pub joined_time : join_time (ruled k) nested nested (as_join q a b) ≡ nest_timing (join k q a b)
  joined_time = refl

  pub joined_makes : (c : Call)
      → join_makes (ruled k) nested nested c (as_join q a b) (as_join (end_after c k q a b) (first_after c k q a b) (second_after c k q a b))
  joined_makes call.Lower = record { lowered = refl; apart = record { same_first = refl; same_second = refl } }
  joined_makes call.Raise = record { raised = refl; apart = record { same_first = refl; same_second = refl } }
  joined_makes call.Step = record {
    first_mid = drive_nest (wish_first k q a b) a;
    second_mid = drive_nest (wish_second k q a b) b;
    first_driven = drive_made (wish_first k q a b) a;
    second_driven = drive_made (wish_second k q a b) b;
    first_stepped = turn_driven (wish_first k q a b) a;
    second_stepped = turn_driven (wish_second k q a b) b;
    notes = refl;
    decides = refl;
  }
  joined_makes call.Restart = record { first_reset = refl; second_reset = refl; rests = refl }
