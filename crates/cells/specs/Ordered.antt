-- A nested tree in order: phase, leaves and denier agree, and steps are left.
use Rattle.std.proofs.Common.{arith}
use Rattle.channel.specs.declared.phase.Phase.{Phase}
use Rattle.channel.specs.Device.{InOrder}
use Rattle.leaves.specs.Ordered.{timed_in_order, work_in_order}
use Rattle.joins.specs.Ordered.{join_sound, join_timely, phases_at}
use Rattle.cells.specs.Nests.{Nest, empty, timed_leaf, work_leaf, join, nest_means, nest_timing, EmptyAt, NestOrder}

empty_in_order : (p : Phase) → EmptyAt p → InOrder nest_means nest_timing (empty p)
empty_in_order p o = record {
  sound = grind arith;
  timely = record { bounded = grind arith; some_left = grind arith; at_most = grind arith };
}

pub nest_in_order : (t : Nest) → NestOrder t → InOrder nest_means nest_timing t
nest_in_order (empty p) o = empty_in_order p o
nest_in_order (timed_leaf t) o = let i = timed_in_order t in record { sound = i.sound; timely = i.timely }
nest_in_order (work_leaf w) o = let i = work_in_order w in record { sound = i.sound; timely = i.timely }
nest_in_order (join k q a b) o =
    let x = nest_in_order a o.0 in
    let y = nest_in_order b o.1 in
    record {
      sound = join_sound q.phase q.denier _ _ x.sound y.sound o.2;
      timely = join_timely k q.phase q.denier _ _ _ _ (phases_at q.phase q.denier (nest_means a) (nest_means b) o.2) x.timely y.timely;
    }
