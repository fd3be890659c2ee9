-- A leaf is in order.
use Rattle.std.proofs.Common.{ℕ, ◌+◌, max, Option, arith}
use Rattle.channel.specs.declared.phase.Phase.{Phase}
use Rattle.channel.specs.Means.{Sound}
use Rattle.channel.specs.Timing.{Timely}
use Rattle.channel.specs.Device.{InOrder}
use Rattle.leaves.specs.Alone.{alone, ToldAt}
use Rattle.leaves.specs.Left.{LeftAt}
use Rattle.leaves.specs.Timed.{timed_means, timed_timing}
use Rattle.leaves.specs.declared.delays.Delays.{Delays}
use Rattle.leaves.specs.Work.{work_means, work_timing, left_at}
use Rattle.leaves.specs.declared.timed.Timed.{Timed}
use Rattle.leaves.specs.declared.work.Work.{Work}

alone_sound : (t : ℕ) (p : Phase) (d : Option ℕ) → ToldAt p t d → Sound (alone t (record { phase = p; denier = d }))
alone_sound t p d h = grind arith

timed_timely : (p : Phase) (d : Delays) (n : ℕ) → LeftAt p d n → Timely p (record { bound = max d.answer d.wake; left = n })
timed_timely p d n h = record { bounded = grind arith; some_left = λ o. grind arith; at_most = λ o. grind arith }

pub timed_in_order : (t : Timed) → InOrder timed_means timed_timing t
timed_in_order t = record {
  sound = alone_sound t.tag t.end.phase t.end.denier t.told;
  timely = timed_timely t.end.phase t.delays t.left t.in_time;
}

work_timely : (p : Phase) (w : Work) → Timely p (record { bound = w.patience + 1; left = left_at p w })
work_timely p w = record { bounded = grind arith; some_left = λ o. grind arith; at_most = λ o. grind arith }

pub work_in_order : (w : Work) → InOrder work_means work_timing w
work_in_order w = record {
  sound = alone_sound w.tag w.end.phase w.end.denier w.told;
  timely = work_timely w.end.phase w;
}
