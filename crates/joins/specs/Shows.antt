-- What a join shows is so.
use Rattle.std.proofs.Common.{◌≡◌, ℕ, None, Option, ap, subst, arith}
use Rattle.channel.specs.declared.phase.Phase.{Phase}
use Rattle.channel.specs.declared.phase.Phase.TheVariants.{Run, Request, Stopped, Exit, Denied, Continue}
use Rattle.channel.specs.declared.device.QDevice as device
use Rattle.channel.specs.Means.{Means, Each, Sound}
use Rattle.channel.specs.Timing.{Timing, Timely}
use Rattle.channel.specs.Device.{InOrder}
use Rattle.pile.specs.Views.{View, q_end, shows, Opened, Truly, InTime, Begun}
use Rattle.pile.specs.OfQ.{q_view}
use Rattle.pile.specs.Runs.{Fit}
use Rattle.joins.specs.declared.rule.Rule as rule
use Rattle.joins.specs.declared.join.Join.{Join}
use Rattle.joins.specs.Together.{joined, Both, Together}
use Rattle.joins.specs.Join.{join_means, join_time, JoinOrder}
use Rattle.joins.specs.Leaves.{each_++}
use Rattle.joins.specs.Ordered.{join_sound, join_in_order, run_each}

both_each : (a b : Means) → Sound a → Sound b → Both Run a b → Each (λ p. p ≡ Run) (joined Run None a b).leaves
both_each a b sa sb h = each_++ _ a.leaves b.leaves (run_each a sa h.first) (run_each b sb h.second)

pub join_truly : (p : Phase) (d : Option ℕ) (a b : Means) → Sound a → Sound b → Together p d a b → Truly (q_view (joined p d a b))
join_truly Run d a b sa sb h = record {
  stops = λ e. let z : ⊥ = grind arith in elim z [ ];
  runs = λ e. both_each a b sa sb h;
  denies = λ e. both_each a b sa sb h;
}
join_truly Request d a b sa sb h = record { stops = grind arith; runs = grind arith; denies = grind arith }
join_truly Stopped d a b sa sb h = record {
  stops = λ e. (join_sound Stopped d a b sa sb h).0;
  runs = λ e. let z : ⊥ = grind arith in elim z [ ];
  denies = λ e. let z : ⊥ = grind arith in elim z [ ];
}
join_truly Exit d a b sa sb h = record { stops = grind arith; runs = grind arith; denies = grind arith }
join_truly Denied d a b sa sb h = record {
  stops = λ e. let z : ⊥ = grind arith in elim z [ ];
  runs = λ e. both_each a b sa sb h.0;
  denies = λ e. both_each a b sa sb h.0;
}
join_truly Continue d a b sa sb h = record {
  stops = λ e. let z : ⊥ = grind arith in elim z [ ];
  runs = λ e. both_each a b sa sb h.0;
  denies = λ e. both_each a b sa sb h.0;
}

-- a Q end is in time where the device is
pub q_in_time : (p : Phase) (t : Timing) → Timely p t → InTime (q_end p) t
q_in_time p t h = record { some_left = grind arith; at_most = grind arith }

-- a device just reset is where a run begins
pub rest_begun : (m : Means) → m.phase ≡ Stopped → Each (λ p. p ≡ Stopped) m.leaves → m.denier ≡ None → Begun (q_view m)
rest_begun m e s n = record {
  shows_stopped = ap (λ p. shows (q_end p)) e;
  closed = λ o. elim (subst (λ p. Opened (q_end p)) e o) [ ];
  all_stopped = s;
  none = n;
}

abbrev pub join_view : {R A B : Type 0} → device.Ghosts A → device.Ghosts B → Join R A B → View
join_view a b j = q_view (join_means a b j)

module _ {R A B : Type 0} {r : rule.Ghosts R} {a : device.Ghosts A} {b : device.Ghosts B} where
  pub join_fits : ((x : A) → a.ordered x → InOrder a.means a.timing x) → ((y : B) → b.ordered y → InOrder b.means b.timing y)
      → (j : Join R A B) → JoinOrder r a b j → Fit (JoinOrder r a b) (join_view a b) (join_time r a b) j
  join_fits f g j w = record {
    own = w;
    truly = join_truly j.end.phase j.end.denier _ _ (f j.first w.first).sound (g j.second w.second).sound w.together;
    in_time = q_in_time j.end.phase _ (join_in_order f g j w).timely;
  }
