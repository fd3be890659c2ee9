-- A join over devices in order is in order.
use Rattle.std.specs.Prelude.{◌≡◌, ℕ, ◌⊎◌, Some, None, Option}
use Rattle.std.proofs.Common.{◌∙◌, subst, inl, inr, arith}
use Rattle.channel.specs.declared.phase.Phase.{Phase}
use Rattle.channel.specs.declared.phase.Phase.TheVariants.{Run, Request, Stopped, Exit, Denied, Continue}
use Rattle.channel.specs.declared.device.QDevice as device
use Rattle.channel.specs.Means.{Means, Each, leftmost, Waking, Denying, Continuing, Agrees, Sound}
use Rattle.channel.specs.Timing.{Timing, Timely}
use Rattle.channel.specs.Device.{InOrder}
use Rattle.joins.specs.declared.rule.Rule as rule
use Rattle.joins.specs.declared.rules.Kind.{Kind}
use Rattle.joins.specs.declared.rules.Kind.TheVariants.{Distributor, Sequencer}
use Rattle.joins.specs.declared.join.Join.{Join}
use Rattle.joins.specs.Together.{joined, Asking, Together}
use Rattle.joins.specs.Bounds.{join_timing}
use Rattle.joins.specs.Join.{join_means, join_time, JoinOrder}
use Rattle.joins.specs.Leaves.{each_++, each_map, leftmost-++, none_denied}

pub sound_at : (p : Phase) (m : Means) → m.phase ≡ p → Sound m → Agrees p m.leaves m.denier
sound_at p m e s = subst (λ q. Agrees q m.leaves m.denier) e s

pub run_none : (m : Means) → Sound m → m.phase ≡ Run → leftmost m.leaves ≡ None
run_none m s e = none_denied Run (grind arith) m.leaves (sound_at Run m e s)

pub stopped_none : (m : Means) → Sound m → m.phase ≡ Stopped → leftmost m.leaves ≡ None
stopped_none m s e = none_denied Stopped (grind arith) m.leaves (sound_at Stopped m e s).0

each_at : (p : Phase) (Q : Phase → Type 0) (m : Means) → ((q : Phase) → q ≡ p → Q q) → Each (λ q. q ≡ p) m.leaves → Each Q m.leaves
each_at p Q m f e = each_map (λ q. q ≡ p) Q f m.leaves e

pub run_each : (m : Means) → Sound m → m.phase ≡ Run → Each (λ p. p ≡ Run) m.leaves
run_each m s e = sound_at Run m e s

pub waking_each : (m : Means) → Sound m → Waking m.phase → Each Waking m.leaves
waking_each m s (inl e) = each_at Stopped Waking m (λ q i. inl i) (sound_at Stopped m e s).0
waking_each m s (inr (inl e)) = (sound_at Exit m e s).0
waking_each m s (inr (inr e)) = each_at Run Waking m (λ q i. inr (inr i)) (run_each m s e)

asking_none : (m : Means) → Sound m → Asking m → leftmost m.leaves ≡ None
asking_none m s (inl e) = run_none m s e
asking_none m s (inr (inl e)) = stopped_none m s e
asking_none m s (inr (inr e)) = sound_at Request m e.0 s e.1

-- a join over devices in order is in order
pub join_sound : (p : Phase) (d : Option ℕ) (a b : Means) → Sound a → Sound b → Together p d a b → Sound (joined p d a b)
join_sound Run d a b sa sb h = each_++ _ a.leaves b.leaves (run_each a sa h.first) (run_each b sb h.second)
join_sound Request None a b sa sb h =
    λ e. leftmost-++ a.leaves b.leaves ∙ rw (asking_none a sa h.0) (asking_none b sb h.1)
join_sound Request (Some t) a b sa sb h = λ e. grind arith
join_sound Stopped d a b sa sb h =
    (each_++ _ a.leaves b.leaves (sound_at Stopped a h.0.first sa).0 (sound_at Stopped b h.0.second sb).0, h.1)
join_sound Exit d a b sa sb h =
    (each_++ Waking a.leaves b.leaves (waking_each a sa h.0) (waking_each b sb h.1), h.3)
join_sound Denied d a b sa sb h = (
  each_++ Denying a.leaves b.leaves
      (each_at Run Denying a (λ q i. inl i) (run_each a sa h.0.first))
      (each_at Run Denying b (λ q i. inl i) (run_each b sb h.0.second)),
  h.1,
)
join_sound Continue d a b sa sb h = (
  each_++ Continuing a.leaves b.leaves
      (each_at Run Continuing a (λ q i. inl i) (run_each a sa h.0.first))
      (each_at Run Continuing b (λ q i. inl i) (run_each b sb h.0.second)),
  h.1,
)

abbrev pub AskingAt : Phase → Type 0
AskingAt p = (p ≡ Run) ⊎ (p ≡ Stopped) ⊎ (p ≡ Request)

abbrev pub FirmAt : Phase → Type 0
FirmAt p = (p ≡ Run) ⊎ (p ≡ Denied) ⊎ (p ≡ Continue) ⊎ (p ≡ Request)

-- the phases that a join's devices may be at
abbrev pub PhasesAt : Phase → Option ℕ → Phase → Phase → Type 0
PhasesAt Run d x y = Unit {0}
PhasesAt Request None x y = AskingAt x × AskingAt y
PhasesAt Request (Some z) x y = (FirmAt x ⊎ FirmAt y) × (x ≡ Run → y ≡ Run → ⊥)
PhasesAt Stopped d x y = Unit {0}
PhasesAt Exit d x y = Waking x × Waking y × (x ≡ Run → y ≡ Run → ⊥)
PhasesAt Denied d x y = Unit {0}
PhasesAt Continue d x y = Unit {0}

-- a join over devices in time is in time
pub join_timely : (k : Kind) (p : Phase) (d : Option ℕ) (x : Phase) (t : Timing) (y : Phase) (u : Timing)
    → PhasesAt p d x y → Timely x t → Timely y u → Timely p (join_timing k p d x t y u)
join_timely Distributor p d x t y u h a b = record { bounded = grind arith; some_left = grind arith; at_most = grind arith }
join_timely Sequencer p d x t y u h a b = record { bounded = grind arith; some_left = grind arith; at_most = grind arith }

-- the phases that go with a join's own
pub phases_at : (p : Phase) (d : Option ℕ) (a b : Means) → Together p d a b → PhasesAt p d a.phase b.phase
phases_at Run d a b h = tt
phases_at Request None a b h = (grind arith, grind arith)
phases_at Request (Some t) a b h = (grind arith, h.1)
phases_at Stopped d a b h = tt
phases_at Exit d a b h = (h.0, h.1, h.2)
phases_at Denied d a b h = tt
phases_at Continue d a b h = tt

module _ {R A B : Type 0} {r : rule.Ghosts R} {a : device.Ghosts A} {b : device.Ghosts B} where
  pub join_in_order : ((x : A) → a.ordered x → InOrder a.means a.timing x) → ((y : B) → b.ordered y → InOrder b.means b.timing y)
      → (j : Join R A B) → JoinOrder r a b j → InOrder (join_means a b) (join_time r a b) j
  join_in_order f g j w =
      let x = f j.first w.first in
      let y = g j.second w.second in
      record {
        sound = join_sound j.end.phase j.end.denier _ _ x.sound y.sound w.together;
        timely = join_timely r.KIND j.end.phase j.end.denier _ _ _ _
            (phases_at j.end.phase j.end.denier (a.means j.first) (b.means j.second) w.together) x.timely y.timely;
      }
