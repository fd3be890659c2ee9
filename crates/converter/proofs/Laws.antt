-- The laws of a converter over one device, from the same laws of a driven device that the joins cite.
use Rattle.std.proofs.Common.{◌≡◌, ℕ, ◌*◌, ◌<◌, true, ◌⊎◌, List, [], ◌∷◌, is_some, Some, None, Option, sym, refl, ap, ◌∙◌, subst, inl, inr, arith}
use Rattle.channel.specs.declared.phase.Phase.{Phase}
use Rattle.channel.specs.declared.phase.Phase.TheVariants.{Run, Request, Stopped, Exit, Denied, Continue}
use Rattle.channel.specs.declared.pphase.PPhase.{PPhase}
use Rattle.channel.specs.declared.pphase.PPhase.TheVariants as p
use Rattle.channel.specs.PPhases.{p_number}
use Rattle.channel.specs.Means.{Leaf, Means, Each, leftmost, Waking, Sound}
use Rattle.channel.specs.Calls.{or_leftmost}
use Rattle.channel.specs.Timing.{Timing}
use Rattle.pile.specs.Views.{Power, p_end}
use Rattle.pile.specs.Calls.{StopAsked, Ended, Ticks, Runs}
use Rattle.joins.specs.declared.rules.Drive.TheVariants.{Nothing}
use Rattle.joins.specs.Rules.{heard, lower_run, raise_stopped, raise_denied}
use Rattle.joins.specs.Turns.{Turned}
use Rattle.joins.specs.Together.{Firm}
use Rattle.joins.specs.Ordered.{run_none, stopped_none, waking_each}
use Rattle.joins.proofs.Order.{May, denied_may, asked, stays_firm, stays_waking, stays_still, Still, turned_tags}
use Rattle.joins.proofs.Order as join
use Rattle.joins.proofs.Pace.{Paced, same_bound, asked_gains, backs_out, wakes, moves}
use Rattle.converter.specs.declared.rules.Mode.{Mode}
use Rattle.converter.specs.declared.rules.Mode.TheVariants as mode
use Rattle.converter.specs.declared.rules.Task.{Task}
use Rattle.converter.specs.declared.rules.Task.TheVariants.{Hold, Same, Stopping, Waking as ToWake}
use Rattle.converter.specs.Rules.{change, task_of, task_drive, task_note, answered, next_phase}
use Rattle.converter.specs.Over.{power, converter_view, RestAt, StoppingAt, Asked, Over, task_left, phase_left, converter_timing}

-- the mode of the state after a step
abbrev pub next_mode : PPhase → PPhase → Mode → Mode → Mode
next_mode p.Stable q s a = s
next_mode p.Request p.Stable s a = s
next_mode p.Request p.Request s a = s
next_mode p.Request p.Accept s a = a
next_mode p.Request p.Complete s a = s
next_mode p.Request p.Denied s a = s
next_mode p.Request p.Continue s a = s
next_mode p.Accept q s a = s
next_mode p.Complete q s a = s
next_mode p.Denied q s a = s
next_mode p.Continue q s a = s

-- a converter's denier and phase after a step, from what its device then is
abbrev pub denier_after : PPhase → Mode → Mode → Option ℕ → Means → Option ℕ
denier_after q s a d n = task_note (task_of q s a) d (heard n.phase n.denier)

abbrev pub phase_after : PPhase → Mode → Mode → Option ℕ → Means → PPhase
phase_after q s a d n = next_phase q (task_of q s a) (is_some (denier_after q s a d n)) n.phase

-- a device at rest stays
rests : (s : Mode) (m mid n : Means) → RestAt s m → Turned Nothing m mid n → RestAt s n
rests mode.Unused m mid n r t = r
rests mode.Stop m mid n r t = (stays_still Nothing m mid n (inr r) refl t).phase ∙ r
rests mode.Run m mid n r t = (stays_still Nothing m mid n (inl r) refl t).phase ∙ r

-- a device that is asked to stop, and has not told a denier yet
stop_asked : (m mid n : Means) → StoppingAt None m → Turned (lower_run m.phase) m mid n → join.Asked n
stop_asked m mid n h t = asked _ m mid n (grind arith) (inr refl) t

told_over : (n : Means) → join.Asked n
    → Over (phase_after p.Request mode.Run mode.Stop None n) (next_mode p.Request (phase_after p.Request mode.Run mode.Stop None n) mode.Run mode.Stop) mode.Stop
    (denier_after p.Request mode.Run mode.Stop None n) n
told_over n q = grind arith

back_over : (t : ℕ) (n : Means) → Firm n
    → Over (phase_after p.Request mode.Run mode.Stop (Some t) n) (next_mode p.Request (phase_after p.Request mode.Run mode.Stop (Some t) n) mode.Run mode.Stop) mode.Stop (Some t) n
back_over t n f = grind arith

wake_over : (d : Option ℕ) (n : Means) → Waking n.phase → d ≡ None
    → Over (phase_after p.Request mode.Stop mode.Run d n) (next_mode p.Request (phase_after p.Request mode.Stop mode.Run d n) mode.Stop mode.Run) mode.Run d n
wake_over d n w e = grind arith

-- the device goes with the converter after a step too
pub keeps_over : (q : PPhase) (s a : Mode) (d : Option ℕ) (m mid n : Means) → Over q s a d m
    → Turned (task_drive (task_of q s a) (is_some d) m.phase) m mid n
    → Over (phase_after q s a d n) (next_mode q (phase_after q s a d n) s a) a (denier_after q s a d n) n
keeps_over p.Stable s a d m mid n h t = rests s m mid n h t
keeps_over p.Request mode.Unused a d m mid n h t = elim h [ ]
keeps_over p.Request mode.Stop mode.Unused d m mid n h t = elim h [ ]
keeps_over p.Request mode.Stop mode.Stop d m mid n h t = rests mode.Stop m mid n h.0 t
keeps_over p.Request mode.Stop mode.Run d m mid n h t =
    wake_over d n (stays_waking _ (is_some d) m mid n (grind arith) (inr refl) t) h.1
keeps_over p.Request mode.Run mode.Unused d m mid n h t = elim h [ ]
keeps_over p.Request mode.Run mode.Stop None m mid n h t = told_over n (stop_asked m mid n h t)
keeps_over p.Request mode.Run mode.Stop (Some e) m mid n h t =
    back_over e n (stays_firm _ m mid n (grind arith) (denied_may m.phase) t)
keeps_over p.Request mode.Run mode.Run d m mid n h t = rests mode.Run m mid n h.0 t
keeps_over p.Accept s a d m mid n h t = rests s m mid n h t
keeps_over p.Complete s a d m mid n h t = rests s m mid n h t
keeps_over p.Denied s a d m mid n h t = (h.0, rests mode.Run m mid n h.1 t, h.2)
keeps_over p.Continue s a d m mid n h t = subst (λ z. RestAt z n) (sym h.0) (rests mode.Run m mid n h.1 t)

-- leaves on their way to Run: none stands at Denied
waking_none : (ls : List Leaf) → Each Waking ls → leftmost ls ≡ None
waking_none [] e = refl
waking_none (l ∷ ls) e =
    let r : leftmost ls ≡ None = waking_none ls e.1 in
    let w : Waking l.at = e.0 in
    grind arith

rest_none : (s : Mode) (m : Means) → Sound m → RestAt s m → leftmost m.leaves ≡ None
rest_none mode.Unused m o r = elim r [ ]
rest_none mode.Stop m o r = stopped_none m o r
rest_none mode.Run m o r = run_none m o r

note_as : (d : Option ℕ) (ls : List Leaf) → d ≡ None → leftmost ls ≡ None → d ≡ or_leftmost d ls
note_as (Some t) ls e n = refl
note_as None ls e n = sym n

-- what a converter notes is the leftmost leaf at Denied
notes : (s a : Mode) (d : Option ℕ) (m mid n : Means) → Asked s a d m
    → Turned (task_drive (change s a) (is_some d) m.phase) m mid n
    → denier_after p.Request s a d n ≡ or_leftmost d n.leaves
notes mode.Unused a d m mid n h t = elim h [ ]
notes mode.Stop mode.Unused d m mid n h t = elim h [ ]
notes mode.Stop mode.Stop d m mid n h t =
    note_as d n.leaves h.1 (rest_none mode.Stop n t.sound_after (rests mode.Stop m mid n h.0 t))
notes mode.Stop mode.Run d m mid n h t =
    note_as d n.leaves h.1
    (waking_none n.leaves (waking_each n t.sound_after (stays_waking _ (is_some d) m mid n (grind arith) (inr refl) t)))
notes mode.Run mode.Unused d m mid n h t = elim h [ ]
notes mode.Run mode.Stop None m mid n h t = (stop_asked m mid n h t).tells
notes mode.Run mode.Stop (Some e) m mid n h t = refl
notes mode.Run mode.Run d m mid n h t =
    note_as d n.leaves h.1 (rest_none mode.Run n t.sound_after (rests mode.Run m mid n h.0 t))

-- a request ends at Denied just where it has a denier
told_ends : (n : Means) → join.Asked n → (p_number (phase_after p.Request mode.Run mode.Stop None n) ≡ 1 → ⊥)
    → Ended (p_end (phase_after p.Request mode.Run mode.Stop None n) (power mode.Run)) (denier_after p.Request mode.Run mode.Stop None n)
told_ends n q z = grind arith

back_ends : (e : ℕ) (n : Means) → Firm n → (p_number (phase_after p.Request mode.Run mode.Stop (Some e) n) ≡ 1 → ⊥)
    → p_number (phase_after p.Request mode.Run mode.Stop (Some e) n) ≡ 4
back_ends e n f z = grind arith

ends : (s a : Mode) (d : Option ℕ) (m mid n : Means) → Asked s a d m
    → Turned (task_drive (change s a) (is_some d) m.phase) m mid n
    → (z : Power) → (p_number (phase_after p.Request s a d n) ≡ 1 → ⊥)
    → Ended (p_end (phase_after p.Request s a d n) z) (denier_after p.Request s a d n)
ends mode.Unused a d m mid n h t z o = elim h [ ]
ends mode.Stop mode.Unused d m mid n h t z o = elim h [ ]
ends mode.Stop mode.Stop d m mid n h t z o = grind arith
ends mode.Stop mode.Run d m mid n h t z o = grind arith
ends mode.Run mode.Unused d m mid n h t z o = elim h [ ]
ends mode.Run mode.Stop None m mid n h t z o =
    let q = stop_asked m mid n h t in
    told_ends n q o
ends mode.Run mode.Stop (Some e) m mid n h t z o =
    back_ends e n (stays_firm _ m mid n (grind arith) (denied_may m.phase) t) o
ends mode.Run mode.Run d m mid n h t z o = grind arith

-- a step of a converter, as seen from above
pub ticks : (q : PPhase) (s a : Mode) (d : Option ℕ) (m mid n : Means) → Over q s a d m
    → Turned (task_drive (task_of q s a) (is_some d) m.phase) m mid n
    → Ticks (converter_view q s d m)
    (converter_view (phase_after q s a d n) (next_mode q (phase_after q s a d n) s a) (denier_after q s a d n) n)
ticks p.Request s a d m mid n h t = record {
  note = λ r. notes s a d m mid n h t;
  ends = λ r z. ends s a d m mid n h t (power (next_mode p.Request (phase_after p.Request s a d n) s a)) z;
  same_tags = turned_tags _ m mid n t;
}
ticks p.Stable s a d m mid n h t = record {
  note = λ r. grind arith;
  ends = λ r z. grind arith;
  same_tags = turned_tags _ m mid n t;
}
ticks p.Accept s a d m mid n h t = record {
  note = λ r. grind arith;
  ends = λ r z. grind arith;
  same_tags = turned_tags _ m mid n t;
}
ticks p.Complete s a d m mid n h t = record {
  note = λ r. grind arith;
  ends = λ r z. grind arith;
  same_tags = turned_tags _ m mid n t;
}
ticks p.Denied s a d m mid n h t = record {
  note = λ r. grind arith;
  ends = λ r z. grind arith;
  same_tags = turned_tags _ m mid n t;
}
ticks p.Continue s a d m mid n h t = record {
  note = λ r. grind arith;
  ends = λ r z. grind arith;
  same_tags = turned_tags _ m mid n t;
}

-- the phases that a converter's device may be at during a request
abbrev PhaseAt : Mode → Mode → Option ℕ → Phase → Type 0
PhaseAt mode.Unused a d x = ⊥
PhaseAt mode.Stop mode.Unused d x = ⊥
PhaseAt mode.Stop mode.Stop d x = Unit {0}
PhaseAt mode.Stop mode.Run d x = (x ≡ Stopped) ⊎ (x ≡ Exit)
PhaseAt mode.Run mode.Unused d x = ⊥
PhaseAt mode.Run mode.Stop None x = (x ≡ Run) ⊎ (x ≡ Request)
PhaseAt mode.Run mode.Stop (Some t) x = (x ≡ Denied) ⊎ (x ≡ Continue) ⊎ (x ≡ Request)
PhaseAt mode.Run mode.Run d x = Unit {0}

phase_at : (s a : Mode) (d : Option ℕ) (m : Means) → Asked s a d m → PhaseAt s a d m.phase
phase_at mode.Unused a d m h = h
phase_at mode.Stop mode.Unused d m h = h
phase_at mode.Stop mode.Stop d m h = tt
phase_at mode.Stop mode.Run d m h = h.0
phase_at mode.Run mode.Unused d m h = h
phase_at mode.Run mode.Stop None m h = grind arith
phase_at mode.Run mode.Stop (Some t) m h = grind arith
phase_at mode.Run mode.Run d m h = tt

-- a noted denier stays
abbrev Stays : Option ℕ → Option ℕ → Type 0
Stays None e = Unit {0}
Stays (Some z) e = e ≡ Some z

-- a step that keeps a request lowers the steps left
request_fewer : (s a : Mode) (d e : Option ℕ) (x y : Phase) (t mid u : Timing) → PhaseAt s a d x → Stays d e
    → Paced (task_drive (change s a) (is_some d) x) x y t mid u → answered (change s a) (is_some e) y ≡ p.Request
    → task_left (change s a) e y u < task_left (change s a) d x t
request_fewer mode.Unused a d e x y t mid u h st k z = elim h [ ]
request_fewer mode.Stop mode.Unused d e x y t mid u h st k z = elim h [ ]
request_fewer mode.Stop mode.Stop d e x y t mid u h st k z = grind arith
request_fewer mode.Stop mode.Run d e x y t mid u h st k z =
    let f = wakes (is_some d) _ x y t mid u (grind arith) (inr refl) k in
    let b : moves (raise_stopped x) x ≡ true = grind arith in
    rw b at f
request_fewer mode.Run mode.Unused d e x y t mid u h st k z = elim h [ ]
request_fewer mode.Run mode.Stop None None x y t mid u h st k z =
    let f = asked_gains _ x y t mid u (grind arith) (inr refl) k in
    let b : moves (lower_run x) x ≡ true = grind arith in
    let g = rw b at f in
    let i : u.bound ≡ t.bound = same_bound _ x y t mid u k in
    omega (arith, g.0)
request_fewer mode.Run mode.Stop None (Some e) x y t mid u h st k z =
    let f = asked_gains _ x y t mid u (grind arith) (inr refl) k in
    let b : moves (lower_run x) x ≡ true = grind arith in
    let g = rw b at f in
    g.1
request_fewer mode.Run mode.Stop (Some d) None x y t mid u h st k z = let n : ⊥ = grind arith in elim n [ ]
request_fewer mode.Run mode.Stop (Some d) (Some e) x y t mid u h st k z =
    let f = backs_out _ x y t mid u (denied_may x) k in
    let b : moves (raise_denied x) x ≡ true = grind arith in
    rw b at f
request_fewer mode.Run mode.Run d e x y t mid u h st k z = grind arith

is_request : (q : PPhase) → p_number q ≡ 1 → q ≡ p.Request
is_request q e = grind arith

-- a step of a converter keeps to its bound
pub runs : (q : PPhase) (s a : Mode) (d e : Option ℕ) (m : Means) (y : Phase) (t mid u : Timing) → Over q s a d m → Stays d e
    → Paced (task_drive (task_of q s a) (is_some d) m.phase) m.phase y t mid u
    → Runs (p_end q (power s)) (p_end (next_phase q (task_of q s a) (is_some e) y) (power (next_mode q (next_phase q (task_of q s a) (is_some e) y) s a)))
    (converter_timing q s a d m.phase t)
    (converter_timing (next_phase q (task_of q s a) (is_some e) y) (next_mode q (next_phase q (task_of q s a) (is_some e) y) s a) a e y u)
runs p.Stable s a d e m y t mid u h st k = record {
  fewer = λ o i. elim o [ ];
  same_bound = ap (λ b. 2 * b) (same_bound _ m.phase y t mid u k);
}
runs p.Request s a d e m y t mid u h st k = record {
  fewer = λ o i.
      let r : answered (change s a) (is_some e) y ≡ p.Request = is_request _ i in
      subst (λ z. phase_left z (task_of z (next_mode p.Request z s a) a) e y u < task_left (change s a) d m.phase t) (sym r)
      (request_fewer s a d e m.phase y t mid u (phase_at s a d m h) st k r);
  same_bound = ap (λ b. 2 * b) (same_bound _ m.phase y t mid u k);
}
runs p.Accept s a d e m y t mid u h st k = record {
  fewer = λ o i. elim o [ ];
  same_bound = ap (λ b. 2 * b) (same_bound _ m.phase y t mid u k);
}
runs p.Complete s a d e m y t mid u h st k = record {
  fewer = λ o i. grind arith;
  same_bound = ap (λ b. 2 * b) (same_bound _ m.phase y t mid u k);
}
runs p.Denied s a d e m y t mid u h st k = record {
  fewer = λ o i. elim o [ ];
  same_bound = ap (λ b. 2 * b) (same_bound _ m.phase y t mid u k);
}
runs p.Continue s a d e m y t mid u h st k = record {
  fewer = λ o i. grind arith;
  same_bound = ap (λ b. 2 * b) (same_bound _ m.phase y t mid u k);
}

pub stays : (k : Task) (d r : Option ℕ) → Stays d (task_note k d r)
stays k None r = tt
stays Hold (Some z) r = refl
stays Same (Some z) r = refl
stays Stopping (Some z) r = refl
stays ToWake (Some z) r = refl

-- an accepted ask: the device is still at rest, and nobody has denied
pub asks : (s : Mode) (d : Option ℕ) (m : Means) → Sound m → RestAt s m
    → StopAsked (converter_view p.Stable s d m) (converter_view p.Request s None m)
asks s d m o r = record {
  closed = λ i. i;
  opens = refl;
  opened = tt;
  clear = refl;
  none_denied = rest_none s m o r;
  same_tags = refl;
}
