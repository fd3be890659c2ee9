-- The calls of a converter over any device, from the laws over meanings.
use Rattle.std.proofs.Common.{arith, ◌≡◌, ℕ, Bool, cond, is_some, is_ok, None, Option, Result, refl, ap, ◌∙◌, subst}
use Rattle.channel.specs.declared.pphase.PPhase.{PPhase}
use Rattle.channel.specs.declared.pphase.PPhase.TheVariants as p
use Rattle.channel.specs.declared.device.QDevice as device
use Rattle.channel.specs.Means.{Means, Sound}
use Rattle.channel.specs.Calls.{Stepped}
use Rattle.channel.specs.Timing.{Timing, Ticked}
use Rattle.channel.specs.Device.{InOrder}
use Rattle.pile.specs.Views.{p_end}
use Rattle.pile.specs.Calls.{stop, back, Called, Timed, Ticks, Runs}
use Rattle.joins.specs.declared.rules.Drive.{Drive}
use Rattle.joins.specs.declared.rules.Drive.TheVariants.{Nothing}
use Rattle.joins.specs.Rules.{heard}
use Rattle.joins.specs.Turns.{Drove}
use Rattle.joins.proofs.Whole.{Went, went_turned, went_paced}
use Rattle.converter.specs.declared.rules.Mode.{Mode}
use Rattle.converter.specs.declared.rules.Mode.TheVariants as mode
use Rattle.converter.specs.declared.converter.Converter.{Converter}
use Rattle.converter.specs.Rules.{mode_of, task_of, task_drive, task_note, next_phase, next_state}
use Rattle.converter.specs.Over.{power, Over, RestAt, Asked, converter_view, converter_timing}
use Rattle.converter.specs.declared.refusal.PRefusal.{PRefusal}
use Rattle.converter.specs.Converter.{ask_answer, used_answer, drop_answer, dropped, AskMade, DropMade, Links}
use Rattle.converter.specs.Shows.{converter_fits}
use Rattle.converter.proofs.Laws.{next_mode, keeps_over, ticks, runs, stays, asks}

-- the mode of the next state is the next mode
next_is : (q r : PPhase) (s a : ℕ) → mode_of (next_state q r s a) ≡ next_mode q r (mode_of s) (mode_of a)
next_is p.Stable r s a = refl
next_is p.Request p.Stable s a = refl
next_is p.Request p.Request s a = refl
next_is p.Request p.Accept s a = refl
next_is p.Request p.Complete s a = refl
next_is p.Request p.Denied s a = refl
next_is p.Request p.Continue s a = refl
next_is p.Accept r s a = refl
next_is p.Complete r s a = refl
next_is p.Denied r s a = refl
next_is p.Continue r s a = refl

pub record StepKept (q : PPhase) (s a : ℕ) (d : Option ℕ) (m n : Means) (t u : Timing) (r : PPhase) (z b : ℕ) (e : Option ℕ) : Type 0 where
  pub seen : Ticks (converter_view q (mode_of s) d m) (converter_view r (mode_of z) e n)
  pub pace :
      Runs (p_end q (power (mode_of s))) (p_end r (power (mode_of z))) (converter_timing q (mode_of s) (mode_of a) d m.phase t)
      (converter_timing r (mode_of z) (mode_of b) e n.phase u)
  pub over : Over r (mode_of z) (mode_of b) e n

module _ {D : Type 0} (md : D → Means) (td : D → Timing) (q : PPhase) (s a : ℕ) (d : Option ℕ) (x mid y : D)
    (w : Drive) (r : PPhase) (z b : ℕ) (e : Option ℕ) where
  pub steps : InOrder md td x → InOrder md td mid → InOrder md td y → Over q (mode_of s) (mode_of a) d (md x)
      → w ≡ task_drive (task_of q (mode_of s) (mode_of a)) (is_some d) (md x).phase
      → Drove w (md x) (md mid) → (w ≡ Nothing → mid ≡ x) → (td mid).bound ≡ (td x).bound
      → Stepped (md mid) (md y) → Ticked (md mid).phase (md y).phase (td mid) (td y)
      → e ≡ task_note (task_of q (mode_of s) (mode_of a)) d (heard (md y).phase (md y).denier)
      → r ≡ next_phase q (task_of q (mode_of s) (mode_of a)) (is_some e) (md y).phase
      → z ≡ next_state q r s a → b ≡ a
      → StepKept q s a d (md x) (md y) (td x) (td y) r z b e
  steps ox om oy h ew drove idle bound stepped ticked n p i j =
      let sb = mode_of s in
      let ab = mode_of a in
      let f : Went md td (task_drive (task_of q sb ab) (is_some d) (md x).phase) x y =
      subst (λ u. Went md td u x y) ew (record {
        mid = mid;
        before = ox;
        drove = drove;
        undriven = idle;
        mid_bound = bound;
        between = om;
        stepped = stepped;
        ticked = ticked;
        after = oy;
      }) in
      let turned = went_turned md td _ x y f in
      let es : mode_of z ≡ next_mode q r sb ab = ap mode_of i ∙ next_is q r s a in
      let ea : mode_of b ≡ ab = ap mode_of j in
      record {
        seen = rw es (rw p (rw n (ticks q sb ab d (md x) _ (md y) h turned)));
        pace = rw (es, ea) (rw p (rw n (runs q sb ab d _ (md x) (md y).phase _ _ _ h (stays _ d _) (went_paced md td _ x y f))));
        over = rw (es, ea) (rw p (rw n (keeps_over q sb ab d (md x) _ (md y) h turned)));
      }

-- an ask, by its answer
module _ (q : PPhase) (s a n : ℕ) (d : Option ℕ) (m : Means) (o : Sound m) (h : Over q (mode_of s) (mode_of a) d m) where
  abbrev ok : Bool
  ok = is_ok (ask_answer q n)

  pub ask_called : Called stop ok (converter_view q (mode_of s) d m) (converter_view (cond ok p.Request q) (mode_of s) (cond ok None d) m)
  ask_called = by q h
    where
      used : (u : Mode) → RestAt (mode_of s) m
          → Called stop (is_ok (used_answer u)) (converter_view p.Stable (mode_of s) d m)
          (converter_view (cond (is_ok (used_answer u)) p.Request p.Stable) (mode_of s) (cond (is_ok (used_answer u)) None d) m)
      used mode.Unused r = refl
      used mode.Stop r = asks (mode_of s) d m o r
      used mode.Run r = asks (mode_of s) d m o r

      by : (q : PPhase) → Over q (mode_of s) (mode_of a) d m
          → Called stop (is_ok (ask_answer q n)) (converter_view q (mode_of s) d m)
          (converter_view (cond (is_ok (ask_answer q n)) p.Request q) (mode_of s) (cond (is_ok (ask_answer q n)) None d) m)
      by p.Stable h = used (mode_of n) h
      by p.Request h = refl
      by p.Accept h = refl
      by p.Complete h = refl
      by p.Denied h = refl
      by p.Continue h = refl

  pub ask_timed : (t : Timing)
      → Timed stop ok (p_end q (power (mode_of s))) (p_end (cond ok p.Request q) (power (mode_of s)))
      (converter_timing q (mode_of s) (mode_of a) d m.phase t)
      (converter_timing (cond ok p.Request q) (mode_of s) (mode_of (cond ok n a)) (cond ok None d) m.phase t)
  ask_timed t = by q
    where
      used : (u : Mode)
          → Timed stop (is_ok (used_answer u)) (p_end p.Stable (power (mode_of s))) (p_end (cond (is_ok (used_answer u)) p.Request p.Stable) (power (mode_of s)))
          (converter_timing p.Stable (mode_of s) (mode_of a) d m.phase t)
          (converter_timing (cond (is_ok (used_answer u)) p.Request p.Stable) (mode_of s) (mode_of (cond (is_ok (used_answer u)) n a)) (cond (is_ok (used_answer u)) None d) m.phase t)
      used mode.Unused = refl
      used mode.Stop = refl
      used mode.Run = refl

      by : (q : PPhase)
          → Timed stop (is_ok (ask_answer q n)) (p_end q (power (mode_of s))) (p_end (cond (is_ok (ask_answer q n)) p.Request q) (power (mode_of s)))
          (converter_timing q (mode_of s) (mode_of a) d m.phase t)
          (converter_timing (cond (is_ok (ask_answer q n)) p.Request q) (mode_of s) (mode_of (cond (is_ok (ask_answer q n)) n a)) (cond (is_ok (ask_answer q n)) None d) m.phase t)
      by p.Stable = used (mode_of n)
      by p.Request = refl
      by p.Accept = refl
      by p.Complete = refl
      by p.Denied = refl
      by p.Continue = refl

-- a drop, by the phase before it
module _ (q : PPhase) (s a : Mode) (d : Option ℕ) (m : Means) (h : Over q s a d m) where
  pub drop_called : Called back (is_ok (drop_answer q)) (converter_view q s d m) (converter_view (dropped q) s d m)
  drop_called = by q
    where
      by : (q : PPhase) → Called back (is_ok (drop_answer q)) (converter_view q s d m) (converter_view (dropped q) s d m)
      by p.Stable = refl
      by p.Request = refl
      by p.Accept = record { closed = λ i. i; opened = tt; same_tags = refl }
      by p.Complete = refl
      by p.Denied = record { closed = λ i. i; opened = tt; same_tags = refl }
      by p.Continue = refl

  pub drop_timed : (t : Timing)
      → Timed back (is_ok (drop_answer q)) (p_end q (power s)) (p_end (dropped q) (power s))
      (converter_timing q s a d m.phase t) (converter_timing (dropped q) s a d m.phase t)
  drop_timed t = by q
    where
      by : (q : PPhase)
          → Timed back (is_ok (drop_answer q)) (p_end q (power s)) (p_end (dropped q) (power s))
          (converter_timing q s a d m.phase t) (converter_timing (dropped q) s a d m.phase t)
      by p.Stable = refl
      by p.Request = refl
      by p.Accept = refl
      by p.Complete = refl
      by p.Denied = refl
      by p.Continue = refl

-- a used state asked for at rest
asks_over : (s a : Mode) (m : Means) → RestAt s m → (a ≡ mode.Unused → ⊥) → Asked s a None m
asks_over s a m r u = grind arith

-- after an ask or a drop the device, which stays as it is, still goes with the converter
ask_over : (q : PPhase) (s a n : ℕ) (e : Option ℕ) (m : Means) → Over q (mode_of s) (mode_of a) e m
    → Over (cond (is_ok (ask_answer q n)) p.Request q) (mode_of s) (mode_of (cond (is_ok (ask_answer q n)) n a)) (cond (is_ok (ask_answer q n)) None e) m
ask_over q s a n e m h = by q h
  where
    used : (u : Mode) → mode_of n ≡ u → RestAt (mode_of s) m
        → Over (cond (is_ok (used_answer u)) p.Request p.Stable) (mode_of s) (mode_of (cond (is_ok (used_answer u)) n a)) (cond (is_ok (used_answer u)) None e) m
    used mode.Unused i r = r
    used mode.Stop i r = asks_over (mode_of s) (mode_of n) m r (λ j. grind arith)
    used mode.Run i r = asks_over (mode_of s) (mode_of n) m r (λ j. grind arith)

    by : (q : PPhase) → Over q (mode_of s) (mode_of a) e m
        → Over (cond (is_ok (ask_answer q n)) p.Request q) (mode_of s) (mode_of (cond (is_ok (ask_answer q n)) n a)) (cond (is_ok (ask_answer q n)) None e) m
    by p.Stable h = used (mode_of n) refl h
    by p.Request h = h
    by p.Accept h = h
    by p.Complete h = h
    by p.Denied h = h
    by p.Continue h = h

drop_over : (q : PPhase) (s a : Mode) (d : Option ℕ) (m : Means) → Over q s a d m → Over (dropped q) s a d m
drop_over p.Stable s a d m h = h
drop_over p.Request s a d m h = h
drop_over p.Accept s a d m h = h
drop_over p.Complete s a d m h = h
drop_over p.Denied s a d m h = h
drop_over p.Continue s a d m h = h

module _ {D : Type 0} {d : device.Ghosts D} where
  module _ (l : (x : D) → d.ordered x → InOrder d.means d.timing x) where
    pub ask_links : (n : ℕ) (b c : Converter D) (o : Result Unit PRefusal) → o ≡ ask_answer b.phase n → AskMade n b c → Links d stop (is_ok o) b c
    ask_links n b c o e h w =
        let m = d.means b.device in
        let s = (l b.device w.device).sound in
        record {
          called = rw (e, h.phase_is, h.same_state, h.denier_is, h.same_device) (ask_called b.phase b.state b.asked n b.denier m s w.over);
          timed = rw (e, h.phase_is, h.same_state, h.asked_is, h.denier_is, h.same_device)
              (ask_timed b.phase b.state b.asked n b.denier m s w.over (d.timing b.device));
          fit = converter_fits l c (record {
            device = rw h.same_device w.device;
            over = rw (h.phase_is, h.same_state, h.asked_is, h.denier_is, h.same_device) (ask_over b.phase b.state b.asked n b.denier m w.over);
          });
        }

    pub drop_links : (b c : Converter D) (o : Result Unit PRefusal) → o ≡ drop_answer b.phase → DropMade b c → Links d back (is_ok o) b c
    drop_links b c o e h w =
        let m = d.means b.device in
        record {
          called = rw (e, h.phase_is, h.same_state, h.same_denier, h.same_device)
              (drop_called b.phase (mode_of b.state) (mode_of b.asked) b.denier m w.over);
          timed = rw (e, h.phase_is, h.same_state, h.same_asked, h.same_denier, h.same_device)
              (drop_timed b.phase (mode_of b.state) (mode_of b.asked) b.denier m w.over (d.timing b.device));
          fit = converter_fits l c (record {
            device = rw h.same_device w.device;
            over = rw (h.phase_is, h.same_state, h.same_asked, h.same_denier, h.same_device)
                (drop_over b.phase (mode_of b.state) (mode_of b.asked) b.denier m w.over);
          });
        }
