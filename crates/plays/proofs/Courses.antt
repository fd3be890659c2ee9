-- The calls of leaves, of joins of timed leaves and of converters over one have one course each.
use Rattle.std.proofs.Common.{◌≡◌, ℕ, List, [], ◌∷◌, cond, is_some, is_ok, None, Option, refl, ap, ◌∙◌, subst}
use Rattle.channel.specs.declared.phase.Phase.{Phase}
use Rattle.channel.specs.declared.device.Call.{Call}
use Rattle.channel.specs.declared.device.Call.TheVariants.{Lower, Raise, Step, Restart}
use Rattle.channel.specs.declared.end.QEnd.{QEnd}
use Rattle.channel.specs.declared.pphase.PPhase.{PPhase}
use Rattle.channel.specs.declared.pphase.PPhase.TheVariants as p
use Rattle.channel.specs.Ends.{at_rest, end_lowered, end_raised}
use Rattle.leaves.specs.declared.timed.Timed.{Timed}
use Rattle.leaves.specs.Timed.{timed_means, timed_makes, after}
use Rattle.leaves.specs.Told.{timed}
use Rattle.joins.specs.declared.rule.Rule as rule
use Rattle.joins.specs.declared.rules.Kind.{Kind}
use Rattle.joins.specs.declared.rules.Drive.{Drive}
use Rattle.joins.specs.declared.rules.Drive.TheVariants as drive
use Rattle.joins.specs.declared.join.Join.{Join}
use Rattle.joins.specs.Rules.{first_drive, second_drive, heard, DriveMakes}
use Rattle.joins.specs.Together.{denier_after, phase_after}
use Rattle.joins.specs.Join.{join_makes, Made}
use Rattle.converter.specs.declared.converter.Converter.{Converter}
use Rattle.converter.specs.declared.stack.PCall.{PCall}
use Rattle.converter.specs.declared.stack.PCall.TheVariants as ask
use Rattle.converter.specs.Rules.{mode_of, task_of, task_drive, task_note, next_phase, next_state}
use Rattle.converter.specs.Converter.{ask_answer, dropped, StartMade}
use Rattle.plays.specs.Worked.{Goes, calls_in, told_in, Tells, told_join, told_converter, ConverterGoes}

module _ {C P T : Type 0} (next : C → P → P) (tell : P → T) where
  abbrev pub course : P → List C → List T
  course x [] = []
  course x (c ∷ cs) = tell (next c x) ∷ course (next c x) cs

-- where each call makes one state, what is told is its course
pub tells : {S C P T : Type 0} (makes : C → S → S → Type 0) (state : S → P) (next : C → P → P) (tell : P → T)
    → ((c : C) (x y : S) → makes c x y → state y ≡ next c (state x)) → (x : S) (calls : List C)
    → Tells makes (λ s. tell (state s)) x calls (course next tell (state x) calls)
tells makes state next tell one x calls run g e =
    subst (λ cs. told_in (λ s. tell (state s)) run ≡ course next tell (state x) cs) e (along x run g)
  where
    along : (x : _) (run : _) → Goes makes x run → told_in (λ s. tell (state s)) run ≡ course next tell (state x) (calls_in run)
    along x [] g = refl
    along x (k ∷ ks) g =
        rw (← (one k.0 x k.1 g.0)) (ap (λ ts. tell (state k.1) ∷ ts) (along k.1 ks g.1))

-- a drive of a timed leaf
abbrev driven : Drive → Timed → Timed
driven drive.Nothing t = t
driven drive.Lower t = after Lower t
driven drive.Raise t = after Raise t

drive_one : (w : Drive) (x y : Timed) → DriveMakes timed_makes w x y → y ≡ driven w x
drive_one drive.Nothing x y h = h
drive_one drive.Lower x y h = h
drive_one drive.Raise x y h = h

-- a join of two timed leaves, by its fields
pub record Both : Type 0 where
  pub end : QEnd
  pub first : Timed
  pub second : Timed

-- a join of these devices, once it has noted and decided
abbrev settled : QEnd → Timed → Timed → Both
settled e x y = record {
  end = record {
    phase = phase_after e.phase e.denier (timed_means x) (timed_means y);
    denier = denier_after e.phase e.denier (timed_means x) (timed_means y);
  };
  first = x;
  second = y;
}

abbrev pub join_next : Kind → Call → Both → Both
join_next k Lower b = record { end = end_lowered b.end; first = b.first; second = b.second }
join_next k Raise b = record { end = end_raised b.end; first = b.first; second = b.second }
join_next k Step b = settled b.end
    (after Step (driven (first_drive k b.end.phase (is_some b.end.denier) b.first.end.phase b.second.end.phase) b.first))
    (after Step (driven (second_drive k b.end.phase (is_some b.end.denier) b.first.end.phase b.second.end.phase) b.second))
join_next k Restart b = record { end = at_rest; first = after Restart b.first; second = after Restart b.second }

same : (b c : Both) → b.end ≡ c.end → b.first ≡ c.first → b.second ≡ c.second → b ≡ c
same b c e f s = rw (e, f, s)

end_is : (e : QEnd) (p : Phase) (d : Option ℕ) → e.phase ≡ p → e.denier ≡ d → e ≡ record { phase = p; denier = d }
end_is e p d h k = rw (← h, ← k)

abbrev pub told_fields : Both → Phase × Option ℕ
told_fields b = (b.end.phase, b.end.denier)

module _ {R : Type 0} (r : rule.Ghosts R) where
  abbrev pub fields : Join R Timed Timed → Both
  fields j = record { end = j.end; first = j.first; second = j.second }

  made_so : (i j : Join R Timed Timed) (x y : Timed) → j.first ≡ x → j.second ≡ y
      → j.end.denier ≡ denier_after i.end.phase i.end.denier (timed_means j.first) (timed_means j.second)
      → j.end.phase ≡ phase_after i.end.phase i.end.denier (timed_means j.first) (timed_means j.second)
      → fields j ≡ settled i.end x y
  made_so i j x y ex ey d q =
      rw (← ex, ← ey) (same (fields j) (settled i.end j.first j.second) (end_is j.end _ _ q d) refl refl)

  pub join_one : (c : Call) (i j : Join R Timed Timed) → join_makes r timed timed c i j → fields j ≡ join_next r.KIND c (fields i)
  join_one Lower i j h = same (fields j) (join_next r.KIND Lower (fields i)) h.lowered h.apart.same_first h.apart.same_second
  join_one Raise i j h = same (fields j) (join_next r.KIND Raise (fields i)) h.raised h.apart.same_first h.apart.same_second
  join_one Step i j h =
      made_so i j _ _ (h.first_stepped ∙ ap (after Step) (drive_one _ _ _ h.first_driven))
      (h.second_stepped ∙ ap (after Step) (drive_one _ _ _ h.second_driven)) h.notes h.decides
  join_one Restart i j h = same (fields j) (join_next r.KIND Restart (fields i)) h.rests h.first_reset h.second_reset

  pub join_tells : (x y : Timed) (j : Join R Timed Timed) → Made timed timed x y j → (calls : List Call)
      → Tells (join_makes r timed timed) told_join j calls
      (course (join_next r.KIND) told_fields (record { end = at_rest; first = after Restart x; second = after Restart y }) calls)
  join_tells x y j h calls =
      let b : Both = record { end = at_rest; first = after Restart x; second = after Restart y } in
      subst (λ b. Tells (join_makes r timed timed) told_join j calls (course (join_next r.KIND) told_fields b calls))
      (same (fields j) b h.rests h.first_reset h.second_reset)
      (tells (join_makes r timed timed) fields (join_next r.KIND) told_fields join_one j calls)

-- a converter over a timed leaf, by its fields
pub record Fields : Type 0 where
  pub device : Timed
  pub phase : PPhase
  pub state : ℕ
  pub asked : ℕ
  pub denier : Option ℕ

abbrev pub held : Converter Timed → Fields
held c = record { device = c.device; phase = c.phase; state = c.state; asked = c.asked; denier = c.denier }

-- a converter over this device, once it has noted and decided
abbrev answers : Fields → Timed → Fields
answers b x =
    let t = task_of b.phase (mode_of b.state) (mode_of b.asked) in
    let d = task_note t b.denier (heard x.end.phase x.end.denier) in
    let q = next_phase b.phase t (is_some d) x.end.phase in
    record { device = x; phase = q; state = next_state b.phase q b.state b.asked; asked = b.asked; denier = d }

abbrev pub converter_next : PCall → Fields → Fields
converter_next (ask.Ask n) b =
    let ok = is_ok (ask_answer b.phase n) in
    record { device = b.device; phase = cond ok p.Request b.phase; state = b.state; asked = cond ok n b.asked; denier = cond ok None b.denier }
converter_next ask.Drop b = record { device = b.device; phase = dropped b.phase; state = b.state; asked = b.asked; denier = b.denier }
converter_next ask.Step b = answers b
    (after Step (driven (task_drive (task_of b.phase (mode_of b.state) (mode_of b.asked)) (is_some b.denier) b.device.end.phase) b.device))

equal : (b c : Fields) → b.device ≡ c.device → b.phase ≡ c.phase → b.state ≡ c.state → b.asked ≡ c.asked → b.denier ≡ c.denier → b ≡ c
equal b c x q s a d = rw (x, q, s, a, d)

answers_so : (b c : Converter Timed) (x : Timed) → c.device ≡ x
    → c.denier ≡ task_note (task_of b.phase (mode_of b.state) (mode_of b.asked)) b.denier (heard c.device.end.phase c.device.end.denier)
    → c.phase ≡ next_phase b.phase (task_of b.phase (mode_of b.state) (mode_of b.asked)) (is_some c.denier) c.device.end.phase
    → c.state ≡ next_state b.phase c.phase b.state b.asked → c.asked ≡ b.asked → held c ≡ answers (held b) x
answers_so b c x e d q s a = rw (← e) (rw (← d, ← q, ← s, ← a) refl)

pub converter_one : (c : PCall) (x y : Converter Timed) → ConverterGoes c x y → held y ≡ converter_next c (held x)
converter_one (ask.Ask n) x y h =
    let m = h.1.1 in
    equal (held y) (converter_next (ask.Ask n) (held x)) m.same_device m.phase_is m.same_state m.asked_is m.denier_is
converter_one ask.Drop x y h =
    let m = h.1.1 in
    equal (held y) (converter_next ask.Drop (held x)) m.same_device m.phase_is m.same_state m.same_asked m.same_denier
converter_one ask.Step x y h =
    let m = h.1.1 in
    answers_so x y _ (m.stepped ∙ ap (after Step) (drive_one _ _ _ m.driven)) m.notes m.decides m.state_is m.same_asked

abbrev pub told_held : Fields → PPhase × ℕ × Option ℕ
told_held b = (b.phase, b.state, b.denier)

pub converter_tells : (x : Timed) (c : Converter Timed) → StartMade timed x c → (calls : List PCall)
    → Tells ConverterGoes told_converter c calls
    (course converter_next told_held (record { device = after Restart x; phase = p.Stable; state = 0; asked = 0; denier = None }) calls)
converter_tells x c h calls =
    let b : Fields = record { device = after Restart x; phase = p.Stable; state = 0; asked = 0; denier = None } in
    subst (λ b. Tells ConverterGoes told_converter c calls (course converter_next told_held b calls))
    (equal (held c) b h.device_reset h.stable h.state_0 h.asked_0 h.none)
    (tells ConverterGoes held converter_next told_held converter_one c calls)
