-- Worked plays: what the definitions of leaves, joins, converter and reader give, call by call.
use Rattle.std.specs.Prelude.{◌≡◌, ℕ, ◌≤◌, Bool, List, [], ◌∷◌, Some, None, Err, codes, Option}
use Rattle.channel.specs.declared.phase.Phase.{Phase}
use Rattle.channel.specs.declared.phase.Phase.TheVariants.{Run, Request, Stopped, Exit, Denied, Continue}
use Rattle.channel.specs.declared.pphase.PPhase.{PPhase}
use Rattle.channel.specs.declared.pphase.PPhase.TheVariants as p
use Rattle.channel.specs.declared.device.Call.{Call}
use Rattle.channel.specs.declared.device.Call.TheVariants.{Lower, Raise, Step}
use Rattle.leaves.specs.declared.delays.Delays.{Delays}
use Rattle.leaves.specs.declared.timed.Timed.{Timed}
use Rattle.leaves.specs.declared.work.Work.{Work}
use Rattle.leaves.specs.Timed.{timed_makes, made}
use Rattle.leaves.specs.Told.{timed}
use Rattle.leaves.specs.Work.{work_makes}
use Rattle.leaves.specs.Work as work
use Rattle.leaves.specs.Jobs.{after_add}
use Rattle.joins.specs.declared.rule.Parallel.{Parallel}
use Rattle.joins.specs.declared.rule.Serial.{Serial}
use Rattle.joins.specs.declared.join.Join.{Join}
use Rattle.joins.specs.Join.{join_makes, Made}
use Rattle.joins.specs.Told.{parallel, serial}
use Rattle.converter.specs.declared.converter.Converter.{Converter}
use Rattle.converter.specs.declared.stack.PCall.{PCall}
use Rattle.converter.specs.declared.stack.PCall.TheVariants as ask
use Rattle.converter.specs.Converter.{StartMade}
use Rattle.converter.specs.Stack.{p_makes}
use Rattle.lines.specs.declared.flaw.Flaw.TheVariants.{NoSuchLine}
use Rattle.topology.specs.declared.fault.Fault.TheVariants.{BadLine}
use Rattle.topology.specs.Format.{outcome}

module _ {S C : Type 0} where
  -- a run: each call makes of the value before it what its contract says
  abbrev pub Goes : (C → S → S → Type 0) → S → List (C × S) → Type 0
  Goes makes x [] = Unit {0}
  Goes makes x (k ∷ ks) = makes k.0 x k.1 × Goes makes k.1 ks

  abbrev pub calls_in : List (C × S) → List C
  calls_in [] = []
  calls_in (k ∷ ks) = k.0 ∷ calls_in ks

  -- what is told after each call
  abbrev pub told_in : {T : Type 0} → (S → T) → List (C × S) → List T
  told_in tell [] = []
  told_in tell (k ∷ ks) = tell k.1 ∷ told_in tell ks

  -- however these calls go, this is told
  abbrev pub Tells : {T : Type 0} → (C → S → S → Type 0) → (S → T) → S → List C → List T → Type 0
  Tells makes tell x calls seen = (run : List (C × S)) → Goes makes x run → calls_in run ≡ calls → told_in tell run ≡ seen

abbrev delays : (a w : ℕ) → 1 ≤ a → 1 ≤ w → Delays
delays a w h i = record { answer = a; wake = w; answers = h; wakes = i }

-- a timed leaf just made
abbrev pub leaf : (tag a w k : ℕ) → 1 ≤ a → 1 ≤ w → Timed
leaf tag a w k h i = made tag (delays a w h i) k

abbrev pub told_phase : Timed → Phase
told_phase t = t.end.phase

-- phase, and the jobs that wait
abbrev pub told_work : Work → Phase × ℕ
told_work v = (v.end.phase, v.jobs)

-- phase and denier of a join of two timed leaves
abbrev pub told_join : {R : Type 0} → Join R Timed Timed → Phase × Option ℕ
told_join j = (j.end.phase, j.end.denier)

-- however a distributor of these leaves was made, and however these calls go, this is told
abbrev pub DistributorTells : Timed → Timed → List Call → List (Phase × Option ℕ) → Type 0
DistributorTells x y calls seen =
    (j : Join Parallel Timed Timed) → Made timed timed x y j → Tells (join_makes parallel timed timed) told_join j calls seen

abbrev pub SequencerTells : Timed → Timed → List Call → List (Phase × Option ℕ) → Type 0
SequencerTells x y calls seen =
    (j : Join Serial Timed Timed) → Made timed timed x y j → Tells (join_makes serial timed timed) told_join j calls seen

abbrev pub ConverterGoes : PCall → Converter Timed → Converter Timed → Type 0
ConverterGoes c x y = (b : Bool) × p_makes timed c b x y

-- phase, state and denier
abbrev pub told_converter : Converter Timed → PPhase × ℕ × Option ℕ
told_converter c = (c.phase, c.state, c.denier)

pub record WorkedPlays : Type 0 where
  -- D 2: Request after the first step, Stopped after the second.
  -- False where D counts from 0, or where the lower itself is a step
  pub late_answer : (h : 1 ≤ 2) (i : 1 ≤ 1)
      → Tells timed_makes told_phase (leaf 1 2 1 0 h i)
      (Raise ∷ Step ∷ Lower ∷ Step ∷ Step ∷ [])
      (Exit ∷ Run ∷ Request ∷ Request ∷ Stopped ∷ [])
  -- K 3: only the third of three requests is denied. False where the first is counted as 0, or all from the third on
  pub every_third : (h i : 1 ≤ 1)
      → Tells timed_makes told_phase (leaf 1 1 1 3 h i)
      (Raise ∷ Step ∷ Lower ∷ Step ∷ Raise ∷ Step ∷ Lower ∷ Step ∷ Raise ∷ Step ∷ Lower ∷ Step ∷ Raise ∷ Step ∷ Lower ∷ Step ∷ [])
      (Exit ∷ Run ∷ Request ∷ Stopped ∷ Exit ∷ Run ∷ Request ∷ Stopped ∷ Exit ∷ Run ∷ Request ∷ Denied ∷ Continue ∷ Run ∷ Request ∷ Stopped ∷ [])
  -- P 1, 2 jobs: one is done, then the leaf denies with one left. False where patience counts the denying step as a job,
  -- or where the lower counts the jobs done before it
  pub patience : Tells work_makes told_work (after_add (work.after Step (work.after Raise (work.made 1 1))) 2)
      (Lower ∷ Step ∷ Step ∷ [])
      ((Request, 2) ∷ (Request, 1) ∷ (Denied, 1) ∷ [])
  -- both deny at once: Denied at step 2, and the first is told. False where the second is noted first,
  -- or where a join is at Denied while its devices are
  pub both_deny : (h i : 1 ≤ 1)
      → DistributorTells (leaf 1 1 1 1 h i) (leaf 2 1 1 1 h i)
      (Raise ∷ Step ∷ Lower ∷ Step ∷ Step ∷ [])
      ((Exit, None) ∷ (Run, None) ∷ (Request, None) ∷ (Request, Some 1) ∷ (Denied, Some 1) ∷ [])
  -- the first answers at step 3, the second denied at step 1: Denied at step 4, tag 2. False where an unanswered request
  -- is withdrawn (Denied earlier), or where the latest denier is told
  pub slow_first : (h : 1 ≤ 3) (i : 1 ≤ 1)
      → DistributorTells (leaf 1 3 1 1 h i) (leaf 2 1 1 1 i i)
      (Raise ∷ Step ∷ Lower ∷ Step ∷ Step ∷ Step ∷ Step ∷ [])
      ((Exit, None) ∷ (Run, None) ∷ (Request, None) ∷ (Request, Some 2) ∷ (Request, Some 2) ∷ (Request, Some 2) ∷ (Denied, Some 2) ∷ [])
  -- two requests of a sequencer: the first names 2, the second 1. False where an older request's denier is taken
  pub no_older : (h : 1 ≤ 2) (i : 1 ≤ 1)
      → SequencerTells (leaf 1 2 1 2 h i) (leaf 2 1 1 1 i i)
      (Raise ∷ Step ∷ Step ∷ Lower ∷ Step ∷ Step ∷ Step ∷ Step ∷ Step ∷ Raise ∷ Step ∷ Lower ∷ Step ∷ Step ∷ Step ∷ [])
      ((Exit, None) ∷ (Exit, None) ∷ (Run, None) ∷ (Request, None) ∷ (Request, None) ∷ (Request, None) ∷ (Request, Some 2)
      ∷ (Request, Some 2) ∷ (Denied, Some 2) ∷ (Continue, Some 2) ∷ (Run, Some 2)
      ∷ (Request, None) ∷ (Request, None) ∷ (Request, Some 1) ∷ (Denied, Some 1) ∷ [])
  -- ask 8 is accepted at step 1; after drop and a step, ask 0 is denied at step 2 and the state is still 8.
  -- False where the state changes with the ask, or where a converter answers while its device is at Denied
  pub denied_ask : (h i : 1 ≤ 1) (c : Converter Timed) → StartMade timed (leaf 1 1 1 1 h i) c
      → Tells ConverterGoes told_converter c
      (ask.Ask 8 ∷ ask.Step ∷ ask.Drop ∷ ask.Step ∷ ask.Ask 0 ∷ ask.Step ∷ ask.Step ∷ [])
      ((p.Request, 0, None) ∷ (p.Accept, 8, None) ∷ (p.Complete, 8, None) ∷ (p.Stable, 8, None)
      ∷ (p.Request, 8, None) ∷ (p.Request, 8, Some 1) ∷ (p.Denied, 8, Some 1) ∷ [])
  -- a join alone: its first device is no earlier line, which is told before the tree is looked at
  pub lone_join : outcome (codes "seq a b c\n") 127 ≡ Err (BadLine NoSuchLine 1)
