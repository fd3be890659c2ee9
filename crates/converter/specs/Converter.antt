-- A converter over any device: what is seen of it, when it is in order, and what its calls make of it.
use Rattle.std.specs.Prelude.{◌≡◌, ℕ, Bool, cond, is_some, is_ok, None, Ok, Err, Result}
use Rattle.channel.specs.declared.pphase.PPhase.{PPhase}
use Rattle.channel.specs.declared.pphase.PPhase.TheVariants as p
use Rattle.channel.specs.declared.device.Call.TheVariants as call
use Rattle.channel.specs.declared.device.QDevice as device
use Rattle.channel.specs.Timing.{Timing}
use Rattle.pile.specs.Views.{View}
use Rattle.pile.specs.Calls.{Kind}
use Rattle.pile.specs.Runs.{Linked}
use Rattle.joins.specs.Rules.{heard, DriveMakes}
use Rattle.converter.specs.declared.rules.Mode.{Mode}
use Rattle.converter.specs.declared.rules.Mode.TheVariants as mode
use Rattle.converter.specs.declared.converter.Converter.{Converter}
use Rattle.converter.specs.declared.refusal.PRefusal.{PRefusal}
use Rattle.converter.specs.declared.refusal.PRefusal.TheVariants.{AskNotAtStable, StateUnused, DropNotAnswered}
use Rattle.converter.specs.Rules.{mode_of, task_of, task_drive, task_note, next_phase, next_state}
use Rattle.converter.specs.Over.{converter_view, Over, converter_timing}

-- a state to ask for is one that is used
abbrev pub used_answer : Mode → Result Unit PRefusal
used_answer mode.Unused = Err StateUnused
used_answer mode.Stop = Ok tt
used_answer mode.Run = Ok tt

-- the phase is looked at first, then the state
abbrev pub ask_answer : PPhase → ℕ → Result Unit PRefusal
ask_answer p.Stable n = used_answer (mode_of n)
ask_answer p.Request n = Err AskNotAtStable
ask_answer p.Accept n = Err AskNotAtStable
ask_answer p.Complete n = Err AskNotAtStable
ask_answer p.Denied n = Err AskNotAtStable
ask_answer p.Continue n = Err AskNotAtStable

abbrev pub drop_answer : PPhase → Result Unit PRefusal
drop_answer p.Stable = Err DropNotAnswered
drop_answer p.Request = Err DropNotAnswered
drop_answer p.Accept = Ok tt
drop_answer p.Complete = Err DropNotAnswered
drop_answer p.Denied = Ok tt
drop_answer p.Continue = Err DropNotAnswered

-- where a drop leads
abbrev pub dropped : PPhase → PPhase
dropped p.Stable = p.Stable
dropped p.Request = p.Request
dropped p.Accept = p.Complete
dropped p.Complete = p.Complete
dropped p.Denied = p.Continue
dropped p.Continue = p.Continue

module _ {D : Type 0} where
  -- an accepted ask opens the request, and clears the denier; a refused one changes nothing
  pub record AskMade (n : ℕ) (b c : Converter D) : Type 0 where
    pub phase_is : c.phase ≡ cond (is_ok (ask_answer b.phase n)) p.Request b.phase
    pub asked_is : c.asked ≡ cond (is_ok (ask_answer b.phase n)) n b.asked
    pub denier_is : c.denier ≡ cond (is_ok (ask_answer b.phase n)) None b.denier
    pub same_device : c.device ≡ b.device
    pub same_state : c.state ≡ b.state

  -- a drop acts on the phase alone
  pub record DropMade (b c : Converter D) : Type 0 where
    pub phase_is : c.phase ≡ dropped b.phase
    pub same_device : c.device ≡ b.device
    pub same_state : c.state ≡ b.state
    pub same_asked : c.asked ≡ b.asked
    pub same_denier : c.denier ≡ b.denier

module _ {D : Type 0} (d : device.Ghosts D) where
  abbrev pub view_of : Converter D → View
  view_of c = converter_view c.phase (mode_of c.state) c.denier (d.means c.device)

  abbrev pub time_of : Converter D → Timing
  time_of c = converter_timing c.phase (mode_of c.state) (mode_of c.asked) c.denier (d.means c.device).phase (d.timing c.device)

  -- the device is in order, and goes with the converter's own phase, state and denier
  pub record ConverterOrder (c : Converter D) : Type 0 where
    pub device : d.ordered c.device
    pub over : Over c.phase (mode_of c.state) (mode_of c.asked) c.denier (d.means c.device)

  -- a converter in order goes from b to c as a call of this kind does
  abbrev pub Links : Kind → Bool → Converter D → Converter D → Type 0
  Links k accepted b c = ConverterOrder b → Linked ConverterOrder view_of time_of k accepted b c

  -- a step drives the device by its phase before, steps it, notes, decides, and takes the state over at Accept
  pub record StepMade (b c : Converter D) : Type 0 where
    pub mid : D
    pub driven : DriveMakes d.makes (task_drive (task_of b.phase (mode_of b.state) (mode_of b.asked)) (is_some b.denier) (d.means b.device).phase) b.device mid
    pub stepped : d.makes call.Step mid c.device
    pub notes : c.denier ≡ task_note (task_of b.phase (mode_of b.state) (mode_of b.asked)) b.denier (heard (d.means c.device).phase (d.means c.device).denier)
    pub decides : c.phase ≡ next_phase b.phase (task_of b.phase (mode_of b.state) (mode_of b.asked)) (is_some c.denier) (d.means c.device).phase
    pub state_is : c.state ≡ next_state b.phase c.phase b.state b.asked
    pub same_asked : c.asked ≡ b.asked

  -- made or reset: Stable, state 0, no denier, the device reset
  pub record StartMade (x : D) (c : Converter D) : Type 0 where
    pub device_reset : d.makes call.Restart x c.device
    pub stable : c.phase ≡ p.Stable
    pub state_0 : c.state ≡ 0
    pub asked_0 : c.asked ≡ 0
    pub none : c.denier ≡ None
