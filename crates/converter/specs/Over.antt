-- How a converter's own phase, state and denier go with its device, and how long it may take.
use Rattle.std.specs.Prelude.{◌≡◌, ℕ, ◌+◌, ◌*◌, ◌⊎◌, Some, None, Option}
use Rattle.channel.specs.declared.phase.Phase.{Phase}
use Rattle.channel.specs.declared.phase.Phase.TheVariants.{Run, Request, Stopped, Exit, Denied, Continue}
use Rattle.channel.specs.declared.pphase.PPhase.{PPhase}
use Rattle.channel.specs.declared.pphase.PPhase.TheVariants as p
use Rattle.channel.specs.Means.{Means, Has}
use Rattle.channel.specs.Timing.{Timing}
use Rattle.pile.specs.Views.{Power, stop_state, run_state, View, p_end}
use Rattle.joins.specs.Bounds.{answer_in, return_in}
use Rattle.converter.specs.declared.rules.Mode.{Mode}
use Rattle.converter.specs.declared.rules.Mode.TheVariants as mode
use Rattle.converter.specs.declared.rules.Task.{Task}
use Rattle.converter.specs.declared.rules.Task.TheVariants.{Hold, Same, Stopping, Waking}
use Rattle.converter.specs.Rules.{task_of}

abbrev pub power : Mode → Power
power mode.Unused = stop_state
power mode.Stop = stop_state
power mode.Run = run_state

-- the converter's own end over its device's leaves
abbrev pub converter_view : PPhase → Mode → Option ℕ → Means → View
converter_view q s d m = record { at = p_end q (power s); leaves = m.leaves; denier = d }

-- at rest the device is where the state wants it
abbrev pub RestAt : Mode → Means → Type 0
RestAt mode.Unused m = ⊥
RestAt mode.Stop m = m.phase ≡ Stopped
RestAt mode.Run m = m.phase ≡ Run

-- while the device is asked to stop
abbrev pub StoppingAt : Option ℕ → Means → Type 0
StoppingAt None m = (m.phase ≡ Run) ⊎ ((m.phase ≡ Request) × (m.denier ≡ None))
StoppingAt (Some t) m = (m.phase ≡ Denied) ⊎ (m.phase ≡ Continue) ⊎ ((m.phase ≡ Request) × Has m.denier)

-- during a request, by the state's mode and the asked one's
abbrev pub Asked : Mode → Mode → Option ℕ → Means → Type 0
Asked mode.Unused a d m = ⊥
Asked mode.Stop mode.Unused d m = ⊥
Asked mode.Stop mode.Stop d m = (m.phase ≡ Stopped) × (d ≡ None)
Asked mode.Stop mode.Run d m = ((m.phase ≡ Stopped) ⊎ (m.phase ≡ Exit)) × (d ≡ None)
Asked mode.Run mode.Unused d m = ⊥
Asked mode.Run mode.Stop d m = StoppingAt d m
Asked mode.Run mode.Run d m = (m.phase ≡ Run) × (d ≡ None)

abbrev pub Over : PPhase → Mode → Mode → Option ℕ → Means → Type 0
Over p.Stable s a d m = RestAt s m
Over p.Request s a d m = Asked s a d m
Over p.Accept s a d m = RestAt s m
Over p.Complete s a d m = RestAt s m
Over p.Denied s a d m = (s ≡ mode.Run) × (m.phase ≡ Run) × Has d
Over p.Continue s a d m = (s ≡ mode.Run) × (m.phase ≡ Run) × Has d

-- a stop may have to be taken back; a wake takes the return alone
abbrev pub stop_left : Option ℕ → Phase → Timing → ℕ
stop_left None x t = answer_in x t + t.bound
stop_left (Some d) x t = return_in x t

abbrev pub task_left : Task → Option ℕ → Phase → Timing → ℕ
task_left Hold d x t = 0
task_left Same d x t = 1
task_left Stopping d x t = stop_left d x t
task_left Waking d x t = return_in x t

abbrev pub phase_left : PPhase → Task → Option ℕ → Phase → Timing → ℕ
phase_left p.Stable k d x t = 0
phase_left p.Request k d x t = task_left k d x t
phase_left p.Accept k d x t = 0
phase_left p.Complete k d x t = 1
phase_left p.Denied k d x t = 0
phase_left p.Continue k d x t = 1

-- twice the device's bound
abbrev pub converter_timing : PPhase → Mode → Mode → Option ℕ → Phase → Timing → Timing
converter_timing q s a d x t = record { bound = 2 * t.bound; left = phase_left q (task_of q s a) d x t }
