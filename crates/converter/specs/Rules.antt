-- The rules of a converter: power states, what a step is for, drives, notes and decisions.
use Rattle.std.specs.Prelude.{ℕ, Bool, true, false, cond, Option, ◌==◌}
use Rattle.channel.specs.declared.phase.Phase.{Phase}
use Rattle.channel.specs.declared.phase.Phase.TheVariants.{Run, Stopped}
use Rattle.channel.specs.declared.pphase.PPhase.{PPhase}
use Rattle.channel.specs.declared.pphase.PPhase.TheVariants as p
use Rattle.channel.specs.Phases.{number_of}
use Rattle.joins.specs.declared.rules.Drive.{Drive}
use Rattle.joins.specs.declared.rules.Drive.TheVariants.{Nothing}
use Rattle.joins.specs.Rules.{lower_run, raise_stopped, raise_denied, or_else}
use Rattle.converter.specs.declared.rules.Mode.{Mode}
use Rattle.converter.specs.declared.rules.Mode.TheVariants as mode
use Rattle.converter.specs.declared.rules.Task.{Task}
use Rattle.converter.specs.declared.rules.Task.TheVariants.{Hold, Same, Stopping, Waking}

-- 0 is a stop state, 8 a run state, any other is unused
abbrev pub mode_of : ℕ → Mode
mode_of n = cond (n == 0) mode.Stop (cond (n == 8) mode.Run mode.Unused)

-- what a request is for: from the state's mode to the asked one's
abbrev pub change : Mode → Mode → Task
change mode.Unused a = Same
change mode.Stop mode.Unused = Same
change mode.Stop mode.Stop = Same
change mode.Stop mode.Run = Waking
change mode.Run mode.Unused = Same
change mode.Run mode.Stop = Stopping
change mode.Run mode.Run = Same

abbrev pub task_of : PPhase → Mode → Mode → Task
task_of p.Stable s a = Hold
task_of p.Request s a = change s a
task_of p.Accept s a = Hold
task_of p.Complete s a = Hold
task_of p.Denied s a = Hold
task_of p.Continue s a = Hold

-- a stop lowers the device at Run, and raises it at Denied once a denier is noted; a wake raises it at Stopped
abbrev pub task_drive : Task → Bool → Phase → Drive
task_drive Hold noted x = Nothing
task_drive Same noted x = Nothing
task_drive Stopping false x = lower_run x
task_drive Stopping true x = raise_denied x
task_drive Waking noted x = raise_stopped x

abbrev pub task_note : Task → Option ℕ → Option ℕ → Option ℕ
task_note Hold d t = d
task_note Same d t = d
task_note Stopping d t = or_else d t
task_note Waking d t = d

abbrev is : Phase → Phase → Bool
is x y = number_of x == number_of y

-- where a request goes, from the device's phase after its step
abbrev pub answered : Task → Bool → Phase → PPhase
answered Hold noted x = p.Request
answered Same noted x = p.Accept
answered Stopping noted x = cond (is x Stopped) p.Accept (cond (is x Run) (cond noted p.Denied p.Request) p.Request)
answered Waking noted x = cond (is x Run) p.Accept p.Request

abbrev pub next_phase : PPhase → Task → Bool → Phase → PPhase
next_phase p.Stable t noted x = p.Stable
next_phase p.Request t noted x = answered t noted x
next_phase p.Accept t noted x = p.Accept
next_phase p.Complete t noted x = p.Stable
next_phase p.Denied t noted x = p.Denied
next_phase p.Continue t noted x = p.Stable

-- the state becomes the asked one on reaching Accept
abbrev pub reached : PPhase → ℕ → ℕ → ℕ
reached p.Stable s a = s
reached p.Request s a = s
reached p.Accept s a = a
reached p.Complete s a = s
reached p.Denied s a = s
reached p.Continue s a = s

abbrev pub next_state : PPhase → PPhase → ℕ → ℕ → ℕ
next_state p.Stable q s a = s
next_state p.Request q s a = reached q s a
next_state p.Accept q s a = s
next_state p.Complete q s a = s
next_state p.Denied q s a = s
next_state p.Continue q s a = s
