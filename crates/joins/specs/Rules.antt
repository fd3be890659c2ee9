-- The rules of a join of two devices: drives, notes, decisions.
use Rattle.std.specs.Prelude.{◌≡◌, ℕ, Bool, true, false, cond, Some, None, Option, ◌==◌}
use Rattle.channel.specs.declared.phase.Phase.{Phase}
use Rattle.channel.specs.declared.phase.Phase.TheVariants.{Run, Request, Stopped, Exit, Denied, Continue}
use Rattle.channel.specs.declared.device.Call.{Call}
use Rattle.channel.specs.declared.device.Call.TheVariants as call
use Rattle.channel.specs.Phases.{number_of}
use Rattle.joins.specs.declared.rules.Kind.{Kind}
use Rattle.joins.specs.declared.rules.Kind.TheVariants.{Distributor, Sequencer}
use Rattle.joins.specs.declared.rules.Drive.{Drive}
use Rattle.joins.specs.declared.rules.Drive.TheVariants.{Nothing, Lower, Raise}

-- lowers a device at Run
abbrev pub lower_run : Phase → Drive
lower_run Run = Lower
lower_run Request = Nothing
lower_run Stopped = Nothing
lower_run Exit = Nothing
lower_run Denied = Nothing
lower_run Continue = Nothing

-- raises a device at Stopped
abbrev pub raise_stopped : Phase → Drive
raise_stopped Run = Nothing
raise_stopped Request = Nothing
raise_stopped Stopped = Raise
raise_stopped Exit = Nothing
raise_stopped Denied = Nothing
raise_stopped Continue = Nothing

-- raises a device at Denied
abbrev pub raise_denied : Phase → Drive
raise_denied Run = Nothing
raise_denied Request = Nothing
raise_denied Stopped = Nothing
raise_denied Exit = Nothing
raise_denied Denied = Raise
raise_denied Continue = Nothing

-- raises a device at Stopped or Denied
abbrev pub raise_held : Phase → Drive
raise_held Run = Nothing
raise_held Request = Nothing
raise_held Stopped = Raise
raise_held Exit = Nothing
raise_held Denied = Raise
raise_held Continue = Nothing

-- a drive that waits until the other device stands at the wanted phase
abbrev pub while_at : Phase → Phase → Drive → Drive
while_at other wanted w = cond (number_of other == number_of wanted) w Nothing

-- a distributor drives each device by that device's own phase
abbrev pub distributor_drive : Phase → Bool → Phase → Drive
distributor_drive Run noted x = Nothing
distributor_drive Request false x = lower_run x
distributor_drive Request true x = raise_held x
distributor_drive Stopped noted x = Nothing
distributor_drive Exit noted x = raise_stopped x
distributor_drive Denied noted x = Nothing
distributor_drive Continue noted x = Nothing

-- a sequencer returns the first once the second runs
abbrev pub sequencer_first : Phase → Bool → Phase → Phase → Drive
sequencer_first Run noted x y = Nothing
sequencer_first Request false x y = lower_run x
sequencer_first Request true x y = while_at y Run (raise_held x)
sequencer_first Stopped noted x y = Nothing
sequencer_first Exit noted x y = while_at y Run (raise_stopped x)
sequencer_first Denied noted x y = Nothing
sequencer_first Continue noted x y = Nothing

-- a sequencer stops the second once the first is stopped
abbrev pub sequencer_second : Phase → Bool → Phase → Phase → Drive
sequencer_second Run noted x y = Nothing
sequencer_second Request false x y = while_at x Stopped (lower_run y)
sequencer_second Request true x y = raise_denied y
sequencer_second Stopped noted x y = Nothing
sequencer_second Exit noted x y = raise_stopped y
sequencer_second Denied noted x y = Nothing
sequencer_second Continue noted x y = Nothing

-- own phase, whether a denier is noted, the first's phase, the second's phase
abbrev pub first_drive : Kind → Phase → Bool → Phase → Phase → Drive
first_drive Distributor own noted x y = distributor_drive own noted x
first_drive Sequencer own noted x y = sequencer_first own noted x y

abbrev pub second_drive : Kind → Phase → Bool → Phase → Phase → Drive
second_drive Distributor own noted x y = distributor_drive own noted y
second_drive Sequencer own noted x y = sequencer_second own noted x y

-- the denier that a device tells of the request at hand
abbrev pub heard : Phase → Option ℕ → Option ℕ
heard Run d = None
heard Request d = d
heard Stopped d = None
heard Exit d = None
heard Denied d = d
heard Continue d = None

-- the first if there is one, else the second
abbrev pub or_else : Option ℕ → Option ℕ → Option ℕ
or_else (Some t) e = Some t
or_else None e = e

abbrev pub noted_from : Phase → Option ℕ → Option ℕ → Option ℕ → Option ℕ
noted_from Run d x y = d
noted_from Request d x y = or_else d (or_else x y)
noted_from Stopped d x y = d
noted_from Exit d x y = d
noted_from Denied d x y = d
noted_from Continue d x y = d

-- p where both devices stand at the wanted phase, else q
abbrev pub if_both : Phase → Phase → Phase → Phase → Phase → Phase
if_both wanted x y p q =
    cond (number_of x == number_of wanted) (cond (number_of y == number_of wanted) p q) q

-- own phase, whether a denier is noted, the devices' phases after their steps
abbrev pub decided : Phase → Bool → Phase → Phase → Phase
decided Run noted x y = Run
decided Request noted x y = if_both Stopped x y Stopped (if_both Run x y (cond noted Denied Request) Request)
decided Stopped noted x y = Stopped
decided Exit noted x y = if_both Run x y Run Exit
decided Denied noted x y = Denied
decided Continue noted x y = Run

-- what a drive makes of a device, by the device's own calls
abbrev pub DriveMakes : {S : Type 0} → (Call → S → S → Type 0) → Drive → S → S → Type 0
DriveMakes makes Nothing x y = y ≡ x
DriveMakes makes Lower x y = makes call.Lower x y
DriveMakes makes Raise x y = makes call.Raise x y
