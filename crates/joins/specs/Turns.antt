-- One step of a device below a join: the join's drive, then the device's own step.
use Rattle.std.specs.Prelude.{◌≡◌}
use Rattle.channel.specs.declared.phase.Phase.{Phase}
use Rattle.channel.specs.declared.phase.Phase.TheVariants.{Run, Request, Stopped, Exit, Denied, Continue}
use Rattle.channel.specs.Means.{Means, Sound}
use Rattle.channel.specs.Calls.{Lowered, Raised, Stepped}
use Rattle.joins.specs.declared.rules.Drive.{Drive}
use Rattle.joins.specs.declared.rules.Drive.TheVariants.{Nothing, Lower, Raise}

-- what a drive does to a device's meaning
abbrev pub Drove : Drive → Means → Means → Type 0
Drove Nothing m n = n ≡ m
Drove Lower m n = Lowered m n
Drove Raise m n = Raised m n

-- a device was driven by w, and then stepped
pub record Turned (w : Drive) (m mid n : Means) : Type 0 where
  pub sound : Sound m
  pub drove : Drove w m mid
  pub sound_mid : Sound mid
  pub stepped : Stepped mid n
  pub sound_after : Sound n

-- where a drive takes a device's phase
abbrev pub driven : Drive → Phase → Phase
driven Nothing p = p
driven Lower Run = Request
driven Lower Request = Request
driven Lower Stopped = Stopped
driven Lower Exit = Exit
driven Lower Denied = Denied
driven Lower Continue = Continue
driven Raise Run = Run
driven Raise Request = Request
driven Raise Stopped = Exit
driven Raise Exit = Exit
driven Raise Denied = Continue
driven Raise Continue = Continue
