-- What a step of a work leaf makes of its end.
use Rattle.std.specs.Prelude.{ℕ, Bool, true, false, Some}
use Rattle.channel.specs.declared.phase.Phase.{Phase}
use Rattle.channel.specs.declared.phase.Phase.TheVariants.{Run, Request, Stopped, Exit, Denied, Continue}
use Rattle.channel.specs.declared.end.QEnd.{QEnd}
use Rattle.channel.specs.Ends.{end_at}

-- a step at Request: accept where there is no job, do one where patience allows, else deny
abbrev pub pressed : Bool → Bool → ℕ → QEnd → QEnd
pressed true more t e = end_at Stopped e
pressed false true t e = e
pressed false false t e = record { phase = Denied; denier = Some t }

abbrev pub pressed_at : Phase → Bool → Bool → ℕ → QEnd → QEnd
pressed_at Run idle more t e = e
pressed_at Request idle more t e = pressed idle more t e
pressed_at Stopped idle more t e = e
pressed_at Exit idle more t e = end_at Run e
pressed_at Denied idle more t e = e
pressed_at Continue idle more t e = end_at Run e

-- a step of a leaf of tag t: whether it has no job, and whether patience allows more
abbrev pub end_pressed : Bool → Bool → ℕ → QEnd → QEnd
end_pressed idle more t e = pressed_at e.phase idle more t e
