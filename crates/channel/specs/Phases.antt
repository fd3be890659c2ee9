-- The phases of a Q-Channel: numbers, levels, and the changes that the channel allows.
use Rattle.std.specs.Prelude.{ℕ, Bool, true, false, ◌||◌, ◌==◌}
use Rattle.channel.specs.Signals.{TurnsOne}
use Rattle.channel.specs.declared.phase.Phase.{Phase}
use Rattle.channel.specs.declared.phase.Phase.TheVariants.{Run, Request, Stopped, Exit, Denied, Continue}

abbrev pub number_of : Phase → ℕ
number_of Run = 0
number_of Request = 1
number_of Stopped = 2
number_of Exit = 3
number_of Denied = 4
number_of Continue = 5

-- QREQn, QACCEPTn, QDENY
abbrev pub levels_of : Phase → Bool × Bool × Bool
levels_of Run = (true, true, false)
levels_of Request = (false, true, false)
levels_of Stopped = (false, false, false)
levels_of Exit = (true, false, false)
levels_of Denied = (false, true, true)
levels_of Continue = (true, true, true)

abbrev is : Phase → Phase → Bool
is p q = number_of p == number_of q

-- the successors of each phase
abbrev pub allowed : Phase → Phase → Bool
allowed Run q = is Request q
allowed Request q = is Stopped q || is Denied q
allowed Stopped q = is Exit q
allowed Exit q = is Run q
allowed Denied q = is Continue q
allowed Continue q = is Run q

-- an allowed change turns just one signal
abbrev pub Single : Phase → Phase → Type 0
Single = TurnsOne levels_of allowed
