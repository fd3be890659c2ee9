-- The phases of a P-Channel: numbers, levels, and the changes that the channel allows.
use Rattle.std.specs.Prelude.{ℕ, Bool, true, false, ◌||◌, ◌==◌}
use Rattle.channel.specs.Signals.{TurnsOne}
use Rattle.channel.specs.declared.pphase.PPhase.{PPhase}
use Rattle.channel.specs.declared.pphase.PPhase.TheVariants.{Stable, Request, Accept, Complete, Denied, Continue}

abbrev pub p_number : PPhase → ℕ
p_number Stable = 0
p_number Request = 1
p_number Accept = 2
p_number Complete = 3
p_number Denied = 4
p_number Continue = 5

-- PREQ, PACCEPT, PDENY
abbrev pub p_levels : PPhase → Bool × Bool × Bool
p_levels Stable = (false, false, false)
p_levels Request = (true, false, false)
p_levels Accept = (true, true, false)
p_levels Complete = (false, true, false)
p_levels Denied = (true, false, true)
p_levels Continue = (false, false, true)

abbrev is : PPhase → PPhase → Bool
is p q = p_number p == p_number q

-- the successors of each phase
abbrev pub p_allowed : PPhase → PPhase → Bool
p_allowed Stable q = is Request q
p_allowed Request q = is Accept q || is Denied q
p_allowed Accept q = is Complete q
p_allowed Complete q = is Stable q
p_allowed Denied q = is Continue q
p_allowed Continue q = is Stable q

-- an allowed change turns just one signal
abbrev pub PSingle : PPhase → PPhase → Type 0
PSingle = TurnsOne p_levels p_allowed
