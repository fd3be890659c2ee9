-- What is watched of a phase: whether it ends by itself, and how a request stands there.
use Rattle.std.specs.Prelude.{ℕ, Bool, true, false, Option}
use Rattle.channel.specs.declared.phase.Phase.{Phase}
use Rattle.channel.specs.declared.phase.Phase.TheVariants as q
use Rattle.channel.specs.declared.pphase.PPhase.{PPhase}
use Rattle.channel.specs.declared.pphase.PPhase.TheVariants as p
use Rattle.watch.specs.declared.tally.Ending.{Ending}
use Rattle.watch.specs.declared.tally.Ending.TheVariants.{Accepted, Denied, Unanswered}

abbrev pub open_test : Phase → Bool
open_test q.Run = false
open_test q.Request = true
open_test q.Stopped = false
open_test q.Exit = true
open_test q.Denied = false
open_test q.Continue = true

abbrev pub p_open_test : PPhase → Bool
p_open_test p.Stable = false
p_open_test p.Request = true
p_open_test p.Accept = false
p_open_test p.Complete = true
p_open_test p.Denied = false
p_open_test p.Continue = true

-- a Q-Channel accepts a stop at Stopped
abbrev pub ending_of : Phase → Option ℕ → Ending
ending_of q.Run d = Unanswered
ending_of q.Request d = Unanswered
ending_of q.Stopped d = Accepted
ending_of q.Exit d = Unanswered
ending_of q.Denied d = Denied d
ending_of q.Continue d = Unanswered

-- a P-Channel accepts a state at Accept
abbrev pub p_ending_of : PPhase → Option ℕ → Ending
p_ending_of p.Stable d = Unanswered
p_ending_of p.Request d = Unanswered
p_ending_of p.Accept d = Accepted
p_ending_of p.Complete d = Unanswered
p_ending_of p.Denied d = Denied d
p_ending_of p.Continue d = Unanswered
