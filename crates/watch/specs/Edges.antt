-- The edges of one step on a channel: a drive, then an answer.
use Rattle.std.specs.Prelude.{◌≡◌, Bool, true, cond, ◌||◌, ◌⊎◌, Some, None, Option, ◌==◌}
use Rattle.channel.specs.declared.phase.Phase.{Phase}
use Rattle.channel.specs.declared.phase.Phase.TheVariants.{Run, Request, Stopped, Exit, Denied, Continue}
use Rattle.channel.specs.declared.pphase.PPhase.{PPhase}
use Rattle.channel.specs.Phases.{number_of, allowed}
use Rattle.channel.specs.PPhases.{p_allowed}

-- the edge of a P-Channel
abbrev pub p_edge_of : PPhase → PPhase → Option PPhase
p_edge_of p q = cond (p_allowed p q) (Some q) None

abbrev is : Phase → Phase → Bool
is p q = number_of p == number_of q

abbrev if : Bool → Phase → Option Phase
if b p = cond b (Some p) None

-- the edge of QREQn
abbrev pub drive_edge : Phase → Phase → Option Phase
drive_edge Run q = if (is Request q || (is Stopped q || is Denied q)) Request
drive_edge Request q = None
drive_edge Stopped q = if (is Exit q || is Run q) Exit
drive_edge Exit q = None
drive_edge Denied q = if (is Continue q || is Run q) Continue
drive_edge Continue q = None

-- the edge of QACCEPTn or QDENY
abbrev pub answer_edge : Phase → Phase → Option Phase
answer_edge Run q = if (is Stopped q || is Denied q) q
answer_edge Request q = if (is Stopped q || is Denied q) q
answer_edge Stopped q = if (is Run q) Run
answer_edge Exit q = if (is Run q) Run
answer_edge Denied q = if (is Run q) Run
answer_edge Continue q = if (is Run q) Run

-- a phase, or the next one where there was an edge to it that the channel allows
abbrev pub Along : Phase → Option Phase → Phase → Type 0
Along p None q = q ≡ p
Along p (Some r) q = (q ≡ r) × (allowed p r ≡ true)

-- the phase between the two edges
abbrev pub between : Phase → Option Phase → Phase
between p None = p
between p (Some r) = r

-- where edges are told, each is allowed and they lead from the phase before to the one after
abbrev pub Follows : Phase → Phase → Type 0
Follows p q =
    ((drive_edge p q ≡ None) × (answer_edge p q ≡ None))
    ⊎ (Along p (drive_edge p q) (between p (drive_edge p q)) × Along (between p (drive_edge p q)) (answer_edge p q) q)
