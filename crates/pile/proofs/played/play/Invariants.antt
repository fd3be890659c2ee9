use Rattle.std.proofs.Common.{take}
use Rattle.pile.specs.Runs.{Fit}
use Rattle.pile.proofs.Playing.{Ran}
use Rattle.pile.proofs.played.play.Given as goal

abbrev pub invariant-loop-call : goal.invariant-loop-call
invariant-loop-call g l =
    Fit g.P.Pile.ordered g.P.Pile.view g.P.Pile.timing l.initial.pile
    → Ran g.P.Pile.ordered g.P.Pile.view g.P.Pile.timing g.P.Pile.kind g.P.Pile.makes
    (take l.call-index l.calls) l.initial.pile l.pile
