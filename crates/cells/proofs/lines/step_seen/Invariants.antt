use Rattle.std.proofs.Common.{◌≡◌}
use Rattle.cells.specs.Flat.{answer_to}
use Rattle.cells.specs.Edges.{name_at, answers_to}
use Rattle.cells.proofs.Seen.{Drives}
use Rattle.cells.proofs.lines.step_seen.Given as goal

abbrev pub invariant-loop-i : goal.invariant-loop-i
invariant-loop-i g l = Drives g.W.Witness.saw l.n l.i l.initial.cells l.cells l.initial.witness l.witness

abbrev pub invariant-loop-k : goal.invariant-loop-k
invariant-loop-k g l = record {
  cells : l.cells ≡ answer_to l.k l.initial.cells;
  seen : g.W.Witness.saw (name_at l.initial.cells) (answers_to l.k l.initial.cells) l.initial.witness l.witness;
}
