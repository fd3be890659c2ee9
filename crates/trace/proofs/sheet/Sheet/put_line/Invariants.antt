use Rattle.std.proofs.Common.{take}
use Rattle.std.specs.List.{flat_map}
use Rattle.trace.specs.Written.{IsSame}
use Rattle.trace.proofs.Lays.{Wrote}
use Rattle.trace.proofs.sheet.Sheet.put_line.Given as goal

abbrev pub invariant-loop-part : goal.invariant-loop-part
invariant-loop-part l = record {
  wrote : Wrote l.fn.self.out.now l.fn.self.at (flat_map (λ p. p.now) (take l.part-index l.parts)) l.self.out.now l.self.at;
  same : IsSame l.fn.self l.self;
}
