use Rattle.std.proofs.Common.{◌≡◌, ◌+◌, length, take}
use Rattle.std.specs.List.{flat_map}
use Rattle.trace.proofs.sheet.fits.Given as goal

abbrev pub invariant-loop-part : goal.invariant-loop-part
invariant-loop-part l = length (flat_map (λ p. p.now) (take l.part-index l.parts)) + l.left ≡ l.room
