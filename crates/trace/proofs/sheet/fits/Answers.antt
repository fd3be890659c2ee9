use Rattle.std.proofs.Common.{[], length, ap, arith, length-append}
use Rattle.std.proofs.lemmas.Bool.Decides.{nat_tests}
use Rattle.trace.proofs.Lays.{part_more, part_room, parts_taken}
use Rattle.trace.proofs.sheet.fits.Goals as goal

pub returns-in_default : goal.returns-in_default
returns-in_default c =
    let h = part_room c.args.parts.now c.loop-part.part-index (record { ref_ptr = (0, 0); now = [] }) c.loop-part-test.true in
    grind (arith, nat_tests, h, c.in_default.ensures)

pub loop-part-preserved : goal.loop-part-preserved
loop-part-preserved c =
    let h = ap length (part_more c.args.parts.now c.loop-part.part-index (record { ref_ptr = (0, 0); now = [] }) c.loop-part-test.true) in
    omega (arith, c.in-Some.ensures, simp length-append at h)

pub returns : goal.returns
returns c =
    let h = ap length (parts_taken c.args.parts.now c.loop-part.part-index c.loop-part-test.false) in
    grind (arith, nat_tests, h)
