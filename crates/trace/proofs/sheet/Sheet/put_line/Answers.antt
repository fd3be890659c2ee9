use Rattle.std.proofs.Common.{[], ◌∷◌, ◌++◌, length, sym, subst, ap, ◌∙◌, arith, length-append}
use Rattle.std.proofs.lemmas.Bool.{ltb-true, ltb-false}
use Rattle.trace.proofs.Lays.{Wrote, part_more, part_room, same_then, parts_flat, parts_taken, wrote_more, wrote_long, wrote_line, no_room}
use Rattle.trace.proofs.sheet.Sheet.put_line.Goals as goal

pub lay-requires : goal.lay-requires
lay-requires c =
    let w = c.loop-part.invariant.wrote in
    let r = ltb-true _ _ (sym c.if-fits.ensures) in
    let h = part_room c.args.parts.now c.loop-part.part-index (record { ref_ptr = (0, 0); now = [] }) c.loop-part-test.true in
    let l = wrote_long _ _ _ _ _ (omega arith) w in
    omega arith

pub loop-part-preserved : goal.loop-part-preserved
loop-part-preserved c =
    let w = c.loop-part.invariant.wrote in
    let r = ltb-true _ _ (sym c.if-fits.ensures) in
    let e = c.lay.ensures in
    record {
      wrote = subst (λ bs. Wrote c.args.self.now.out.now c.args.self.now.at bs c.lay.new.self.out.now c.lay.new.self.at)
          (sym (part_more c.args.parts.now c.loop-part.part-index _ c.loop-part-test.true))
          (wrote_more _ _ _ _ _ _ _ _ (omega arith) w e.bytes e.ends);
      same = same_then _ _ _ c.loop-part.invariant.same e.same;
    }

pub lay-requires-then-fits : goal.lay-requires-then-fits
lay-requires-then-fits c =
    let w = c.loop-part.invariant.wrote in
    let r = ltb-true _ _ (sym c.if-fits.ensures) in
    let h = ap length (parts_taken c.args.parts.now c.loop-part.part-index c.loop-part-test.false) in
    let l = wrote_long _ _ _ _ _ (omega arith) w in
    omega arith

pub returns-after-loop-part : goal.returns-after-loop-part
returns-after-loop-part c =
    let r = ltb-true _ _ (sym c.if-fits.ensures) in
    let e = c.lay-then-fits.ensures in
    let ps = c.args.parts.now in
    let t = parts_taken ps c.loop-part.part-index c.loop-part-test.false ∙ sym (parts_flat ps) in
    let n = ap length (parts_flat ps) in
    record {
      line = wrote_line _ _ _ _ _ (simp length-append (omega arith))
          (subst (λ bs. Wrote c.args.self.now.out.now c.args.self.now.at (bs ++ 10 ∷ []) c.lay-then-fits.new.self.out.now c.lay-then-fits.new.self.at) t
          (wrote_more _ _ _ _ _ _ _ _ (omega arith) c.loop-part.invariant.wrote e.bytes e.ends));
      same = same_then _ _ _ c.loop-part.invariant.same e.same;
    }

pub returns-else-fits-clause-line : goal.returns-else-fits-clause-line
returns-else-fits-clause-line c =
    let r = ltb-false _ _ (sym c.if-fits.ensures) in
    let n = ap length (parts_flat c.args.parts.now) in
    no_room _ _ _ (simp length-append (omega arith))
