use Rattle.std.proofs.Common.{◌≡◌, arith}
use Rattle.cells.proofs.Walks.{answer_start, answer_up}
use Rattle.cells.proofs.Seen.{drives_start, drives_more, answers_start, answers_more, passes_end}
use Rattle.cells.proofs.lines.step_seen.Goals as goal

pub loop-i-init : goal.loop-i-init
loop-i-init g c = let w = g.met.W.Witness in drives_start g.W.Witness.saw w.none w.more _ _ _

pub loop-i-preserved : goal.loop-i-preserved
loop-i-preserved g c =
    let w = g.met.W.Witness in
    let e = c.drive_devices.ensures in
    drives_more g.W.Witness.saw w.none w.more _ _ _ _ _ _ _ _ c.loop-i-test.true c.loop-i.invariant e.cells e.seen

pub loop-k-init : goal.loop-k-init
loop-k-init g c = let w = g.met.W.Witness in record { cells = answer_start _; seen = answers_start g.W.Witness.saw w.none w.more _ _ }

pub loop-k-preserved : goal.loop-k-preserved
loop-k-preserved g c =
    let w = g.met.W.Witness in
    let e = c.answer_devices.ensures in
    let v = c.loop-k.invariant in
    record {
      cells = answer_up _ _ _ _ v.cells e.cells;
      seen = answers_more g.W.Witness.saw w.none w.more _ _ _ _ _ _ v.cells v.seen e.seen;
    }

pub returns : goal.returns
returns g c =
    let w = g.met.W.Witness in
    let zero_is : c.loop-i.i ≡ 0 = omega arith in
    let all : c.loop-k.k ≡ c.args.n = omega arith in
    let v = c.loop-k.invariant in
    let e = passes_end g.W.Witness.saw w.none w.more c.args.n c.loop-i.i c.loop-k.k c.args.cells.now c.loop-i.cells c.loop-k.cells
    c.args.witness.now c.loop-i.witness c.loop-k.witness zero_is all c.loop-i.invariant v.cells v.seen in
    record { cells = e.0; seen = e.1 }
