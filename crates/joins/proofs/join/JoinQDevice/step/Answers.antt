use Rattle.std.proofs.Common.{◌≡◌}
use Rattle.joins.specs.Together.{denier_after, phase_after}
use Rattle.joins.proofs.Whole.{steps}
use Rattle.joins.proofs.join.JoinQDevice.step.Goals as goal

pub returns-clause-order : goal.returns-clause-order
returns-clause-order g c = λ w.
    let ma = g.A.QDevice.means in
    let mb = g.B.QDevice.means in
    let i = c.args.self.now in
    let la = g.met.A.QDevice.in_order in
    let lb = g.met.B.QDevice.in_order in
    let d = c.make_drive.ensures in
    let e = c.make_drive-2.ensures in
    let s = c.step.ensures in
    let t = c.step-2.ensures in
    let dm = d.kept w.first in
    let em = e.kept w.second in
    let n : c.note-self.result ≡ denier_after i.end.phase i.end.denier (ma c.step.new.self) (mb c.step-2.new.self) =
    rw (c.note-self.ensures, c.end.ensures, c.end-2.ensures) in
    let p : c.decide-self.result ≡ phase_after i.end.phase i.end.denier (ma c.step.new.self) (mb c.step-2.new.self) = cc in
    let law = steps g.R.Rule.KIND ma g.A.QDevice.timing mb g.B.QDevice.timing
    i.end.phase i.end.denier i.first c.make_drive.new.device c.step.new.self i.second c.make_drive-2.new.device c.step-2.new.self
    c.first_drive.result c.second_drive.result
    (la _ w.first) (la _ dm) (la _ (s.kept dm)) (lb _ w.second) (lb _ em) (lb _ (t.kept em))
    w.together w.sequence (cc) (cc)
    (d.order w.first) d.idle d.bound (s.order dm) (s.pace dm) (e.order w.second) e.idle e.bound (t.order em) (t.pace em) in
    rw (n, p) law.order

pub returns-clause-pace : goal.returns-clause-pace
returns-clause-pace g c = λ w.
    let ma = g.A.QDevice.means in
    let mb = g.B.QDevice.means in
    let i = c.args.self.now in
    let la = g.met.A.QDevice.in_order in
    let lb = g.met.B.QDevice.in_order in
    let d = c.make_drive.ensures in
    let e = c.make_drive-2.ensures in
    let s = c.step.ensures in
    let t = c.step-2.ensures in
    let dm = d.kept w.first in
    let em = e.kept w.second in
    let n : c.note-self.result ≡ denier_after i.end.phase i.end.denier (ma c.step.new.self) (mb c.step-2.new.self) =
    rw (c.note-self.ensures, c.end.ensures, c.end-2.ensures) in
    let p : c.decide-self.result ≡ phase_after i.end.phase i.end.denier (ma c.step.new.self) (mb c.step-2.new.self) = cc in
    let law = steps g.R.Rule.KIND ma g.A.QDevice.timing mb g.B.QDevice.timing
    i.end.phase i.end.denier i.first c.make_drive.new.device c.step.new.self i.second c.make_drive-2.new.device c.step-2.new.self
    c.first_drive.result c.second_drive.result
    (la _ w.first) (la _ dm) (la _ (s.kept dm)) (lb _ w.second) (lb _ em) (lb _ (t.kept em))
    w.together w.sequence (cc) (cc)
    (d.order w.first) d.idle d.bound (s.order dm) (s.pace dm) (e.order w.second) e.idle e.bound (t.order em) (t.pace em) in
    rw (n, p) law.pace

pub returns-clause-kept : goal.returns-clause-kept
returns-clause-kept g c = λ w.
    let ma = g.A.QDevice.means in
    let mb = g.B.QDevice.means in
    let i = c.args.self.now in
    let la = g.met.A.QDevice.in_order in
    let lb = g.met.B.QDevice.in_order in
    let d = c.make_drive.ensures in
    let e = c.make_drive-2.ensures in
    let s = c.step.ensures in
    let t = c.step-2.ensures in
    let dm = d.kept w.first in
    let em = e.kept w.second in
    let n : c.note-self.result ≡ denier_after i.end.phase i.end.denier (ma c.step.new.self) (mb c.step-2.new.self) =
    rw (c.note-self.ensures, c.end.ensures, c.end-2.ensures) in
    let p : c.decide-self.result ≡ phase_after i.end.phase i.end.denier (ma c.step.new.self) (mb c.step-2.new.self) = cc in
    let law = steps g.R.Rule.KIND ma g.A.QDevice.timing mb g.B.QDevice.timing
    i.end.phase i.end.denier i.first c.make_drive.new.device c.step.new.self i.second c.make_drive-2.new.device c.step-2.new.self
    c.first_drive.result c.second_drive.result
    (la _ w.first) (la _ dm) (la _ (s.kept dm)) (lb _ w.second) (lb _ em) (lb _ (t.kept em))
    w.together w.sequence (cc) (cc)
    (d.order w.first) d.idle d.bound (s.order dm) (s.pace dm) (e.order w.second) e.idle e.bound (t.order em) (t.pace em) in
    record { first = s.kept dm; second = t.kept em; together = rw (n, p) law.together; sequence = law.sequence }
