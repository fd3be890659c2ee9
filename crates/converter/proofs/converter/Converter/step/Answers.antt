use Rattle.std.proofs.Common.{◌≡◌, refl}
use Rattle.joins.specs.Rules.{heard}
use Rattle.converter.specs.Rules.{mode_of, task_of, task_note}
use Rattle.converter.specs.Shows.{converter_fits}
use Rattle.converter.proofs.Whole.{steps}
use Rattle.converter.proofs.converter.Converter.step.Goals as goal

pub returns-clause-linked : goal.returns-clause-linked
returns-clause-linked g c = λ w.
    let md = g.D.QDevice.means in
    let l = g.met.D.QDevice.in_order in
    let b = c.args.self.now in
    let k = task_of b.phase (mode_of b.state) (mode_of b.asked) in
    let d = c.make_drive.ensures in
    let z = c.step.ensures in
    let m = d.kept w.device in
    let t : c.heard_of.result ≡ heard (md c.step.new.self).phase (md c.step.new.self).denier = rw (c.heard_of.ensures, c.end.ensures) in
    let n : c.note_for-self.result ≡ task_note k b.denier (heard (md c.step.new.self).phase (md c.step.new.self).denier) = cc in
    let law = steps md g.D.QDevice.timing b.phase b.state b.asked b.denier b.device c.make_drive.new.device c.step.new.self
    c.drive_for-drive.result c.next_phase-self.result c.next_state-self.result b.asked c.note_for-self.result
    (l _ w.device) (l _ m) (l _ (z.kept m)) w.over
    (cc) (d.order w.device) d.idle d.bound (z.order m) (z.pace m) n (cc) (cc) refl in
    record { called = law.seen; timed = law.pace; fit = converter_fits l _ (record { device = z.kept m; over = law.over }) }
