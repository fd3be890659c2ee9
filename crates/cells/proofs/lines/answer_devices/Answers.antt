use Rattle.std.proofs.Common.{◌≡◌, ℕ, false, refl, ap, ◌∙◌, arith}
use Rattle.cells.specs.declared.cell.Body.{Body}
use Rattle.cells.specs.declared.cell.Body.TheVariants as body
use Rattle.cells.specs.Bodies.{body_phase, answered_body}
use Rattle.cells.specs.Flat.{body_at, put, is_join, first_of, second_of, answer_line}
use Rattle.cells.proofs.Seen.{devices_none, devices_some, answered_one}
use Rattle.cells.proofs.lines.answer_devices.Goals as goal
use Rattle.cells.proofs.lines.answer_devices.Goals.{in-Some, in-None}

answered_as : (b d x u y v : Body) → b ≡ d → x ≡ u → y ≡ v → answered_body b x y ≡ answered_body d u v
answered_as b d x u y v e f g = λ i. answered_body (e i) (f i) (g i)

-- a leaf looks at no device
answered_alone : (b x y : Body) → is_join b ≡ false → answered_body b body.Blank body.Blank ≡ answered_body b x y
answered_alone body.Blank x y e = refl
answered_alone (body.Timed t) x y e = refl
answered_alone (body.Work t) x y e = refl
answered_alone (body.Join k a b p) x y e = let z : ◌≡◌ {A = ℕ} 0 1 = cc in absurd (omega arith)

pub returns-clause-cells : goal.returns-clause-cells
unfolding answer_line
returns-clause-cells g c =
    let cs = c.args.cells.now in
    let e = c.body_of-line.ensures in
    c.put_body.ensures ∙ ap (put cs c.args.i)
    (elim c.match-devices.branch [
      | in-Some w ↦
          let d = devices_some c.body_of-line.result _ (w.in-Some.a, w.in-Some.b) c.devices.ensures w.in-Some.is in
          w.answered-is ∙ (w.answered-answered.ensures
          ∙ answered_as _ _ _ _ _ _ e (w.body_of.ensures ∙ ap (body_at cs) (d.1 ∙ ap first_of e)) (w.body_of-in-Some.ensures ∙ ap (body_at cs) (d.2 ∙ ap second_of e)))
      | in-None w ↦
          w.answered-is ∙ (w.answered-answered-in-None.ensures
          ∙ (answered_alone c.body_of-line.result _ _ (devices_none _ _ c.devices.ensures w.in-None.is) ∙ answered_as _ _ _ _ _ _ e refl refl))
    ])

pub returns-clause-seen : goal.returns-clause-seen
returns-clause-seen g c =
    let w = g.met.W.Witness in
    answered_one g.W.Witness.saw w.none w.more _ _ c.args.cells.now _ c.args.i _
    (c.phase.ensures ∙ ap body_phase c.body_of-line.ensures) (returns-clause-cells g c) c.see.ensures
