-- The edges of a step are changes that the channels allow, and lead from the phases before to those after.
use Rattle.std.proofs.Common.{◌≡◌, ℕ, zero, suc, ◌<◌, ◌≤◌, Bool, true, false, cond, eqb, ◌⊎◌, List, [], ◌∷◌, ◌++◌, length, sym, refl, ap, ◌∙◌, subst, inl, inr, arith}
use Rattle.std.proofs.lemmas.Bool.Decides.{nat_tests}
use Rattle.std.proofs.lemmas.Bool.{cond-true, cond-false, eq-eqb, ne_eqb, cases_eq}
use Rattle.channel.specs.declared.phase.Phase.{Phase}
use Rattle.channel.specs.declared.phase.Phase.TheVariants.{Run, Request, Stopped, Exit, Denied, Continue}
use Rattle.channel.specs.declared.end.QEnd.{QEnd}
use Rattle.channel.specs.declared.device.Call.TheVariants as call
use Rattle.channel.specs.Phases.{number_of, allowed}
use Rattle.leaves.specs.declared.timed.Timed.{Timed}
use Rattle.leaves.specs.declared.work.Work.{Work}
use Rattle.leaves.specs.Timed as timed
use Rattle.leaves.specs.Work as work
use Rattle.joins.specs.declared.rules.Drive.{Drive}
use Rattle.joins.specs.declared.rules.Drive.TheVariants.{Nothing, Lower, Raise}
use Rattle.joins.specs.Rules.{decided}
use Rattle.joins.specs.Turns.{driven}
use Rattle.cells.specs.declared.cell.Body.{Body}
use Rattle.cells.specs.declared.cell.Body.TheVariants as body
use Rattle.cells.specs.declared.cell.Cell.{Cell}
use Rattle.cells.specs.Bodies.{body_phase, driven_end, driven_body, drive_timed, drive_work, answered_body, joins_line, joins_twice}
use Rattle.cells.specs.Flat.{body_at, is_join, first_of, second_of, drive_by, drive_line, drive_from, answer_line, answer_to, stepped, Wired}
use Rattle.cells.proofs.Passes.{put_same, put_other, none_driven, joins_no_other, differ, line_touched, LineDriven, line_driven, touched_wired, passed, answered}
use Rattle.edges.specs.Edges.{Edge, phase_at, change, line_edge, drive_edges_by, drive_edges, drives_from, answers_to, step_edges}
use Rattle.edges.specs.Follows.{moved, Leads}

-- a channel stays, or makes an edge
abbrev pub Moves : Phase → Phase → Type 0
Moves p q = cond (eqb (number_of p) (number_of q)) true (allowed p q) ≡ true

pub drive_moves : (w : Drive) (p : Phase) → Moves p (driven w p)
drive_moves Nothing Run = refl
drive_moves Nothing Request = refl
drive_moves Nothing Stopped = refl
drive_moves Nothing Exit = refl
drive_moves Nothing Denied = refl
drive_moves Nothing Continue = refl
drive_moves Lower Run = refl
drive_moves Lower Request = refl
drive_moves Lower Stopped = refl
drive_moves Lower Exit = refl
drive_moves Lower Denied = refl
drive_moves Lower Continue = refl
drive_moves Raise Run = refl
drive_moves Raise Request = refl
drive_moves Raise Stopped = refl
drive_moves Raise Exit = refl
drive_moves Raise Denied = refl
drive_moves Raise Continue = refl

timed_drives : (w : Drive) (t : Timed) → (drive_timed w t).end.phase ≡ driven w t.end.phase
timed_drives w t = grind arith

work_drives : (w : Drive) (t : Work) → (drive_work w t).end.phase ≡ driven w t.end.phase
work_drives w t = grind arith

end_drives : (w : Drive) (e : QEnd) → (driven_end w e).phase ≡ driven w e.phase
end_drives w e = grind arith

pub body_drives : (w : Drive) (b : Body) → Moves (body_phase b) (body_phase (driven_body w b))
body_drives Nothing body.Blank = refl
body_drives Lower body.Blank = refl
body_drives Raise body.Blank = refl
body_drives w (body.Timed t) = subst (Moves t.end.phase) (sym (timed_drives w t)) (drive_moves w t.end.phase)
body_drives w (body.Work t) = subst (Moves t.end.phase) (sym (work_drives w t)) (drive_moves w t.end.phase)
body_drives w (body.Join k a b e) = subst (Moves e.phase) (sym (end_drives w e)) (drive_moves w e.phase)

timed_steps : (t : Timed) → Moves t.end.phase (timed.after call.Step t).end.phase
timed_steps t = grind (arith, nat_tests)

work_steps : (t : Work) → Moves t.end.phase (work.after call.Step t).end.phase
work_steps t = grind (arith, nat_tests)

decides : (p : Phase) (n : Bool) (x y : Phase) → Moves p (decided p n x y)
decides p n x y = grind (arith, nat_tests)

body_answers : (b x y : Body) → Moves (body_phase b) (body_phase (answered_body b x y))
body_answers body.Blank x y = refl
body_answers (body.Timed t) x y = timed_steps t
body_answers (body.Work t) x y = work_steps t
body_answers (body.Join k a b e) x y = decides e.phase _ (body_phase x) (body_phase y)

-- phases are told apart by their numbers
same_phase : (p q : Phase) → eqb (number_of p) (number_of q) ≡ true → p ≡ q
same_phase p q e = grind (arith, nat_tests)

-- edges behind edges
pub leads_from : (es : List Edge) (f h g : ℕ → Phase) → ((i : ℕ) → f i ≡ h i) → Leads h es g → Leads f es g
unfolding Leads
leads_from [] f h g s l = λ i. s i ∙ l i
leads_from (e ∷ es) f h g s l = (
  ap (λ p. allowed p e.to) (s e.line) ∙ l.0,
  leads_from es (moved f e) (moved h e) g (λ i. ap (λ p. cond (eqb i e.line) e.to p) (s i)) l.1,
)

pub leads_more : (es fs : List Edge) (f g h : ℕ → Phase) → Leads f es g → Leads g fs h → Leads f (es ++ fs) h
unfolding Leads
leads_more [] fs f g h l m = leads_from fs f g h l m
leads_more (e ∷ es) fs f g h l m = (l.0, leads_more es fs (moved f e) g h l.1 m)

pub leads_none : (f g : ℕ → Phase) → ((i : ℕ) → f i ≡ g i) → Leads f [] g
unfolding Leads
leads_none f g e = e

-- one line alone
pub leads_line : (f g : ℕ → Phase) (i : ℕ) (p q : Phase) → f i ≡ p → g i ≡ q → ((j : ℕ) → (j ≡ i → ⊥) → f j ≡ g j) → Moves p q
    → Leads f (change p q i) g
unfolding change Leads
leads_line f g i p q ep eq others m = by (eqb (number_of p) (number_of q)) refl
  where
    edge : Edge
    edge = record { line = i; to = q }

    here : (j : ℕ) → (j ≡ i) ⊎ (j ≡ i → ⊥) → p ≡ q → f j ≡ g j
    here j (inl z) e = subst (λ k. f k ≡ g k) (sym z) (ep ∙ (e ∙ sym eq))
    here j (inr z) e = others j z

    after : (j : ℕ) → (j ≡ i) ⊎ (j ≡ i → ⊥) → moved f edge j ≡ g j
    after j (inl z) = cond-true (eqb j i) q (f j) (eq-eqb j i z) ∙ (sym eq ∙ ap g (sym z))
    after j (inr z) = cond-false (eqb j i) q (f j) (ne_eqb j i z) ∙ others j z

    by : (b : Bool) → eqb (number_of p) (number_of q) ≡ b → Leads f (cond b [] (edge ∷ [])) g
    by true e = λ j. here j (cases_eq j i) (same_phase p q e)
    by false e = (
      ap (λ x. allowed x q) ep ∙ (sym (cond-false (eqb (number_of p) (number_of q)) true (allowed p q) e) ∙ m),
      λ j. after j (cases_eq j i),
    )

-- a join drives two lines
pair_leads : (n : ℕ) (cs ds : List Cell) → LineDriven n cs ds → is_join (body_at cs n) ≡ true → joins_twice (body_at cs n) ≡ false
    → Leads (phase_at cs) (drive_edges_by true (body_at cs n) cs ds) (phase_at ds)
unfolding drive_edges_by
pair_leads n cs ds d e t =
    leads_more (change (phase_at cs a) (phase_at ds a) a) (change (phase_at cs b) (phase_at ds b) b) (phase_at cs) between (phase_at ds)
    (leads_line (phase_at cs) between a (phase_at cs a) (phase_at ds a) refl (cond-true (eqb a a) (phase_at ds a) (phase_at cs a) (eq-eqb a a refl))
    (λ j h. sym (cond-false (eqb j a) (phase_at ds a) (phase_at cs j) (ne_eqb j a h)))
    (subst (λ c. Moves (phase_at cs a) (body_phase c)) (sym (d.first e)) (body_drives _ (body_at cs a))))
    (leads_line between (phase_at ds) b (phase_at cs b) (phase_at ds b) (cond-false (eqb b a) (phase_at ds a) (phase_at cs b) (ne_eqb b a apart)) refl
    (λ j h. others j h (cases_eq j a))
    (subst (λ c. Moves (phase_at cs b) (body_phase c)) (sym (d.second e)) (body_drives _ (body_at cs b))))
  where
    a : ℕ
    a = first_of (body_at cs n)

    b : ℕ
    b = second_of (body_at cs n)

    apart : b ≡ a → ⊥
    apart = differ (body_at cs n) e t

    between : ℕ → Phase
    between j = cond (eqb j a) (phase_at ds a) (phase_at cs j)

    unjoined : (j : ℕ) → (j ≡ a → ⊥) → (j ≡ b → ⊥) → (k : Bool) → joins_line j (body_at cs n) ≡ k → joins_line j (body_at cs n) ≡ false
    unjoined j y z true k = let o : ⊥ = joins_no_other (body_at cs n) j e y z k in elim o [ ]
    unjoined j y z false k = k

    others : (j : ℕ) → (j ≡ b → ⊥) → (j ≡ a) ⊎ (j ≡ a → ⊥) → between j ≡ phase_at ds j
    others j h (inl z) = cond-true (eqb j a) (phase_at ds a) (phase_at cs j) (eq-eqb j a z) ∙ ap (phase_at ds) (sym z)
    others j h (inr z) = cond-false (eqb j a) (phase_at ds a) (phase_at cs j) (ne_eqb j a z) ∙ sym (ap body_phase (d.others j (unjoined j z h (joins_line j (body_at cs n)) refl)))

line_leads : (n : ℕ) (cs : List Cell) → Wired (suc n) cs → Leads (phase_at cs) (drive_edges n cs) (phase_at (drive_line n cs))
unfolding drive_by drive_edges_by
line_leads n cs w = by (is_join (body_at cs n)) refl (line_driven n cs w)
  where
    by : (t : Bool) → is_join (body_at cs n) ≡ t → LineDriven n cs (drive_by t cs (body_at cs n))
        → Leads (phase_at cs) (drive_edges_by t (body_at cs n) cs (drive_by t cs (body_at cs n))) (phase_at (drive_by t cs (body_at cs n)))
    by true e d = pair_leads n cs _ d e (w.apart n (omega arith))
    by false e d = leads_none _ _ (λ i. refl)

drives_lead : (n : ℕ) (cs : List Cell) → Wired n cs → Leads (phase_at cs) (drives_from n cs) (phase_at (drive_from n cs))
unfolding drives_from drive_from
drives_lead zero cs w = leads_none _ _ (λ i. refl)
drives_lead (suc n) cs w =
    let l = line_driven n cs w in
    let ds = drive_line n cs in
    let v : Wired n ds = touched_wired (suc n) n cs ds (omega arith) l.long (line_touched n cs ds l) w in
    leads_more (drive_edges n cs) (drives_from n ds) _ _ _ (line_leads n cs w) (drives_lead n ds v)

answer_leads : (n : ℕ) (ms : List Cell) → n < length ms → Leads (phase_at ms) (line_edge n ms (answer_line n ms)) (phase_at (answer_line n ms))
unfolding answer_line
answer_leads n ms h =
    leads_line (phase_at ms) (phase_at (answer_line n ms)) n _ _ refl refl
    (λ j z. sym (ap body_phase (put_other ms n j _ z)))
    (subst (λ c. Moves (phase_at ms n) (body_phase c)) (sym (put_same ms n _ h)) (body_answers (body_at ms n) _ _))

answers_lead : (n : ℕ) (cs : List Cell) → Wired n cs → Leads (phase_at cs) (answers_to n cs) (phase_at (answer_to n cs))
unfolding answers_to answer_to
answers_lead zero cs w = leads_none _ _ (λ i. refl)
answers_lead (suc n) cs w =
    let v : Wired n cs = touched_wired (suc n) n cs cs (omega arith) refl (λ i. (Nothing, sym (none_driven (body_at cs i)))) w in
    let q = answered n cs v in
    let l : length (answer_to n cs) ≡ length cs = q.long in
    let f : suc n ≤ length cs = w.fits in
    leads_more (answers_to n cs) (line_edge n (answer_to n cs) (answer_line n (answer_to n cs))) _ _ _ (answers_lead n cs v) (answer_leads n (answer_to n cs) (omega arith))

-- a step's edges lead from the phases before it to those after it
pub step_leads : (n : ℕ) (cs : List Cell) → Wired n cs → Leads (phase_at cs) (step_edges n cs) (phase_at (stepped n cs))
step_leads n cs w =
    let p = passed n cs w in
    let v : Wired n (drive_from n cs) = touched_wired n n cs _ (omega arith) p.long p.touched w in
    leads_more (drives_from n cs) (answers_to n (drive_from n cs)) _ _ _ (drives_lead n cs w) (answers_lead n (drive_from n cs) v)
