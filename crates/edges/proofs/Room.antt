-- A step writes at most 6,391 bytes.
use Rattle.std.proofs.Common.{◌≡◌, ℕ, zero, suc, ◌+◌, ◌-◌, ◌*◌, ◌<◌, ◌≤◌, Bool, true, false, cond, not, ◌&&◌, eqb, ◌⊎◌, List, [], ◌∷◌, ◌++◌, length, Some, None, codes, Option, sym, refl, ap, ◌∙◌, subst, inl, inr, arith, length-append}
use Rattle.std.proofs.lemmas.Bool.{cases_eq, cases_lt}
use Rattle.std.proofs.lemmas.List.{set_past}
use Rattle.std.proofs.lemmas.List.Folds.{concat-append}
use Rattle.channel.specs.declared.phase.Phase.{Phase}
use Rattle.channel.specs.declared.phase.Phase.TheVariants.{Run, Request, Stopped, Exit, Denied, Continue}
use Rattle.channel.specs.Phases.{number_of}
use Rattle.cells.specs.declared.cell.Body.{Body}
use Rattle.cells.specs.declared.cell.Body.TheVariants as body
use Rattle.cells.specs.declared.cell.Cell.{Cell}
use Rattle.words.specs.Names.{text_of}
use Rattle.cells.specs.Bodies.{body_denier, answered_body}
use Rattle.cells.specs.Flat.{at, body_at, with_body, put, is_join, first_of, second_of, drive_pair, drive_by, drive_line, drive_from, answer_line, answer_to, stepped}
use Rattle.cells.proofs.Passes.{put_same, put_other, join_driven}
use Rattle.trace.specs.Sheets.{joined}
use Rattle.trace.specs.Texts.{levels_text, edge_text, denied_text}
use Rattle.trace.proofs.Lays.{parts_long}
use Rattle.edges.specs.Edges.{Edge, phase_at, change, drive_edges_by, drive_edges, drives_from, answers_to, step_edges}
use Rattle.edges.specs.Lines.{name_at, edge_lines, is_denied, leaf_name, denied_lines, last_phase, step_lines}
use Rattle.edges.specs.Room.{joins_to, Roomy}
use Rattle.cells.proofs.Names.{cell_name_put}

-- cells that have kept their names, and their joins
pub record Lasting (cs ds : List Cell) : Type 0 where
  pub names : (j : ℕ) → (at ds j).name ≡ (at cs j).name
  pub joins : (j : ℕ) → is_join (body_at ds j) ≡ is_join (body_at cs j)

pub lasting_self : (cs : List Cell) → Lasting cs cs
lasting_self cs = record { names = λ j. refl; joins = λ j. refl }

pub lasting_then : (cs ds es : List Cell) → Lasting cs ds → Lasting ds es → Lasting cs es
lasting_then cs ds es l m = record { names = λ j. m.names j ∙ l.names j; joins = λ j. m.joins j ∙ l.joins j }

pub lasting_put : (cs : List Cell) (i : ℕ) (b : Body) → is_join b ≡ is_join (body_at cs i) → Lasting cs (put cs i b)
unfolding put
lasting_put cs i b e = record { names = λ j. cell_name_put cs i j b; joins = λ j. by j (cases_eq j i) (cases_lt i (length cs)) }
  where
    by : (j : ℕ) → (j ≡ i) ⊎ (j ≡ i → ⊥) → (i < length cs) ⊎ (length cs ≤ i) → is_join (body_at (put cs i b) j) ≡ is_join (body_at cs j)
    by j (inl z) (inl h) = subst (λ k. is_join (body_at (put cs i b) k) ≡ is_join (body_at cs k)) (sym z) (ap is_join (put_same cs i b h) ∙ e)
    by j (inl z) (inr h) = ap (λ l. is_join (body_at l j)) (set_past cs i (with_body (at cs i) b) h)
    by j (inr z) h = ap is_join (put_other cs i j b z)

lasting_drive : (i : ℕ) (cs : List Cell) → Lasting cs (drive_line i cs)
unfolding drive_by drive_pair
lasting_drive i cs = by (is_join (body_at cs i)) (body_at cs i)
  where
    by : (t : Bool) (l : Body) → Lasting cs (drive_by t cs l)
    by true l =
        let one = lasting_put cs (first_of l) _ (join_driven _ (body_at cs (first_of l))) in
        lasting_then cs _ _ one (lasting_put _ (second_of l) _ (join_driven _ (body_at cs (second_of l)) ∙ sym (one.joins (second_of l))))
    by false l = lasting_self cs

join_answered : (b x y : Body) → is_join (answered_body b x y) ≡ is_join b
join_answered body.Blank x y = refl
join_answered (body.Timed t) x y = refl
join_answered (body.Work t) x y = refl
join_answered (body.Join k a b e) x y = refl

lasting_answer : (i : ℕ) (cs : List Cell) → Lasting cs (answer_line i cs)
unfolding answer_line
lasting_answer i cs = lasting_put cs i _ (join_answered (body_at cs i) _ _)

lasting_drives : (n : ℕ) (cs : List Cell) → Lasting cs (drive_from n cs)
unfolding drive_from
lasting_drives zero cs = lasting_self cs
lasting_drives (suc n) cs = lasting_then cs _ _ (lasting_drive n cs) (lasting_drives n (drive_line n cs))

lasting_answers : (n : ℕ) (cs : List Cell) → Lasting cs (answer_to n cs)
unfolding answer_to
lasting_answers zero cs = lasting_self cs
lasting_answers (suc n) cs = lasting_then cs _ _ (lasting_answers n cs) (lasting_answer n (answer_to n cs))

pub lasting_stepped : (n : ℕ) (cs : List Cell) → Lasting cs (stepped n cs)
lasting_stepped n cs = lasting_then cs _ _ (lasting_drives n cs) (lasting_answers n (drive_from n cs))

joins_same : (n : ℕ) (cs ds : List Cell) → Lasting cs ds → joins_to n ds ≡ joins_to n cs
unfolding joins_to
joins_same zero cs ds l = refl
joins_same (suc n) cs ds l = λ i. cond (l.joins n i) 1 0 + joins_same n cs ds l i

pub roomy_lasting : (n : ℕ) (cs ds : List Cell) → Lasting cs ds → Roomy n cs → Roomy n ds
roomy_lasting n cs ds l r = record {
  lines = r.lines;
  few = subst (λ k. 2 * k ≤ n) (sym (joins_same n cs ds l)) r.few;
  short = λ h j. subst (λ w. length w ≤ 12) (sym (ap text_of (l.names j))) (r.short h j);
}

-- how many edges a step makes
change_few : (p q : Phase) (i : ℕ) → length (change p q i) ≤ 1
unfolding change
change_few p q i = by (eqb (number_of p) (number_of q))
  where
    e : Edge
    e = record { line = i; to = q }

    by : (b : Bool) → length (cond b [] (e ∷ [])) ≤ 1
    by true = omega arith
    by false = omega arith

drive_few : (t : Bool) (l : Body) (cs ds : List Cell) → length (drive_edges_by t l cs ds) ≤ 2 * cond t 1 0
unfolding drive_edges_by
drive_few true l cs ds =
    let e = length-append (change (phase_at cs (first_of l)) (phase_at ds (first_of l)) (first_of l)) (change (phase_at cs (second_of l)) (phase_at ds (second_of l)) (second_of l)) in
    let a = change_few (phase_at cs (first_of l)) (phase_at ds (first_of l)) (first_of l) in
    let b = change_few (phase_at cs (second_of l)) (phase_at ds (second_of l)) (second_of l) in
    omega arith
drive_few false l cs ds = omega arith

drives_few : (n : ℕ) (cs : List Cell) → length (drives_from n cs) ≤ 2 * joins_to n cs
unfolding drives_from joins_to
drives_few zero cs = omega arith
drives_few (suc n) cs =
    let e = length-append (drive_edges n cs) (drives_from n (drive_line n cs)) in
    let a = drive_few (is_join (body_at cs n)) (body_at cs n) cs (drive_line n cs) in
    let b = drives_few n (drive_line n cs) in
    let s = joins_same n cs (drive_line n cs) (lasting_drive n cs) in
    omega arith

answers_few : (n : ℕ) (cs : List Cell) → length (answers_to n cs) ≤ n
unfolding answers_to
answers_few zero cs = omega arith
answers_few (suc n) cs =
    let ms = answer_to n cs in
    let e = length-append (answers_to n cs) (change (phase_at ms n) (phase_at (answer_line n ms) n) n) in
    let a = answers_few n cs in
    let b = change_few (phase_at ms n) (phase_at (answer_line n ms) n) n in
    omega arith

pub edges_few : (n : ℕ) (cs : List Cell) → Roomy n cs → length (step_edges n cs) ≤ 254
edges_few n cs r =
    let e = length-append (drives_from n cs) (answers_to n (drive_from n cs)) in
    let a = drives_few n cs in
    let b = answers_few n (drive_from n cs) in
    omega arith

-- how long their lines are
levels_long : (p : Phase) → length (levels_text p) ≡ 3
levels_long Run = refl
levels_long Request = refl
levels_long Stopped = refl
levels_long Exit = refl
levels_long Denied = refl
levels_long Continue = refl

pub edge_long : (tick w : List ℕ) (p : Phase) → length tick ≤ 7 → length w ≤ 12 → length (edge_text tick w p) ≤ 25
edge_long tick w p h k =
    let e : length (edge_text tick w p) ≡ length tick + 1 + length w + 1 + length (levels_text p) + 1 = parts_long tick (codes " ") w (codes " ") (levels_text p) in
    let l = levels_long p in
    omega arith

pub denied_long : (tick w l : List ℕ) → length tick ≤ 7 → length w ≤ 12 → length l ≤ 12 → length (denied_text tick w l) ≤ 41
denied_long tick w l h k m =
    let e : length (denied_text tick w l) ≡ length tick + 1 + length w + 8 + length l + 1 = parts_long tick (codes " ") w (codes " denied ") l in
    omega arith

joined_more : (ls ms : List (List ℕ)) → length (joined (ls ++ ms)) ≡ length (joined ls) + length (joined ms)
joined_more ls ms = ap length (concat-append ls ms) ∙ length-append (joined ls) (joined ms)

pub lines_long : (tick : List ℕ) (names : ℕ → List ℕ) (es : List Edge) → length tick ≤ 7 → ((j : ℕ) → length (names j) ≤ 12)
    → length (joined (edge_lines tick names es)) ≤ 25 * length es
unfolding edge_lines
lines_long tick names [] h k = omega arith
lines_long tick names (e ∷ es) h k =
    let a = length-append (edge_text tick (names e.line) e.to) (joined (edge_lines tick names es)) in
    let b = edge_long tick (names e.line) e.to h (k e.line) in
    let c = lines_long tick names es h k in
    omega arith

leaf_short : (cs : List Cell) (d : Option ℕ) → ((j : ℕ) → length (name_at cs j) ≤ 12) → length (leaf_name cs d) ≤ 12
leaf_short cs None k = omega arith
leaf_short cs (Some t) k = k (t - 1)

cond_few : (b : Bool) (l : List ℕ) → length l ≤ 41 → length (joined (cond b (l ∷ []) [])) ≤ 41
cond_few true l h = let e = length-append l [] in omega arith
cond_few false l h = omega arith

-- what a step writes
pub step_room : (tick : List ℕ) (n : ℕ) (cs : List Cell) → length tick ≤ 7 → Roomy n cs → length (joined (step_lines tick n cs)) ≤ 6391
unfolding drives_from answers_to edge_lines
step_room tick zero cs h r = omega arith
step_room tick (suc t) cs h r =
    let short : (j : ℕ) → length (name_at cs j) ≤ 12 = r.short (omega arith) in
    let later : (j : ℕ) → length (name_at (stepped (suc t) cs) j) ≤ 12 = (roomy_lasting (suc t) cs _ (lasting_stepped (suc t) cs) r).short (omega arith) in
    let e = joined_more (edge_lines tick (name_at cs) (step_edges (suc t) cs)) (denied_lines tick (last_phase (suc t) cs) (suc t) (stepped (suc t) cs)) in
    let a = lines_long tick (name_at cs) (step_edges (suc t) cs) h short in
    let b = edges_few (suc t) cs r in
    let d : length (joined (denied_lines tick (last_phase (suc t) cs) (suc t) (stepped (suc t) cs))) ≤ 41 =
    cond_few (not (is_denied (phase_at cs t)) && is_denied (phase_at (stepped (suc t) cs) t)) _ (denied_long tick _ _ h (later t) (leaf_short (stepped (suc t) cs) (body_denier (body_at (stepped (suc t) cs) t)) later)) in
    omega arith
