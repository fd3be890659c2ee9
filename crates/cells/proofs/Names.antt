-- Names stay as they are over a step.
use Rattle.std.proofs.Common.{◌≡◌, ℕ, zero, suc, ◌<◌, ◌≤◌, Bool, true, false, ◌⊎◌, List, length, sym, refl, ap, ◌∙◌, subst, inl, inr, get_or-set_other, get_or-set_same}
use Rattle.std.proofs.lemmas.List.{set_past}
use Rattle.std.proofs.lemmas.Bool.{cases_eq, cases_lt}
use Rattle.cells.specs.declared.cell.Body.{Body}
use Rattle.cells.specs.declared.cell.Cell.{Cell}
use Rattle.words.specs.Names.{text_of}
use Rattle.cells.specs.Flat.{absent, at, body_at, with_body, put, is_join, drive_pair, drive_by, drive_line, drive_from, answer_line, answer_to, stepped}
use Rattle.cells.specs.Edges.{name_at}

pub cell_name_put : (cs : List Cell) (i j : ℕ) (b : Body) → (at (put cs i b) j).name ≡ (at cs j).name
unfolding put
cell_name_put cs i j b = by (cases_eq j i) (cases_lt i (length cs))
  where
    by : (j ≡ i) ⊎ (j ≡ i → ⊥) → (i < length cs) ⊎ (length cs ≤ i) → (at (put cs i b) j).name ≡ (at cs j).name
    by (inl e) (inl h) = subst (λ k. (at (put cs i b) k).name ≡ (at cs k).name) (sym e) (ap (λ c. c.name) (get_or-set_same cs i (with_body (at cs i) b) absent h))
    by (inl e) (inr h) = ap (λ l. (at l j).name) (set_past cs i (with_body (at cs i) b) h)
    by (inr e) h = ap (λ c. c.name) (get_or-set_other cs i j (with_body (at cs i) b) absent e)

pub cell_name_driven : (i : ℕ) (cs : List Cell) (j : ℕ) → (at (drive_line i cs) j).name ≡ (at cs j).name
unfolding drive_by drive_pair
cell_name_driven i cs j = by (is_join (body_at cs i)) (body_at cs i)
  where
    by : (t : Bool) (l : Body) → (at (drive_by t cs l) j).name ≡ (at cs j).name
    by true l = cell_name_put _ _ j _ ∙ cell_name_put cs _ j _
    by false l = refl

pub cell_name_answered : (i : ℕ) (cs : List Cell) (j : ℕ) → (at (answer_line i cs) j).name ≡ (at cs j).name
unfolding answer_line
cell_name_answered i cs j = cell_name_put cs i j _

pub cell_name_drives : (n : ℕ) (cs : List Cell) (j : ℕ) → (at (drive_from n cs) j).name ≡ (at cs j).name
unfolding drive_from
cell_name_drives zero cs j = refl
cell_name_drives (suc n) cs j = cell_name_drives n (drive_line n cs) j ∙ cell_name_driven n cs j

pub cell_name_answers : (n : ℕ) (cs : List Cell) (j : ℕ) → (at (answer_to n cs) j).name ≡ (at cs j).name
unfolding answer_to
cell_name_answers zero cs j = refl
cell_name_answers (suc n) cs j = cell_name_answered n (answer_to n cs) j ∙ cell_name_answers n cs j

pub cell_name_stepped : (n : ℕ) (cs : List Cell) (j : ℕ) → (at (stepped n cs) j).name ≡ (at cs j).name
cell_name_stepped n cs j = cell_name_answers n (drive_from n cs) j ∙ cell_name_drives n cs j

-- the same, of the names' bytes
pub named : (cs ds : List Cell) → ((j : ℕ) → (at ds j).name ≡ (at cs j).name) → (j : ℕ) → name_at ds j ≡ name_at cs j
named cs ds e j = ap text_of (e j)
