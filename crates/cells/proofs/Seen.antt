-- What is seen of the edges of a step, whatever sees them.
use Rattle.std.proofs.Common.{◌≡◌, ℕ, zero, suc, ◌+◌, ◌-◌, ◌<◌, Bool, true, false, cond, List, [], ◌++◌, Some, None, Option, sym, refl, ap, ◌∙◌, subst, add-one, append_assoc, append-nil, arith}
use Rattle.channel.specs.declared.phase.Phase.{Phase}
use Rattle.cells.specs.declared.cell.Body.{Body}
use Rattle.cells.specs.declared.cell.Cell.{Cell}
use Rattle.cells.specs.Flat.{body_at, first_of, second_of, is_join, drive_line, drive_from, answer_line, answer_to, stepped}
use Rattle.cells.proofs.Walks.{drive_down, drive_start}
use Rattle.cells.specs.Edges.{Edge, phase_at, change, drive_edges_by, drive_edges, drives_from, answer_edges, answers_to, step_edges}
use Rattle.cells.specs.Edges.{name_at}
use Rattle.cells.proofs.Names.{cell_name_driven, cell_name_answered, cell_name_answers, named}

pub devices_none : (b : Body) (r : Option (ℕ × ℕ)) → r ≡ cond {A = Option (ℕ × ℕ)} (is_join b) (Some (first_of b, second_of b)) None → r ≡ None → is_join b ≡ false
devices_none b r e n = by (is_join b) (sym e ∙ n)
  where
    by : (t : Bool) → cond {A = Option (ℕ × ℕ)} t (Some (first_of b, second_of b)) None ≡ None → t ≡ false
    by true h = let z : ◌≡◌ {A = ℕ} 0 1 = cc in absurd (omega arith)
    by false h = refl

pub devices_some : (b : Body) (r : Option (ℕ × ℕ)) (p : ℕ × ℕ) → r ≡ cond {A = Option (ℕ × ℕ)} (is_join b) (Some (first_of b, second_of b)) None → r ≡ Some p
    → (is_join b ≡ true) × (p.0 ≡ first_of b) × (p.1 ≡ second_of b)
devices_some b r p e n = by (is_join b) (sym e ∙ n)
  where
    by : (t : Bool) → cond {A = Option (ℕ × ℕ)} t (Some (first_of b, second_of b)) None ≡ Some p → (t ≡ true) × (p.0 ≡ first_of b) × (p.1 ≡ second_of b)
    by true h = let q : p ≡ (first_of b, second_of b) = cc in (refl, ap (λ x. x.0) q, ap (λ x. x.1) q)
    by false h = let z : ◌≡◌ {A = ℕ} 0 1 = cc in absurd (omega arith)

pair_edges : (cs ds : List Cell) (i a b : ℕ) (line : Body) (p q : Phase)
    → a ≡ first_of line → b ≡ second_of line → p ≡ phase_at cs a → q ≡ phase_at cs b → ds ≡ drive_line i cs
    → change p (phase_at ds a) a ++ change q (phase_at ds b) b ≡ drive_edges_by true line cs (drive_line i cs)
unfolding drive_edges_by
pair_edges cs ds i a b line p q ea eb ep eq ed = rw (ep, eq, ea, eb, ed) refl

drives_split : (i : ℕ) (cs : List Cell) → 0 < i → drive_edges (i - 1) cs ++ drives_from (i - 1) (drive_line (i - 1) cs) ≡ drives_from i cs
unfolding drives_from
drives_split zero cs h = let z : ⊥ = omega arith in elim z [ ]
drives_split (suc i) cs h = let m : suc i - 1 ≡ i = omega arith in ap (λ k. drive_edges k cs ++ drives_from k (drive_line k cs)) m

-- what is seen of the drives so far, with those that are left, is the whole
pub record Drives {W : Type 0} (saw : (ℕ → List ℕ) → List Edge → W → W → Type 0) (n i : ℕ) (cs₀ cs : List Cell) (w₀ w : W) : Type 0 where
  pub cells : drive_from i cs ≡ drive_from n cs₀
  pub names : name_at cs ≡ name_at cs₀
  pub seen : (es : List Edge) × (es ++ drives_from i cs ≡ drives_from n cs₀) × saw (name_at cs₀) es w₀ w

module _ {W : Type 0} (saw : (ℕ → List ℕ) → List Edge → W → W → Type 0)
    (none : (f : ℕ → List ℕ) (w : W) → saw f [] w w)
    (more : (f : ℕ → List ℕ) (es fs : List Edge) (w v u : W) → saw f es w v → saw f fs v u → saw f (es ++ fs) w u) where
  pub drove_none : (w : W) (cs : List Cell) (i : ℕ) → is_join (body_at cs i) ≡ false → saw (name_at cs) (drive_edges i cs) w w
  unfolding drive_edges_by
  drove_none w cs i j = subst (λ t. saw (name_at cs) (drive_edges_by t (body_at cs i) cs (drive_line i cs)) w w) (sym j) (none (name_at cs) w)

  pub drove_pair : (w v u : W) (cs ds : List Cell) (i a b : ℕ) (p q : Phase) → is_join (body_at cs i) ≡ true
      → a ≡ first_of (body_at cs i) → b ≡ second_of (body_at cs i) → p ≡ phase_at cs a → q ≡ phase_at cs b → ds ≡ drive_line i cs
      → saw (name_at ds) (change p (phase_at ds a) a) w v → saw (name_at ds) (change q (phase_at ds b) b) v u
      → saw (name_at cs) (drive_edges i cs) w u
  drove_pair w v u cs ds i a b p q j ea eb ep eq ed s t =
      let same : (k : ℕ) → name_at ds k ≡ name_at cs k = λ k. ap (λ x. name_at x k) ed ∙ named cs (drive_line i cs) (cell_name_driven i cs) k in
      let names : name_at ds ≡ name_at cs = (λ l k. same k l) in
      subst (λ x. saw (name_at cs) (drive_edges_by x (body_at cs i) cs (drive_line i cs)) w u) (sym j)
      (subst (λ es. saw (name_at cs) es w u) (pair_edges cs ds i a b (body_at cs i) p q ea eb ep eq ed)
      (subst (λ f. saw f (change p (phase_at ds a) a ++ change q (phase_at ds b) b) w u) names (more _ _ _ w v u s t)))

  pub answered_one : (w u : W) (cs ds : List Cell) (i : ℕ) (p : Phase) → p ≡ phase_at cs i → ds ≡ answer_line i cs
      → saw (name_at ds) (change p (phase_at ds i) i) w u → saw (name_at cs) (answer_edges i cs) w u
  answered_one w u cs ds i p ep ed s =
      let same : (k : ℕ) → name_at ds k ≡ name_at cs k = λ k. ap (λ x. name_at x k) ed ∙ named cs (answer_line i cs) (cell_name_answered i cs) k in
      let names : name_at ds ≡ name_at cs = (λ l k. same k l) in
      let edges : change p (phase_at ds i) i ≡ answer_edges i cs = λ l. change (ep l) (phase_at (ed l) i) i in
      subst (λ f. saw f (answer_edges i cs) w u) names (subst (λ es. saw (name_at ds) es w u) edges s)

  pub drives_start : (n : ℕ) (cs : List Cell) (w : W) → Drives saw n n cs cs w w
  drives_start n cs w = record { cells = refl; names = refl; seen = ([], refl, none (name_at cs) w) }

  pub drives_more : (n i : ℕ) (cs₀ cs ds : List Cell) (w₀ w v : W) → 0 < i → Drives saw n i cs₀ cs w₀ w → ds ≡ drive_line (i - 1) cs
      → saw (name_at cs) (drive_edges (i - 1) cs) w v → Drives saw n (i - 1) cs₀ ds w₀ v
  drives_more n i cs₀ cs ds w₀ w v h d e s =
      let same : (k : ℕ) → name_at ds k ≡ name_at cs k = λ k. ap (λ x. name_at x k) e ∙ named cs (drive_line (i - 1) cs) (cell_name_driven (i - 1) cs) k in
      let names : name_at ds ≡ name_at cs = (λ l k. same k l) in
      let left : drive_edges (i - 1) cs ++ drives_from (i - 1) ds ≡ drives_from i cs =
      ap (λ x. drive_edges (i - 1) cs ++ drives_from (i - 1) x) e ∙ drives_split i cs h in
      record {
        cells = drive_down i cs ds h e ∙ d.cells;
        names = names ∙ d.names;
        seen = (
          d.seen.0 ++ drive_edges (i - 1) cs,
          append_assoc d.seen.0 (drive_edges (i - 1) cs) (drives_from (i - 1) ds) ∙ (ap (λ es. d.seen.0 ++ es) left ∙ d.seen.1),
          more _ _ _ w₀ w v d.seen.2 (subst (λ f. saw f (drive_edges (i - 1) cs) w v) d.names s),
        );
      }

  pub answers_start : (cs : List Cell) (w : W) → saw (name_at cs) (answers_to 0 cs) w w
  unfolding answers_to
  answers_start cs w = none (name_at cs) w

  pub answers_more : (k : ℕ) (cs ms : List Cell) (w v u : W) → ms ≡ answer_to k cs → saw (name_at cs) (answers_to k cs) w v
      → saw (name_at ms) (answer_edges k ms) v u → saw (name_at cs) (answers_to (k + 1) cs) w u
  unfolding answers_to
  answers_more k cs ms w v u e s t =
      let same : (j : ℕ) → name_at ms j ≡ name_at cs j = λ j. ap (λ x. name_at x j) e ∙ named cs (answer_to k cs) (cell_name_answers k cs) j in
      let names : name_at ms ≡ name_at cs = (λ l j. same j l) in
      subst (λ j. saw (name_at cs) (answers_to j cs) w u) (sym (add-one k))
      (subst (λ x. saw (name_at cs) (answers_to k cs ++ answer_edges k x) w u) e
      (more _ _ _ w v u s (subst (λ f. saw f (answer_edges k ms) v u) names t)))

  -- both passes
  pub passes_end : (n i k : ℕ) (cs ms es : List Cell) (w v u : W) → i ≡ 0 → k ≡ n → Drives saw n i cs ms w v → es ≡ answer_to k ms
      → saw (name_at ms) (answers_to k ms) v u → (es ≡ stepped n cs) × saw (name_at cs) (step_edges n cs) w u
  unfolding drives_from
  passes_end n i k cs ms es w v u ei ek d e s =
      let z : Drives saw n 0 cs ms w v = subst (λ j. Drives saw n j cs ms w v) ei d in
      let m : ms ≡ drive_from n cs = drive_start n cs ms z.cells in
      let all : z.seen.0 ≡ drives_from n cs = sym (append-nil z.seen.0) ∙ z.seen.1 in (
        e ∙ (ap (λ j. answer_to j ms) ek ∙ ap (answer_to n) m),
        subst (λ ds. saw (name_at cs) (drives_from n cs ++ answers_to n ds) w u) m
            (subst (λ j. saw (name_at cs) (drives_from n cs ++ answers_to j ms) w u) ek
            (more _ _ _ w v u (subst (λ x. saw (name_at cs) x w v) all z.seen.2) (subst (λ f. saw f (answers_to k ms) v u) z.names s))),
      )
