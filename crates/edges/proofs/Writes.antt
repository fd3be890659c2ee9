-- What is written of the edges of a step.
use Rattle.std.proofs.Common.{◌≡◌, ℕ, zero, suc, ◌+◌, ◌<◌, Bool, true, false, cond, not, ◌&&◌, eqb, List, [], ◌∷◌, sym, refl, ap, ◌∙◌, subst, add-one, arith}
use Rattle.std.proofs.lemmas.Bool.Decides.{nat_tests}
use denote.Enum.Bare.{sameb}
use Rattle.channel.specs.contracts.phase.Phase.{the_type}
use Rattle.channel.specs.declared.phase.Phase.{Phase}
use Rattle.channel.specs.declared.phase.Phase.TheVariants.{Denied}
use Rattle.channel.specs.Phases.{number_of}
use Rattle.trace.specs.declared.sheet.Sheet.{Sheet}
use Rattle.trace.specs.Written.{Adds}
use Rattle.trace.specs.Texts.{edge_text}
use Rattle.trace.proofs.Lays.{adds_none}
use Rattle.cells.specs.declared.cell.Cell.{Cell}
use Rattle.edges.specs.Edges.{Edge, change}
use Rattle.edges.specs.Lines.{edge_lines, moved_lines, is_denied, denied_lines}

-- one channel alone, by its name
pub moved_edges : (tick w : List ℕ) (names : ℕ → List ℕ) (p q : Phase) (i : ℕ) → w ≡ names i → moved_lines tick w p q ≡ edge_lines tick names (change p q i)
unfolding change edge_lines
moved_edges tick w names p q i e = by (eqb (number_of p) (number_of q))
  where
    edge : Edge
    edge = record { line = i; to = q }

    by : (b : Bool) → cond b [] (edge_text tick w q ∷ []) ≡ edge_lines tick names (cond b [] (edge ∷ []))
    by true = refl
    by false = ap (λ x. edge_text tick x q ∷ []) e

pub agrees : (b : Bool) → false ≡ not b → true ≡ b
agrees true e = refl
agrees false e = sym e

-- phases are the same where their numbers are
pub same_numbers : (p q : Phase) → sameb the_type p q ≡ eqb (number_of p) (number_of q)
same_numbers p q = grind (arith, nat_tests)

pub same_denied : (p : Phase) → sameb the_type p Denied ≡ is_denied p
same_denied p = grind (arith, nat_tests)

-- who denied
pub ends_empty : (s : Sheet) (tick : List ℕ) (p : Phase) (n : ℕ) (cs : List Cell) → n < 1 → Adds s s (denied_lines tick p n cs)
ends_empty s tick p zero cs h = adds_none s
ends_empty s tick p (suc n) cs h = absurd (omega arith)

pub ends_at : (s u : Sheet) (tick : List ℕ) (p : Phase) (n t : ℕ) (cs : List Cell) → n ≡ t + 1 → Adds s u (denied_lines tick p (suc t) cs) → Adds s u (denied_lines tick p n cs)
ends_at s u tick p n t cs e a = subst (λ k. Adds s u (denied_lines tick p k cs)) (sym (e ∙ add-one t)) a

module _ (s : Sheet) (p q : Phase) (ls : List (List ℕ)) where
  pub ends_still : false ≡ not (sameb the_type p Denied) → Adds s s (cond (not (is_denied p) && is_denied q) ls [])
  ends_still e = subst (λ b. Adds s s (cond (b && is_denied q) ls [])) (e ∙ ap not (same_denied p)) (adds_none s)

  pub ends_other : true ≡ not (sameb the_type p Denied) → false ≡ sameb the_type q Denied → Adds s s (cond (not (is_denied p) && is_denied q) ls [])
  ends_other e f =
      subst (λ b. Adds s s (cond (b && is_denied q) ls [])) (e ∙ ap not (same_denied p))
      (subst (λ b. Adds s s (cond b ls [])) (f ∙ same_denied q) (adds_none s))

  pub ends_denied : (u : Sheet) → true ≡ not (sameb the_type p Denied) → true ≡ sameb the_type q Denied → Adds s u ls → Adds s u (cond (not (is_denied p) && is_denied q) ls [])
  ends_denied u e f a =
      subst (λ b. Adds s u (cond (b && is_denied q) ls [])) (e ∙ ap not (same_denied p))
      (subst (λ b. Adds s u (cond b ls [])) (f ∙ same_denied q) a)
