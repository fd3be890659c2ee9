-- A laid topology: cells one after another, wired as the topology is, each line as after a reset.
use Rattle.std.proofs.Common.{◌≡◌, ℕ, ◌<◌, ◌≤◌, true, false, ◌||◌, eqb, ◌⊎◌, List, length, sym, refl, ap, ◌∙◌, subst, inl, inr, arith}
use Rattle.std.proofs.lemmas.Bool.{both_ways, ne_eqb, eqb-true, or_cases}
use Rattle.std.proofs.lemmas.Option.{slice_get-get_or}
use Rattle.leaves.specs.declared.timed.Timed.{Timed}
use Rattle.leaves.specs.Timed as timed
use Rattle.topology.specs.declared.node.Node.{Node}
use Rattle.topology.specs.declared.node.Part.{Part}
use Rattle.topology.specs.declared.node.Part.TheVariants as part
use Rattle.topology.specs.Nodes.{absent as no_Node, part_joins}
use Rattle.topology.specs.Trees.{part_of_line, JoinsBelow, SoundPart, WellFormed}
use Rattle.cells.specs.declared.cell.Body.{Body}
use Rattle.cells.specs.declared.cell.Body.TheVariants as body
use Rattle.cells.specs.declared.cell.Cell.{Cell}
use Rattle.cells.specs.Bodies.{reset_body, joins_line, joins_twice}
use Rattle.cells.specs.Flat.{at, body_at, is_blank, Wired}
use Rattle.cells.proofs.Calls.{ResetAll}
use Rattle.tree.specs.Loads.{tag_of, Fresh, LineIs, Laid}

either_below : (n k x y : ℕ) → (x < n) × (y < n) → (eqb x k || eqb y k) ≡ true → k < n
either_below n k x y j e = by (or_cases (eqb x k) (eqb y k) e)
  where
    by : (eqb x k ≡ true) ⊎ (eqb y k ≡ true) → k < n
    by (inl i) = subst (λ z. z < n) (eqb-true x k i) j.0
    by (inr i) = subst (λ z. z < n) (eqb-true y k i) j.1

timed_again : (tag n : ℕ) (t : Timed) → t ≡ timed.made tag t.delays n → t ≡ timed.made t.tag t.delays t.every
timed_again tag n t e = e ∙ rw (ap (λ z. z.tag) e, ap (λ z. z.every) e)

-- a fresh line is wired as its part is
fresh_joins : (tag : ℕ) (p : Part) (b : Body) (k : ℕ) → Fresh tag p b → joins_line k b ≡ part_joins k p
fresh_joins tag (part.Timed d e n) b k f = ap (joins_line k) f.is
fresh_joins tag (part.Work p) b k f = ap (joins_line k) f
fresh_joins tag (part.Dist x y) b k f = ap (joins_line k) f
fresh_joins tag (part.Seq x y) b k f = ap (joins_line k) f

fresh_blank : (tag : ℕ) (p : Part) (b : Body) → Fresh tag p b → is_blank b ≡ false
fresh_blank tag (part.Timed d e n) b f = ap is_blank f.is
fresh_blank tag (part.Work p) b f = ap is_blank f
fresh_blank tag (part.Dist x y) b f = ap is_blank f
fresh_blank tag (part.Seq x y) b f = ap is_blank f

fresh_twice : (tag : ℕ) (p : Part) (b : Body) → SoundPart p → Fresh tag p b → joins_twice b ≡ false
fresh_twice tag (part.Timed d e n) b s f = ap joins_twice f.is
fresh_twice tag (part.Work p) b s f = ap joins_twice f
fresh_twice tag (part.Dist x y) b s f = ap joins_twice f ∙ ne_eqb x y s
fresh_twice tag (part.Seq x y) b s f = ap joins_twice f ∙ ne_eqb x y s

fresh_reset : (tag : ℕ) (p : Part) (b : Body) → Fresh tag p b → b ≡ reset_body b
fresh_reset tag (part.Timed d e n) b f =
    f.is ∙ (ap body.Timed (timed_again tag n f.leaf f.made) ∙ sym (ap reset_body f.is))
fresh_reset tag (part.Work p) b f = f ∙ sym (ap reset_body f)
fresh_reset tag (part.Dist x y) b f = f ∙ sym (ap reset_body f)
fresh_reset tag (part.Seq x y) b f = f ∙ sym (ap reset_body f)

below_joins : (n k : ℕ) (p : Part) → JoinsBelow n p → part_joins k p ≡ true → k < n
below_joins n k (part.Timed d e m) j e2 = let z : ⊥ = both_ways false refl e2 in elim z [ ]
below_joins n k (part.Work p) j e = let z : ⊥ = both_ways false refl e in elim z [ ]
below_joins n k (part.Dist x y) j e = either_below n k x y j e
below_joins n k (part.Seq x y) j e = either_below n k x y j e

-- the line of a node
line_at : (ns : List Node) (cs : List Cell) → Laid ns cs → length ns ≤ length cs → (i : ℕ) → i < length ns
    → Fresh (tag_of i) (part_of_line ns i) (body_at cs i)
line_at ns cs l f i h =
    (subst (λ o. LineIs i o (at cs i)) (slice_get-get_or ns i no_Node h) (l i (omega arith))).1

pub laid_wired : (ns : List Node) (cs : List Cell) → WellFormed ns → length ns ≤ length cs → Laid ns cs → Wired (length ns) cs
laid_wired ns cs w f l = record {
  fits = f;
  filled = λ j h. fresh_blank _ _ _ (line_at ns cs l f j h);
  earlier = λ j k h e. below_joins j k (part_of_line ns j) (w.earlier j h) (sym (fresh_joins _ _ _ k (line_at ns cs l f j h)) ∙ e);
  apart = λ j h. fresh_twice _ _ _ (w.sound j h) (line_at ns cs l f j h);
  once = λ i j k lt h x y. w.once i j lt h k
      (sym (fresh_joins _ _ _ k (line_at ns cs l f i (omega arith))) ∙ x) (sym (fresh_joins _ _ _ k (line_at ns cs l f j h)) ∙ y);
}

pub laid_reset : (ns : List Node) (cs : List Cell) → length ns ≤ length cs → Laid ns cs → ResetAll (length ns) cs cs
laid_reset ns cs f l = record {
  long = refl;
  done = λ i h. fresh_reset _ _ _ (line_at ns cs l f i h);
  rest = λ i h. refl;
}
