use Rattle.std.proofs.Common.{◌≡◌, ℕ, ◌+◌, ◌-◌, List, [], length, Ok, Err, Some, None, Option, Result, sym, refl, ap, ◌∙◌, subst, rules}
use Rattle.std.specs.Result.{MatchResult}
use Rattle.words.specs.Pieces.{lines_of, lines_left}
use Rattle.lines.specs.declared.flaw.Flaw.{Flaw}
use Rattle.topology.specs.declared.fault.Fault.{Fault}
use Rattle.topology.specs.declared.fault.Fault.TheVariants.{BadLine, NeverJoined}
use Rattle.topology.specs.declared.node.Node.{Node}
use Rattle.topology.specs.Nodes.{and_then, joined}
use Rattle.topology.specs.Format.{node_at, nodes_on, loose, tree}
use Rattle.topology.specs.Tables.{nodes_in, told}
use Rattle.topology.proofs.Made.{err_ok, ok_inj}
use Rattle.topology.proofs.Turns.{Sofar, sofar_more, sofar_stop, sofar_end}
use Rattle.topology.proofs.table.make.walk.build.Goals as goal

err_inj : {a b : Fault} → ◌≡◌ {A = Result Node Fault} (Err a) (Err b) → a ≡ b
err_inj p = cc

made : (p : Result Node Flaw) (k : ℕ) (r : Result Node Fault) (n : Node) → MatchResult p (λ m. r ≡ Ok m) (λ f. r ≡ Err (BadLine f k)) → r ≡ Ok n → p ≡ Ok n
made (Ok m) k r n h e = ap Ok (ok_inj (sym h ∙ e))
made (Err f) k r n h e = absurd (err_ok (sym h ∙ e))

stopped : (p : Result Node Flaw) (k : ℕ) (r : Result Node Fault) (y : Fault) → MatchResult p (λ m. r ≡ Ok m) (λ f. r ≡ Err (BadLine f k)) → r ≡ Err y → (f : Flaw) × (p ≡ Err f) × (y ≡ BadLine f k)
stopped (Ok m) k r y h e = absurd (err_ok (sym e ∙ h))
stopped (Err f) k r y h e = (f, refl, err_inj (sym e ∙ h))

-- the first line that none joins, of all that were read
ends : (t : List ℕ) (ns : List Node) (o : Option ℕ) → Sofar t ns [] → o ≡ loose (length ns - 1) 0 (λ k. joined k ns) → elim o as (λ _. Result (List Node) Fault) [ None ↦ Ok ns | Some k ↦ Err (NeverJoined (k + 1)) ] ≡ and_then (nodes_on [] (lines_of t)) tree
ends t ns o h e = sym (ap (λ r. and_then r tree) (sofar_end t ns h) ∙ ap (λ x. elim x as (λ _. Result (List Node) Fault) [ None ↦ Ok ns | Some k ↦ Err (NeverJoined (k + 1)) ]) (sym e))

pub returns-in_err-node : goal.returns-in_err-node
returns-in_err-node c =
    let t = c.args.text.now in
    let ns = nodes_in c.loop-line.topology in
    let l = c.in-Some.line.now in
    let y : Fault = c.in_err-node.field-0.0 in
    let s = stopped (node_at ns l) (length ns + 1) c.next_node.result y c.next_node.ensures c.in_err-node.was in
    let h = sofar_stop t ns l (lines_left c.next.new.self) s.0 (subst (Sofar t ns) c.in-Some.ensures.steps c.loop-line.invariant) s.1 in
    let e : told c.from_residual.result ≡ Err y = search rules in
    e ∙ ap Err s.2 ∙ sym (ap (λ r. and_then r tree) h)

pub loop-line-preserved : goal.loop-line-preserved
loop-line-preserved c =
    let t = c.args.text.now in
    let ns = nodes_in c.loop-line.topology in
    let l = c.in-Some.line.now in
    let ls = lines_left c.next.new.self in
    let m = made (node_at ns l) (length ns + 1) c.next_node.result c.in_ok-node.node c.next_node.ensures c.in_ok-node.was in
    subst (λ ms. Sofar t ms ls) (sym c.push.ensures) (sofar_more t ns l ls c.in_ok-node.node (subst (Sofar t ns) c.in-Some.ensures.steps c.loop-line.invariant) m)

pub returns-in-Some-first_loose : goal.returns-in-Some-first_loose
returns-in-Some-first_loose c = let ns = nodes_in c.loop-line.topology in ends c.args.text.now ns (Some c.in-Some-first_loose.k) (subst (Sofar c.args.text.now ns) c.in-None.ensures.steps.0 c.loop-line.invariant) c.in-Some-first_loose.ensures.value

pub returns-in-None-first_loose : goal.returns-in-None-first_loose
returns-in-None-first_loose c = let ns = nodes_in c.loop-line.topology in ends c.args.text.now ns None (subst (Sofar c.args.text.now ns) c.in-None.ensures.steps.0 c.loop-line.invariant) c.in-None-first_loose.ensures.value
