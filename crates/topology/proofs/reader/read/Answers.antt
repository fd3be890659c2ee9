use Rattle.std.proofs.Common.{◌≡◌, ℕ, ◌≤◌, true, List, length, is_ok, IfOk, Ok, Err, Result, sym, refl, ap, ◌∙◌, subst, arith}
use Rattle.topology.specs.declared.fault.Fault.{Fault}
use Rattle.topology.specs.declared.node.Node.{Node}
use Rattle.topology.specs.declared.table.Topology.{Topology}
use Rattle.topology.specs.Format.{outcome}
use Rattle.topology.specs.Tables.{nodes_in, told, ReadAlone}
use Rattle.topology.specs.Trees.{WellFormed}
use Rattle.topology.specs.Printed.{printed, OfFormat}
use Rattle.topology.proofs.Grown.{accepted, well_formed, node_count}
use Rattle.topology.proofs.Made.{err_ok}
use Rattle.topology.proofs.Prints.{prints_back}
use Rattle.topology.proofs.Exact.{reads_print}
use Rattle.topology.proofs.reader.read.Goals as goal

-- what an outcome with nodes tells of a topology
of_ok : (P : List Node → Type 0) (t : List ℕ) (cells : ℕ) → ((ns : List Node) → outcome t cells ≡ Ok ns → P ns) → (r : Result Topology Fault) → told r ≡ outcome t cells → IfOk r (λ x. P (nodes_in x))
of_ok P t cells f (Ok x) e = f (nodes_in x) (sym e)
of_ok P t cells f (Err y) e = tt

accepts_ok : (t : List ℕ) (cells : ℕ) (r : Result Topology Fault) → told r ≡ outcome t cells → is_ok r ≡ true → OfFormat t cells
accepts_ok t cells (Ok x) e h =
    let p = accepted t cells (nodes_in x) (sym e) in
    record { nodes = nodes_in x; well_formed = well_formed t cells (nodes_in x) p; text = prints_back t cells (nodes_in x) (sym e); short = p.short; room = node_count t cells (nodes_in x) p }
accepts_ok t cells (Err y) e h = let z : ◌≡◌ {A = ℕ} 0 1 = cc in absurd (omega arith)

accepts_all : (t : List ℕ) (cells : ℕ) (r : Result Topology Fault) → told r ≡ outcome t cells → OfFormat t cells → is_ok r ≡ true
accepts_all t cells (Ok x) e f = refl
accepts_all t cells (Err y) e f =
    let short = subst (λ s. length s ≤ 8192) (sym f.text) f.short in
    let read = reads_print f.nodes cells f.well_formed short f.room in
    absurd (err_ok (e ∙ ap (λ s. outcome s cells) (sym f.text) ∙ read))

pub returns : goal.returns
returns c =
    let t = c.args.text.now in
    let m = c.args.cells in
    let r = c.attempt.result in
    let e = c.attempt.ensures in
    record {
      exact = e;
      accepts = (accepts_ok t m r e, accepts_all t m r e);
      sound = of_ok WellFormed t m (λ ns p. well_formed t m ns (accepted t m ns p)) r e;
      fits = of_ok (λ ns. length ns ≤ m) t m (λ ns p. node_count t m ns (accepted t m ns p)) r e;
      prints = of_ok (λ ns. printed ns ≡ t) t m (prints_back t m) r e;
      alone = of_ok (ReadAlone t) t m (λ ns p other n q. sym (prints_back other n ns q) ∙ prints_back t m ns p) r e;
    }
