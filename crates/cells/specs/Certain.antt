-- What the type of a tree holds, as it stands: an order of which a proof is known to exist.
use Rattle.std.proofs.Props.{props}
use Rattle.std.proofs.Math.Logic.{∥∥₁_elim}
use Rattle.channel.specs.declared.phase.Phase.{Phase}
use Rattle.channel.specs.declared.phase.Phase.TheVariants.{Run, Request, Stopped, Exit, Denied, Continue}
use Rattle.joins.specs.Certain.{together_certain, sequence_certain}
use Rattle.cells.specs.Nests.{Nest, empty, timed_leaf, work_leaf, join, nest_means, EmptyAt, NestOrder}

empty_certain : (p : Phase) → ∥ EmptyAt p ∥₁ → EmptyAt p
empty_certain Run h = tt
empty_certain Request h = tt
empty_certain Stopped h = tt
empty_certain Exit h = tt
empty_certain Denied h = ∥∥₁_elim h (Prim.hlevel props) (λ x. x)
empty_certain Continue h = ∥∥₁_elim h (Prim.hlevel props) (λ x. x)

pub nest_certain : (t : Nest) → ∥ NestOrder t ∥₁ → NestOrder t
nest_certain (empty p) h = empty_certain p h
nest_certain (timed_leaf t) h = tt
nest_certain (work_leaf w) h = tt
nest_certain (join k q a b) h = (
  nest_certain a (∥∥₁_elim h (Prim.hlevel props) (λ x. ∣ x.0 ∣₁)),
  nest_certain b (∥∥₁_elim h (Prim.hlevel props) (λ x. ∣ x.1 ∣₁)),
  together_certain q.phase q.denier (nest_means a) (nest_means b) (∥∥₁_elim h (Prim.hlevel props) (λ x. ∣ x.2 ∣₁)),
  sequence_certain k (nest_means a) (nest_means b) (∥∥₁_elim h (Prim.hlevel props) (λ x. ∣ x.3 ∣₁)),
)
