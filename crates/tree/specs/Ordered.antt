-- A tree is in order, and one whose top joins two lines shows what is so.
use Rattle.std.proofs.Common.{◌≡◌, true, false, refl}
use Rattle.std.proofs.lemmas.Bool.{both_ways}
use Rattle.channel.specs.Device.{InOrder}
use Rattle.pile.specs.Views.{Truly}
use Rattle.pile.specs.OfQ.{q_view}
use Rattle.pile.specs.Runs.{Fit}
use Rattle.joins.specs.Shows.{join_truly, q_in_time}
use Rattle.cells.specs.Nests.{Nest, empty, timed_leaf, work_leaf, join, nest_means, NestOrder}
use Rattle.cells.specs.Certain.{nest_certain}
use Rattle.cells.specs.Ordered.{nest_in_order}
use Rattle.tree.specs.declared.state.Tree.{Tree}
use Rattle.tree.specs.Nesting.{is_joined}
use Rattle.tree.specs.Trees.{tree_nest, tree_means, tree_timing}
use Rattle.tree.specs.Stack.{tree_view, TopJoins}

pub tree_order : (t : Tree) → NestOrder (tree_nest t)
tree_order t = nest_certain (tree_nest t) t.order

pub tree_in_order : (t : Tree) → InOrder tree_means tree_timing t
tree_in_order t = let i = nest_in_order (tree_nest t) (tree_order t) in record { sound = i.sound; timely = i.timely }

nest_truly : (n : Nest) → NestOrder n → is_joined n ≡ true → Truly (q_view (nest_means n))
nest_truly (empty p) o j = let z : ⊥ = both_ways false refl j in elim z [ ]
nest_truly (timed_leaf t) o j = let z : ⊥ = both_ways false refl j in elim z [ ]
nest_truly (work_leaf w) o j = let z : ⊥ = both_ways false refl j in elim z [ ]
nest_truly (join k q a b) o j =
    join_truly q.phase q.denier (nest_means a) (nest_means b) (nest_in_order a o.0).sound (nest_in_order b o.1).sound o.2

pub tree_fits : (t : Tree) → TopJoins t → Fit TopJoins tree_view tree_timing t
tree_fits t j = record {
  own = j;
  truly = nest_truly (tree_nest t) (tree_order t) j;
  in_time = q_in_time (tree_means t).phase (tree_timing t) (tree_in_order t).timely;
}
