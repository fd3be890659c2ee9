-- A tree whose top is a join shows what is so, as the library's join does.
use Rattle.std.proofs.Common.{◌≡◌, ℕ, zero, suc, Bool, true, false, List, Some, None, Option, sym, refl, ap, ◌∙◌, subst}
use Rattle.channel.specs.declared.phase.Phase.{Phase}
use Rattle.channel.specs.declared.device.Call.{Call}
use Rattle.channel.specs.declared.device.Call.TheVariants as call
use Rattle.channel.specs.Means.{Means}
use Rattle.channel.specs.Calls.{Reset}
use Rattle.joins.specs.declared.rules.Drive.{Drive}
use Rattle.joins.specs.declared.rules.Drive.TheVariants.{Nothing, Lower, Raise}
use Rattle.pile.specs.Views.{q_end, shows, Opened, Begun}
use Rattle.pile.specs.declared.own.QCall.{QCall}
use Rattle.pile.specs.declared.own.QCall.TheVariants as own
use Rattle.words.specs.declared.short.Short.{Short}
use Rattle.pile.specs.Calls.{other, Called, Timed}
use Rattle.pile.specs.OfQ.{q_view, q_kind, q_makes}
use Rattle.pile.specs.Runs.{Linked}
use Rattle.cells.specs.Nests.{Nest, empty, timed_leaf, work_leaf, join, drive_nest, turn, reset_nest, nest_after}
use Rattle.cells.specs.declared.cell.Body.{Body}
use Rattle.cells.specs.declared.cell.Body.TheVariants as body
use Rattle.cells.specs.declared.cell.Cell.{Cell}
use Rattle.cells.specs.Flat.{body_at, is_join, nest_of, nest}
use Rattle.tree.specs.declared.state.Tree.{Tree}
use Rattle.tree.specs.Top.{top}
use Rattle.tree.specs.Nesting.{is_joined}
use Rattle.tree.specs.Trees.{tree_nest, tree_means, tree_timing, TreeMade}
use Rattle.tree.specs.declared.stack.TreeCall.{TreeCall}
use Rattle.tree.specs.declared.stack.TreeCall.TheVariants.{Own, Job}
use Rattle.tree.specs.Stack.{tree_view, TopJoins, tree_kind}
use Rattle.tree.specs.Tells.{top_body}
use Rattle.tree.specs.Ordered.{tree_fits}

-- a call leaves the top what it is
drive_joined : (d : Drive) (n : Nest) → is_joined (drive_nest d n) ≡ is_joined n
drive_joined d (empty p) = refl
drive_joined d (timed_leaf t) = refl
drive_joined d (work_leaf w) = refl
drive_joined d (join k q a b) = refl

turn_joined : (n : Nest) → is_joined (turn Nothing n) ≡ is_joined n
turn_joined (empty p) = refl
turn_joined (timed_leaf t) = refl
turn_joined (work_leaf w) = refl
turn_joined (join k q a b) = refl

reset_joined : (n : Nest) → is_joined (reset_nest n) ≡ is_joined n
reset_joined (empty p) = refl
reset_joined (timed_leaf t) = refl
reset_joined (work_leaf w) = refl
reset_joined (join k q a b) = refl

after_joined : (c : Call) (n : Nest) → is_joined (nest_after c n) ≡ is_joined n
after_joined call.Lower n = drive_joined Lower n
after_joined call.Raise n = drive_joined Raise n
after_joined call.Step n = turn_joined n
after_joined call.Restart n = reset_joined n

pub made_joined : (c : Call) (t u : Tree) → TreeMade c t u → TopJoins t → TopJoins u
made_joined c t u m j = ap is_joined m.nested ∙ (after_joined c (tree_nest t) ∙ j)

-- where a run begins
pub tree_begun : (m n : Means) → Reset m n → Begun (q_view n)
tree_begun m n r = record {
  shows_stopped = ap (λ p. shows (q_end p)) r.to;
  closed = λ o. elim (subst (λ p. Opened (q_end p)) r.to o) [ ];
  all_stopped = r.all_stopped;
  none = r.none;
}

own_joined : (q : QCall) (b : Bool) (t u : Tree) → q_makes tree_means TreeMade q b t u → TopJoins t → TopJoins u
own_joined own.Lower b t u m j = made_joined call.Lower t u m.1 j
own_joined own.Raise b t u m j = made_joined call.Raise t u m.1 j
own_joined own.Step b t u m j = made_joined call.Step t u m.1 j

-- lower, raise and step as calls of a pile
pub own_linked : (q : QCall) (b : Bool) (t u : Tree) → q_makes tree_means TreeMade q b t u
    → Called (q_kind q) b (tree_view t) (tree_view u)
    → Timed (q_kind q) b (tree_view t).at (tree_view u).at (tree_timing t) (tree_timing u)
    → TopJoins t → Linked TopJoins tree_view tree_timing (q_kind q) b t u
own_linked q b t u m c d j = record { called = c; timed = d; fit = tree_fits u (own_joined q b t u m j) }

-- an own call, told as the tree's
pub own_linked_as : (k : TreeCall) (q : QCall) (a b : Bool) (t u : Tree) → k ≡ Own q → a ≡ b
    → Linked TopJoins tree_view tree_timing (q_kind q) b t u → Linked TopJoins tree_view tree_timing (tree_kind k) a t u
own_linked_as k q a b t u e f l =
    subst (λ z. Linked TopJoins tree_view tree_timing (tree_kind z) a t u) (sym e)
    (subst (λ z. Linked TopJoins tree_view tree_timing (q_kind q) z t u) (sym f) l)

-- jobs change nothing that is seen
pub job_linked : (k : TreeCall) (w : Short 12) (n : ℕ) (b : Bool) (t u : Tree) → k ≡ Job w n → tree_means u ≡ tree_means t → tree_timing u ≡ tree_timing t
    → is_joined (tree_nest u) ≡ is_joined (tree_nest t) → TopJoins t → Linked TopJoins tree_view tree_timing (tree_kind k) b t u
job_linked k w n b t u e m p i j = subst (λ z. Linked TopJoins tree_view tree_timing (tree_kind z) b t u) (sym e) (by b)
  where
    by : (b : Bool) → Linked TopJoins tree_view tree_timing other b t u
    by true = record { called = ap q_view m; timed = p; fit = tree_fits u (i ∙ j) }
    by false = record { called = ap q_view m; timed = p; fit = tree_fits u (i ∙ j) }

nest_joined : (b : Body) (f : ℕ → Nest) → is_join b ≡ is_joined (nest_of b f)
nest_joined body.Blank f = refl
nest_joined (body.Timed t) f = refl
nest_joined (body.Work w) f = refl
nest_joined (body.Join k a b q) f = refl

-- whether the top line's device joins two
abbrev pub joins_of : Option Body → Bool
joins_of None = false
joins_of (Some b) = is_join b

pub top_joined : (n : ℕ) (own : Phase) (cs : List Cell) → joins_of (top_body n cs) ≡ is_joined (top n own cs)
unfolding nest
top_joined zero own cs = refl
top_joined (suc t) own cs = nest_joined (body_at cs t) (nest t cs)
