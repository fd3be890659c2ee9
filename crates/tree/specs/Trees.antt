-- A tree: the nested tree of its last line, and what its calls make of its cells.
use Rattle.std.specs.Prelude.{◌≡◌, ℕ, zero, suc, Bool, cond, List, is_ok}
use Rattle.channel.specs.declared.phase.Phase.{Phase}
use Rattle.channel.specs.declared.phase.Phase.TheVariants.{Stopped}
use Rattle.channel.specs.declared.device.Call.{Call}
use Rattle.channel.specs.declared.device.Call.TheVariants as call
use Rattle.channel.specs.Means.{Means}
use Rattle.channel.specs.Calls.{lower_answer, raise_answer}
use Rattle.channel.specs.Timing.{Timing}
use Rattle.joins.specs.declared.rules.Drive.{Drive}
use Rattle.joins.specs.declared.rules.Drive.TheVariants.{Lower, Raise}
use Rattle.joins.specs.Turns.{driven}
use Rattle.cells.specs.declared.cell.Cell.{Cell}
use Rattle.cells.specs.Bodies.{driven_body}
use Rattle.cells.specs.Nests.{Nest, nest_means, nest_timing, empty_step, drive_nest, nest_after}
use Rattle.cells.specs.Flat.{body_at, put, stepped, reset_to}
use Rattle.tree.specs.declared.state.Tree.{Tree}
use Rattle.tree.specs.Top.{top}

-- the top line, driven
abbrev pub top_driven : Drive → ℕ → List Cell → List Cell
top_driven d zero cs = cs
top_driven d (suc t) cs = put cs t (driven_body d (body_at cs t))

abbrev pub own_driven : Drive → ℕ → Phase → Phase
own_driven d zero own = driven d own
own_driven d (suc t) own = own

abbrev pub own_stepped : ℕ → Phase → Phase
own_stepped zero own = empty_step own
own_stepped (suc t) own = own

-- accepted or not
abbrev pub lowers : Nest → Bool
lowers t = is_ok (lower_answer (nest_means t).phase)

abbrev pub raises : Nest → Bool
raises t = is_ok (raise_answer (nest_means t).phase)

-- the cells after a call: a refused one leaves them as they are
abbrev pub cells_after : Call → ℕ → Phase → List Cell → List Cell
cells_after call.Lower n own cs = cond (lowers (top n own cs)) (top_driven Lower n cs) cs
cells_after call.Raise n own cs = cond (raises (top n own cs)) (top_driven Raise n cs) cs
cells_after call.Step n own cs = stepped n cs
cells_after call.Restart n own cs = reset_to n cs

abbrev pub own_after : Call → ℕ → Phase → List Cell → Phase
own_after call.Lower n own cs = cond (lowers (top n own cs)) (own_driven Lower n own) own
own_after call.Raise n own cs = cond (raises (top n own cs)) (own_driven Raise n own) own
own_after call.Step n own cs = own_stepped n own
own_after call.Restart n own cs = Stopped

abbrev pub lines_of : Tree → List Cell
lines_of t = t.cells.now

abbrev pub tree_nest : Tree → Nest
tree_nest t = top t.count t.own (lines_of t)

abbrev pub tree_means : Tree → Means
tree_means t = nest_means (tree_nest t)

abbrev pub tree_timing : Tree → Timing
tree_timing t = nest_timing (tree_nest t)

-- what a call makes of a tree: its cells to the last field, and the nested tree, which goes as the library's joins do
pub record TreeMade (c : Call) (t u : Tree) : Type 0 where
  pub count : u.count ≡ t.count
  pub cells : lines_of u ≡ cells_after c t.count t.own (lines_of t)
  pub own : u.own ≡ own_after c t.count t.own (lines_of t)
  pub lent : u.cells.ghost_name ≡ t.cells.ghost_name
  pub nested : tree_nest u ≡ nest_after c (tree_nest t)

-- the top, driven
pub record Driven (d : Drive) (t u : Tree) : Type 0 where
  pub count : u.count ≡ t.count
  pub cells : lines_of u ≡ top_driven d t.count (lines_of t)
  pub own : u.own ≡ own_driven d t.count t.own
  pub lent : u.cells.ghost_name ≡ t.cells.ghost_name
  pub nested : tree_nest u ≡ drive_nest d (tree_nest t)
