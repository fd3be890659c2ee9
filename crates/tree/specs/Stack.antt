-- A tree as a pile: what is seen of it, and its own calls.
use Rattle.std.specs.Prelude.{◌≡◌, ℕ, Bool, true, List, is_ok, Ok, Err, Result}
use Rattle.leaves.specs.declared.worker.JobRefusal.{JobRefusal}
use Rattle.words.specs.Names.{text_of}
use Rattle.pile.specs.Views.{View}
use Rattle.pile.specs.Calls.{Kind, other}
use Rattle.pile.specs.OfQ.{q_view, q_kind, q_answer, q_makes}
use Rattle.tree.specs.declared.state.Tree.{Tree}
use Rattle.tree.specs.declared.stack.TreeCall.{TreeCall}
use Rattle.tree.specs.declared.stack.TreeCall.TheVariants.{Own, Job}
use Rattle.tree.specs.declared.refusal.TreeRefusal.{TreeRefusal}
use Rattle.tree.specs.declared.refusal.TreeRefusal.TheVariants as refused
use Rattle.tree.specs.Nesting.{is_joined}
use Rattle.tree.specs.Trees.{lines_of, tree_nest, tree_means, TreeMade}
use Rattle.tree.specs.Jobs.{line_named, job_answer, JobMade}

abbrev pub tree_view : Tree → View
tree_view t = q_view (tree_means t)

-- the top line joins two lines
abbrev pub TopJoins : Tree → Type 0
TopJoins t = is_joined (tree_nest t) ≡ true

abbrev pub tree_kind : TreeCall → Kind
tree_kind (Own q) = q_kind q
tree_kind (Job w n) = other

-- the same answer, its refusal told as the tree's
abbrev pub told_as : {E : Type 0} → (E → TreeRefusal) → Result Unit E → Result Unit TreeRefusal
told_as f (Ok u) = Ok u
told_as f (Err e) = Err (f e)

-- what a call answers, by the tree before it
abbrev pub tree_answer : TreeCall → Tree → Result Unit TreeRefusal
tree_answer (Own q) t = told_as refused.Device (q_answer q (tree_means t).phase)
tree_answer (Job w n) t = told_as refused.Job (job_answer (line_named t.count (lines_of t) (text_of w)) (lines_of t) n)

-- a job call, accepted just where its answer is no refusal
pub record JobCalled (w : List ℕ) (n : ℕ) (b : Bool) (t u : Tree) : Type 0 where
  pub answer : Result Unit JobRefusal
  pub accepted : b ≡ is_ok answer
  pub made : JobMade w n t u answer

abbrev pub call_makes : TreeCall → Bool → Tree → Tree → Type 0
call_makes (Own q) b t u = q_makes tree_means TreeMade q b t u
call_makes (Job w n) b t u = JobCalled (text_of w) n b t u

-- nothing changed
pub record Untouched (t u : Tree) : Type 0 where
  pub count : u.count ≡ t.count
  pub cells : lines_of u ≡ lines_of t
  pub own : u.own ≡ t.own
  pub lent : u.cells.ghost_name ≡ t.cells.ghost_name
