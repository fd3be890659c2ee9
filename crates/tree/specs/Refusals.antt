-- The numbers of a tree's refusals: those of the device and of the work leaf.
use Rattle.std.specs.Prelude.{ℕ}
use Rattle.channel.specs.Calls.{refusal_number}
use Rattle.leaves.specs.Jobs.{job_number}
use Rattle.tree.specs.declared.refusal.TreeRefusal.{TreeRefusal}
use Rattle.tree.specs.declared.refusal.TreeRefusal.TheVariants.{Device, Job}

abbrev pub tree_refusal_number : TreeRefusal → ℕ
tree_refusal_number (Device why) = refusal_number why
tree_refusal_number (Job why) = job_number why
