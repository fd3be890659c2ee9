-- Job calls: refusals, and what they make of the leaves.
use Rattle.std.specs.Prelude.{◌≡◌, ℕ, ◌+◌, Bool, cond, Ok, Err, Result, ◌==◌, nat_le}
use Rattle.leaves.specs.declared.work.Work.{Work}
use Rattle.leaves.specs.declared.worker.JobRefusal.{JobRefusal}
use Rattle.leaves.specs.declared.worker.JobRefusal.TheVariants.{NoWorkLeaf, TooMany}
use Rattle.leaves.specs.Work.{turned}

-- refusals by number
abbrev pub job_number : JobRefusal → ℕ
job_number NoWorkLeaf = 22
job_number TooMany = 23

-- whether n more jobs fit
abbrev pub room : Work → ℕ → Bool
room w n = nat_le (w.jobs + n) 65535

abbrev pub add_answer : Work → ℕ → Result Unit JobRefusal
add_answer w n = cond (room w n) (Ok tt) (Err TooMany)

abbrev pub after_add : Work → ℕ → Work
after_add w n = cond (room w n) (turned w (w.jobs + n) w.done w.end w.told) w

-- a work leaf takes jobs under its own tag
abbrev pub tagged_answer : ℕ → ℕ → Work → Result Unit JobRefusal
tagged_answer t n w = cond (w.tag == t) (add_answer w n) (Err NoWorkLeaf)

abbrev pub tagged_after : ℕ → ℕ → Work → Work
tagged_after t n w = cond (w.tag == t) (after_add w n) w

-- a device with no work leaf takes none
abbrev pub no_leaf : {S : Type 0} → ℕ → ℕ → S → S → Result Unit JobRefusal → Type 0
no_leaf t n x y r = (y ≡ x) × (r ≡ Err NoWorkLeaf)
