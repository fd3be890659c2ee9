-- A job call on a join: the first device takes the jobs, else the second.
use Rattle.std.specs.Prelude.{◌≡◌, ℕ, Ok, Err, Result}
use Rattle.leaves.specs.declared.worker.JobRefusal.{JobRefusal}
use Rattle.leaves.specs.declared.worker.JobRefusal.TheVariants.{NoWorkLeaf, TooMany}
use Rattle.joins.specs.declared.join.Join.{Join}

-- only where the first has no such leaf is the second asked
abbrev pub Then : {B : Type 0} → (B → B → Result Unit JobRefusal → Type 0) → Result Unit JobRefusal → B → B → Result Unit JobRefusal → Type 0
Then takes (Ok u) x y r = (y ≡ x) × (r ≡ Ok u)
Then takes (Err NoWorkLeaf) x y r = takes x y r
Then takes (Err TooMany) x y r = (y ≡ x) × (r ≡ Err TooMany)

module _ {R A B : Type 0} where
  pub record JobMade (ta : ℕ → ℕ → A → A → Result Unit JobRefusal → Type 0)
      (tb : ℕ → ℕ → B → B → Result Unit JobRefusal → Type 0) (t n : ℕ) (i j : Join R A B) (o : Result Unit JobRefusal) : Type 0 where
    pub first_answer : Result Unit JobRefusal
    pub first_took : ta t n i.first j.first first_answer
    pub second_took : Then (tb t n) first_answer i.second j.second o
    pub same_end : j.end ≡ i.end
