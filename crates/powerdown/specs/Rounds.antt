-- What a change and a request add to the counts.
use Rattle.std.specs.Prelude.{◌≡◌, ℕ, ◌≤◌, Ok, Err, Result}
use Rattle.watch.specs.declared.tally.Ending.{Ending}
use Rattle.watch.specs.declared.tally.Tally.{Tally}
use Rattle.watch.specs.Tally.{with_steps, with_change, with_request, with_answer}

-- a change seen to its end: so many steps, never more than the bound, all counted
pub record Seen (most : ℕ) (t u : Tally) : Type 0 where
  pub steps : ℕ
  pub few : steps ≤ most
  pub counted : u ≡ with_change steps (with_steps steps t)

-- a request, the change that it made, and its answer
pub record Asked (most : ℕ) (e : Ending) (t u : Tally) : Type 0 where
  pub mid : Tally
  pub seen : Seen most (with_request t) mid
  pub answered : u ≡ with_answer e mid

-- a refused call counts nothing
abbrev pub Unless : {E : Type 0} → Result Unit E → Tally → Tally → Type 0 → Type 0
Unless (Ok x) t u made = made
Unless (Err x) t u made = u ≡ t

-- no longest change past the bound, if there was none before
abbrev pub Within : ℕ → Tally → Tally → Type 0
Within most t u = t.longest ≤ most → u.longest ≤ most
