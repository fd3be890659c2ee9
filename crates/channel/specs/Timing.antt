-- How long a Q device may take: its bound, and the steps left in an open phase.
use Rattle.std.specs.Prelude.{◌≡◌, ℕ, ◌<◌, ◌≤◌, Ok, Err, Result}
use Rattle.channel.specs.declared.phase.Phase.{Phase}
use Rattle.channel.specs.declared.device.Refusal.{Refusal}
use Rattle.channel.specs.Calls.{Open}

pub record Timing : Type 0 where
  -- the most steps that an open phase lasts; it never changes
  pub bound : ℕ
  -- the steps left in an open phase
  pub left : ℕ

-- in an open phase at least one step is left, and never more than the bound
pub record Timely (p : Phase) (t : Timing) : Type 0 where
  pub bounded : 1 ≤ t.bound
  pub some_left : Open p → 1 ≤ t.left
  pub at_most : Open p → t.left ≤ t.bound

-- lower and raise keep the bound; a refused one keeps the steps left too
abbrev pub Charged : Result Unit Refusal → Timing → Timing → Type 0
Charged (Ok v) t u = u.bound ≡ t.bound
Charged (Err e) t u = u ≡ t

-- a step that keeps an open phase lowers the steps left
pub record Ticked (p q : Phase) (t u : Timing) : Type 0 where
  pub fewer : Open p → q ≡ p → u.left < t.left
  pub same_bound : u.bound ≡ t.bound
