-- What the calls of a pile do, as seen from above. The order of phases, leaves and deniers is one half,
-- the steps left are the other.
use Rattle.std.specs.Prelude.{◌≡◌, ℕ, ◌<◌, Bool, true, false, Some, None, Option}
use Rattle.channel.specs.Means.{tags, leftmost}
use Rattle.channel.specs.Calls.{or_leftmost}
use Rattle.channel.specs.Timing.{Timing}
use Rattle.pile.specs.Views.{End, View, number, AtRequest, AtDenied, Opened}

-- stop: lower, ask. back: raise, drop. tick: step. other: a job
pub data Kind : Type 0 where
  stop : Kind
  back : Kind
  tick : Kind
  other : Kind

-- an accepted stop request
pub record StopAsked (v w : View) : Type 0 where
  pub closed : Opened v.at → ⊥
  pub opens : AtRequest w.at
  pub opened : Opened w.at
  pub clear : w.denier ≡ None
  pub none_denied : leftmost w.leaves ≡ None
  pub same_tags : tags w.leaves ≡ tags v.leaves

-- any other change asked from above, accepted
pub record BackAsked (v w : View) : Type 0 where
  pub closed : Opened v.at → ⊥
  pub opened : Opened w.at
  pub same_tags : tags w.leaves ≡ tags v.leaves

-- a request ends at Denied just where it has a denier
abbrev pub Ended : End → Option ℕ → Type 0
Ended e (Some t) = AtDenied e
Ended e None = AtDenied e → ⊥

-- a step; no step is refused
pub record Ticks (v w : View) : Type 0 where
  pub note : AtRequest v.at → w.denier ≡ or_leftmost v.denier w.leaves
  pub ends : AtRequest v.at → (AtRequest w.at → ⊥) → Ended w.at w.denier
  pub same_tags : tags w.leaves ≡ tags v.leaves

-- a call of this kind, accepted or refused, on a pile seen as v and then as w
abbrev pub Called : Kind → Bool → View → View → Type 0
Called stop true v w = StopAsked v w
Called stop false v w = w ≡ v
Called back true v w = BackAsked v w
Called back false v w = w ≡ v
Called tick true v w = Ticks v w
Called tick false v w = ⊥
Called other true v w = w ≡ v
Called other false v w = w ≡ v

-- a step that keeps an opened phase lowers the steps left
pub record Runs (e f : End) (t u : Timing) : Type 0 where
  pub fewer : Opened e → number f ≡ number e → u.left < t.left
  pub same_bound : u.bound ≡ t.bound

-- the same call, by its steps
abbrev pub Timed : Kind → Bool → End → End → Timing → Timing → Type 0
Timed stop true e f t u = u.bound ≡ t.bound
Timed stop false e f t u = u ≡ t
Timed back true e f t u = u.bound ≡ t.bound
Timed back false e f t u = u ≡ t
Timed tick true e f t u = Runs e f t u
Timed tick false e f t u = ⊥
Timed other true e f t u = u ≡ t
Timed other false e f t u = u ≡ t
