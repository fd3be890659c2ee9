-- What is seen of a pile from above: where its channel stands, what it shows, its leaves and its denier.
use Rattle.std.specs.Prelude.{◌≡◌, ℕ, ◌≤◌, List, None, Option}
use Rattle.channel.specs.declared.phase.Phase.{Phase}
use Rattle.channel.specs.declared.phase.Phase.TheVariants.{Run, Request, Stopped, Exit, Denied, Continue}
use Rattle.channel.specs.declared.pphase.PPhase.{PPhase}
use Rattle.channel.specs.declared.pphase.PPhase.TheVariants as p
use Rattle.channel.specs.Phases.{number_of}
use Rattle.channel.specs.PPhases.{p_number}
use Rattle.channel.specs.Means.{Leaf, Each}
use Rattle.channel.specs.Timing.{Timing}

-- what a power state is: one to stop in, or one to run in
pub data Power : Type 0 where
  stop_state : Power
  run_state : Power

-- the upper end of a pile: a Q-Channel, or a P-Channel with its power state
pub data End : Type 0 where
  q_end : Phase → End
  p_end : PPhase → Power → End

pub data Shown : Type 0 where
  stopped : Shown
  running : Shown
  denied : Shown
  nothing : Shown

abbrev state_shows : Power → Shown
state_shows stop_state = stopped
state_shows run_state = running

-- what an end shows
abbrev pub shows : End → Shown
shows (q_end Run) = running
shows (q_end Request) = nothing
shows (q_end Stopped) = stopped
shows (q_end Exit) = nothing
shows (q_end Denied) = denied
shows (q_end Continue) = denied
shows (p_end p.Stable s) = state_shows s
shows (p_end p.Request s) = nothing
shows (p_end p.Accept s) = state_shows s
shows (p_end p.Complete s) = state_shows s
shows (p_end p.Denied s) = denied
shows (p_end p.Continue s) = denied

-- the number of the phase; Request has 1 and Denied 4 on both channels
abbrev pub number : End → ℕ
number (q_end q) = number_of q
number (p_end q s) = p_number q

abbrev pub AtRequest : End → Type 0
AtRequest e = number e ≡ 1

abbrev pub AtDenied : End → Type 0
AtDenied e = number e ≡ 4

-- a phase that a call from above opens, and that ends by itself
abbrev pub Opened : End → Type 0
Opened (q_end Run) = ⊥
Opened (q_end Request) = Unit {0}
Opened (q_end Stopped) = ⊥
Opened (q_end Exit) = Unit {0}
Opened (q_end Denied) = ⊥
Opened (q_end Continue) = Unit {0}
Opened (p_end p.Stable s) = ⊥
Opened (p_end p.Request s) = Unit {0}
Opened (p_end p.Accept s) = ⊥
Opened (p_end p.Complete s) = Unit {0}
Opened (p_end p.Denied s) = ⊥
Opened (p_end p.Continue s) = Unit {0}

pub record View : Type 0 where
  pub at : End
  -- the leaves below, from left to right
  pub leaves : List Leaf
  pub denier : Option ℕ

-- what is shown is so
pub record Truly (v : View) : Type 0 where
  pub stops : shows v.at ≡ stopped → Each (λ q. q ≡ Stopped) v.leaves
  pub runs : shows v.at ≡ running → Each (λ q. q ≡ Run) v.leaves
  pub denies : shows v.at ≡ denied → Each (λ q. q ≡ Run) v.leaves

-- in an opened phase a step is left, and never more than the bound
pub record InTime (e : End) (t : Timing) : Type 0 where
  pub some_left : Opened e → 1 ≤ t.left
  pub at_most : Opened e → t.left ≤ t.bound

-- just made, loaded or reset
pub record Begun (v : View) : Type 0 where
  pub shows_stopped : shows v.at ≡ stopped
  pub closed : Opened v.at → ⊥
  pub all_stopped : Each (λ q. q ≡ Stopped) v.leaves
  pub none : v.denier ≡ None
