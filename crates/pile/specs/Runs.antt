-- The promise, as a law over whole runs of a pile's own calls.
use Rattle.std.specs.Prelude.{◌≡◌, ℕ, ◌+◌, ◌<◌, Bool, true, ◌⊎◌, List, [], ◌∷◌, ◌++◌, Some, None, Option, ◌≢◌}
use Rattle.channel.specs.declared.phase.Phase.TheVariants.{Denied}
use Rattle.channel.specs.Means.{Leaf, leftmost}
use Rattle.channel.specs.Timing.{Timing}
use Rattle.pile.specs.Views.{View, number, AtDenied, Truly, InTime, Begun}
use Rattle.pile.specs.Calls.{Kind, stop, back, tick, other, Called, Timed}

-- a call, whether it was accepted, and the pile after it
pub record Moment (S C : Type 0) : Type 0 where
  pub call : C
  pub accepted : Bool
  pub state : S

-- some leaf stands at Denied
abbrev pub Standing : List Leaf → Type 0
Standing [] = ⊥
Standing (l ∷ ls) = (l.at ≡ Denied) ⊎ Standing ls

-- some leaf stood denied after some of these calls
abbrev pub Stood : List View → Type 0
Stood [] = ⊥
Stood (v ∷ vs) = Standing v.leaves ⊎ Stood vs

-- the first if there is one, else the second
abbrev pub or_then : Option ℕ → Option ℕ → Option ℕ
or_then (Some t) e = Some t
or_then None e = e

-- the tag of the earliest such leaf, the leftmost on a tie
abbrev pub earliest : List View → Option ℕ
earliest [] = None
earliest (v ∷ vs) = or_then (leftmost v.leaves) (earliest vs)

-- how a stop request ended at w, with the views from the request to its end
pub record Answered (w : View) (vs : List View) : Type 0 where
  pub denied_then : AtDenied w.at → Stood vs
  pub then_denied : Stood vs → AtDenied w.at
  pub told : AtDenied w.at → w.denier ≡ earliest vs

-- a change that was asked from above
abbrev pub Asks : Kind → Type 0
Asks stop = Unit {0}
Asks back = Unit {0}
Asks tick = ⊥
Asks other = ⊥

abbrev pub one_step : Kind → ℕ
one_step stop = 0
one_step back = 0
one_step tick = 1
one_step other = 0

-- a pile in order: what it shows is so, and it is in time
pub record Fit {S : Type 0} (ordered : S → Type 0) (view : S → View) (timing : S → Timing) (x : S) : Type 0 where
  pub own : ordered x
  pub truly : Truly (view x)
  pub in_time : InTime (view x).at (timing x)

-- a call does what its kind does, and leaves the pile in order
pub record Linked {S : Type 0} (ordered : S → Type 0) (view : S → View) (timing : S → Timing) (k : Kind) (accepted : Bool)
    (x y : S) : Type 0 where
  pub called : Called k accepted (view x) (view y)
  pub timed : Timed k accepted (view x).at (view y).at (timing x) (timing y)
  pub fit : Fit ordered view timing y

module _ {S C : Type 0} where
  -- the pile after a run
  abbrev pub last : S → List (Moment S C) → S
  last x [] = x
  last x (k ∷ ks) = last k.state ks

  abbrev pub calls_of : List (Moment S C) → List C
  calls_of [] = []
  calls_of (k ∷ ks) = k.call ∷ calls_of ks

  abbrev pub views : (S → View) → List (Moment S C) → List View
  views view [] = []
  views view (k ∷ ks) = view k.state ∷ views view ks

  -- after each of these calls the pile is in the phase of this number
  abbrev pub AllIn : (S → View) → ℕ → List (Moment S C) → Type 0
  AllIn view n [] = Unit {0}
  AllIn view n (k ∷ ks) = (number (view k.state).at ≡ n) × AllIn view n ks

  -- how many of these calls are steps
  abbrev pub steps : (C → Kind) → List (Moment S C) → ℕ
  steps kind [] = 0
  steps kind (k ∷ ks) = one_step (kind k.call) + steps kind ks

  -- one call: what its contract says of the whole value, and what is seen from above
  pub record Link (ordered : S → Type 0) (view : S → View) (timing : S → Timing) (kind : C → Kind)
      (makes : C → Bool → S → S → Type 0) (x : S) (k : Moment S C) : Type 0 where
    pub made : makes k.call k.accepted x k.state
    pub linked : Linked ordered view timing (kind k.call) k.accepted x k.state

  -- a run of the pile's own calls, nothing between them
  abbrev pub Play : (ordered : S → Type 0) (view : S → View) (timing : S → Timing) (kind : C → Kind)
      (makes : C → Bool → S → S → Type 0) → S → List (Moment S C) → Type 0
  Play ordered view timing kind makes x [] = Unit {0}
  Play ordered view timing kind makes x (k ∷ ks) =
      Link ordered view timing kind makes x k × Play ordered view timing kind makes k.state ks

  -- the promise, of one run from x
  pub record Kept (view : S → View) (timing : S → Timing) (kind : C → Kind) (x : S) (run : List (Moment S C)) : Type 0 where
    -- at the start and after each call what is shown is so
    pub shown : (before after : List (Moment S C)) → run ≡ before ++ after → Truly (view (last x before))
    -- each stop request that has ended was denied just when some leaf stood denied during it, and told the earliest
    pub answered : (before : List (Moment S C)) (ask : Moment S C) (during : List (Moment S C)) (end : Moment S C) (after : List (Moment S C))
        → run ≡ before ++ (ask ∷ (during ++ (end ∷ after)))
        → kind ask.call ≡ stop → ask.accepted ≡ true
        → AllIn view (number (view ask.state).at) during
        → (number (view end.state).at ≢ number (view ask.state).at)
        → Answered (view end.state) (views view (ask ∷ (during ++ (end ∷ []))))
    -- each change asked from above has left the phase it opened by the step numbered as the bound
    pub bounded : (before : List (Moment S C)) (ask : Moment S C) (during after : List (Moment S C))
        → run ≡ before ++ (ask ∷ (during ++ after))
        → Asks (kind ask.call) → ask.accepted ≡ true
        → AllIn view (number (view ask.state).at) during
        → steps kind during < (timing x).bound

  -- the promise, of every run from every pile in order
  abbrev pub Every : (ordered : S → Type 0) (view : S → View) (timing : S → Timing) (kind : C → Kind)
      (makes : C → Bool → S → S → Type 0) → Type 0
  Every ordered view timing kind makes =
      (x : S) (run : List (Moment S C)) → Fit ordered view timing x → Play ordered view timing kind makes x run
      → Kept view timing kind x run

  -- these calls were played from the reset pile, to this end, and the promise was kept
  pub record Promised (ordered : S → Type 0) (view : S → View) (timing : S → Timing) (kind : C → Kind)
      (makes : C → Bool → S → S → Type 0) (resets : S → S → Type 0) (calls : List C) (start end : S) : Type 0 where
    pub begin : S
    pub run : List (Moment S C)
    pub reset : resets start begin
    pub begun : Begun (view begin)
    pub fit : Fit ordered view timing begin
    pub play : Play ordered view timing kind makes begin run
    pub these : calls_of run ≡ calls
    pub ends : last begin run ≡ end
    pub kept : Kept view timing kind begin run
