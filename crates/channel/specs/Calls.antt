-- What the calls of a Q device do to its phase, its leaves and its denier.
use Rattle.std.specs.Prelude.{◌≡◌, ℕ, ◌⊎◌, List, Some, None, Ok, Err, Option, Result}
use Rattle.channel.specs.declared.phase.Phase.{Phase}
use Rattle.channel.specs.declared.phase.Phase.TheVariants.{Run, Request, Stopped, Exit, Denied, Continue}
use Rattle.channel.specs.declared.device.Refusal.{Refusal}
use Rattle.channel.specs.declared.device.Refusal.TheVariants.{LowerNotAtRun, RaiseNotHeld}
use Rattle.channel.specs.Means.{Leaf, Means, Each, tags, leftmost, Lowering}

-- refusals by number
abbrev pub refusal_number : Refusal → ℕ
refusal_number LowerNotAtRun = 20
refusal_number RaiseNotHeld = 21

-- lower is accepted at Run
abbrev pub lower_answer : Phase → Result Unit Refusal
lower_answer Run = Ok tt
lower_answer Request = Err LowerNotAtRun
lower_answer Stopped = Err LowerNotAtRun
lower_answer Exit = Err LowerNotAtRun
lower_answer Denied = Err LowerNotAtRun
lower_answer Continue = Err LowerNotAtRun

-- raise is accepted where a request is held low with its answer given: at Stopped and Denied
abbrev pub raise_answer : Phase → Result Unit Refusal
raise_answer Run = Err RaiseNotHeld
raise_answer Request = Err RaiseNotHeld
raise_answer Stopped = Ok tt
raise_answer Exit = Err RaiseNotHeld
raise_answer Denied = Ok tt
raise_answer Continue = Err RaiseNotHeld

-- an accepted lower
pub record LowerDone (m n : Means) : Type 0 where
  pub to : n.phase ≡ Request
  pub clear : n.denier ≡ None
  pub leaves : Each Lowering n.leaves
  pub same_tags : tags n.leaves ≡ tags m.leaves

-- an accepted raise
pub record RaiseDone (p : Phase) (m n : Means) : Type 0 where
  pub to : n.phase ≡ p
  pub keeps : n.denier ≡ m.denier
  pub same_tags : tags n.leaves ≡ tags m.leaves

-- lower, accepted or refused: a refused one changes nothing
abbrev pub LoweredAt : Phase → Means → Means → Type 0
LoweredAt Run m n = LowerDone m n
LoweredAt Request m n = n ≡ m
LoweredAt Stopped m n = n ≡ m
LoweredAt Exit m n = n ≡ m
LoweredAt Denied m n = n ≡ m
LoweredAt Continue m n = n ≡ m

abbrev pub Lowered : Means → Means → Type 0
Lowered m n = LoweredAt m.phase m n

-- raise, accepted or refused
abbrev pub RaisedAt : Phase → Means → Means → Type 0
RaisedAt Run m n = n ≡ m
RaisedAt Request m n = n ≡ m
RaisedAt Stopped m n = RaiseDone Exit m n
RaisedAt Exit m n = n ≡ m
RaisedAt Denied m n = RaiseDone Continue m n
RaisedAt Continue m n = n ≡ m

abbrev pub Raised : Means → Means → Type 0
Raised m n = RaisedAt m.phase m n

-- where a step may lead
abbrev pub StepTo : Phase → Phase → Type 0
StepTo Run q = q ≡ Run
StepTo Request q = (q ≡ Request) ⊎ (q ≡ Stopped) ⊎ (q ≡ Denied)
StepTo Stopped q = q ≡ Stopped
StepTo Exit q = (q ≡ Exit) ⊎ (q ≡ Run)
StepTo Denied q = q ≡ Denied
StepTo Continue q = (q ≡ Continue) ⊎ (q ≡ Run)

-- a phase that ends by itself, after some steps
abbrev pub Open : Phase → Type 0
Open Run = ⊥
Open Request = Unit {0}
Open Stopped = ⊥
Open Exit = Unit {0}
Open Denied = ⊥
Open Continue = Unit {0}

-- a denier is kept, and where there is none the leftmost leaf at Denied becomes it
abbrev pub or_leftmost : Option ℕ → List Leaf → Option ℕ
or_leftmost (Some t) ls = Some t
or_leftmost None ls = leftmost ls

-- a step notes at Request only
abbrev pub noted : Phase → Option ℕ → List Leaf → Option ℕ
noted Run d ls = d
noted Request d ls = or_leftmost d ls
noted Stopped d ls = d
noted Exit d ls = d
noted Denied d ls = d
noted Continue d ls = d

pub record Stepped (m n : Means) : Type 0 where
  pub to : StepTo m.phase n.phase
  pub still : (Open m.phase → ⊥) → n.leaves ≡ m.leaves
  pub note : n.denier ≡ noted m.phase m.denier n.leaves
  pub same_tags : tags n.leaves ≡ tags m.leaves

-- reset, from any phase
pub record Reset (m n : Means) : Type 0 where
  pub to : n.phase ≡ Stopped
  pub all_stopped : Each (λ p. p ≡ Stopped) n.leaves
  pub none : n.denier ≡ None
  pub same_tags : tags n.leaves ≡ tags m.leaves
