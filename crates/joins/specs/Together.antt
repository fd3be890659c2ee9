-- What a join means, and how its own phase and denier go with its two devices.
use Rattle.std.specs.Prelude.{◌≡◌, ℕ, ◌⊎◌, ◌++◌, is_some, Some, None, Option, ◌≢◌}
use Rattle.channel.specs.declared.phase.Phase.{Phase}
use Rattle.channel.specs.declared.phase.Phase.TheVariants.{Run, Request, Stopped, Exit, Denied, Continue}
use Rattle.channel.specs.Means.{Means, Has, Waking}
use Rattle.joins.specs.Rules.{heard, noted_from, decided}
use Rattle.joins.specs.declared.rules.Kind.{Kind}
use Rattle.joins.specs.declared.rules.Kind.TheVariants.{Distributor, Sequencer}

-- a join's own phase and denier over the first's leaves, then the second's
abbrev pub joined : Phase → Option ℕ → Means → Means → Means
joined p d a b = record { phase = p; leaves = a.leaves ++ b.leaves; denier = d }

-- a device that has not denied the request at hand
abbrev pub Asking : Means → Type 0
Asking m = (m.phase ≡ Run) ⊎ (m.phase ≡ Stopped) ⊎ ((m.phase ≡ Request) × (m.denier ≡ None))

-- a device that is not going to stop
abbrev pub Firm : Means → Type 0
Firm m =
    (m.phase ≡ Run) ⊎ (m.phase ≡ Denied) ⊎ (m.phase ≡ Continue)
    ⊎ ((m.phase ≡ Request) × Has m.denier)

pub record Both (p : Phase) (a b : Means) : Type 0 where
  pub first : a.phase ≡ p
  pub second : b.phase ≡ p

abbrev pub NotBothRun : Means → Means → Type 0
NotBothRun a b = a.phase ≡ Run → b.phase ≢ Run

-- at Request: without a denier no device has denied; with one some device is not going to stop
abbrev pub Holding : Option ℕ → Means → Means → Type 0
Holding None a b = Asking a × Asking b
Holding (Some t) a b = (Firm a ⊎ Firm b) × NotBothRun a b

abbrev pub Together : Phase → Option ℕ → Means → Means → Type 0
Together Run d a b = Both Run a b
Together Request d a b = Holding d a b
Together Stopped d a b = Both Stopped a b × (d ≡ None)
Together Exit d a b = Waking a.phase × Waking b.phase × NotBothRun a b × (d ≡ None)
Together Denied d a b = Both Run a b × Has d
Together Continue d a b = Both Run a b × Has d

-- below a sequencer the first is stopped whenever the second does not run
abbrev pub InSequence : Kind → Means → Means → Type 0
InSequence Distributor a b = Unit {0}
InSequence Sequencer a b = (b.phase ≡ Run) ⊎ (a.phase ≡ Stopped)

-- a join's denier and phase after a step, from what its devices then are
abbrev pub denier_after : Phase → Option ℕ → Means → Means → Option ℕ
denier_after p d a b = noted_from p d (heard a.phase a.denier) (heard b.phase b.denier)

abbrev pub phase_after : Phase → Option ℕ → Means → Means → Phase
phase_after p d a b = decided p (is_some (denier_after p d a b)) a.phase b.phase
