-- The steps left of a timed leaf's phase.
use Rattle.std.specs.Prelude.{◌≡◌, ℕ, ◌-◌, ◌≤◌, Bool, true, false, cond, nat_lt, Some}
use Rattle.std.proofs.Props.{props}
use Rattle.channel.specs.declared.phase.Phase.{Phase}
use Rattle.channel.specs.declared.phase.Phase.TheVariants.{Run, Request, Stopped, Exit, Denied, Continue}
use Rattle.channel.specs.declared.end.QEnd.{QEnd}
use Rattle.channel.specs.Ends.{end_at}
use Rattle.leaves.specs.declared.delays.Delays.{Delays}

-- the steps left are those of the phase's own delay
abbrev pub LeftAt : Phase → Delays → ℕ → Type 0
LeftAt Run d n = n ≡ 0
LeftAt Request d n = (1 ≤ n) × (n ≤ d.answer)
LeftAt Stopped d n = n ≡ 0
LeftAt Exit d n = (1 ≤ n) × (n ≤ d.wake)
LeftAt Denied d n = n ≡ 0
LeftAt Continue d n = n ≡ 1

pub LeftAt-prop : (p : Phase) (d : Delays) (n : ℕ) → IsProp (LeftAt p d n)
LeftAt-prop Run d n = Prim.hlevel props
LeftAt-prop Request d n = Prim.hlevel props
LeftAt-prop Stopped d n = Prim.hlevel props
LeftAt-prop Exit d n = Prim.hlevel props
LeftAt-prop Denied d n = Prim.hlevel props
LeftAt-prop Continue d n = Prim.hlevel props

-- an accepted lower opens the answer's delay
abbrev pub left_lowered : Phase → Delays → ℕ → ℕ
left_lowered Run d n = d.answer
left_lowered Request d n = n
left_lowered Stopped d n = n
left_lowered Exit d n = n
left_lowered Denied d n = n
left_lowered Continue d n = n

-- an accepted raise opens the delay of waking, or one step
abbrev pub left_raised : Phase → Delays → ℕ → ℕ
left_raised Run d n = n
left_raised Request d n = n
left_raised Stopped d n = d.wake
left_raised Exit d n = n
left_raised Denied d n = 1
left_raised Continue d n = n

-- a step takes one from the steps left
abbrev pub left_stepped : Phase → ℕ → ℕ
left_stepped Run n = n
left_stepped Request n = n - 1
left_stepped Stopped n = n
left_stepped Exit n = n - 1
left_stepped Denied n = n
left_stepped Continue n = 0

-- the answer at the end of the delay
abbrev pub answered : Bool → ℕ → QEnd → QEnd
answered true t e = record { phase = Denied; denier = Some t }
answered false t e = end_at Stopped e

abbrev pub stepped_at : Phase → Bool → ℕ → ℕ → QEnd → QEnd
stepped_at Run b t n e = e
stepped_at Request b t n e = cond (nat_lt 1 n) e (answered b t e)
stepped_at Stopped b t n e = e
stepped_at Exit b t n e = cond (nat_lt 1 n) e (end_at Run e)
stepped_at Denied b t n e = e
stepped_at Continue b t n e = end_at Run e

-- a step of a leaf with n steps left, tag t, and b where the open request is one to deny
abbrev pub end_stepped : Bool → ℕ → ℕ → QEnd → QEnd
end_stepped b t n e = stepped_at e.phase b t n e
