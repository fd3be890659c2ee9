-- What every leaf shares: it lists itself alone, and denies in its own name.
use Rattle.std.specs.Prelude.{◌≡◌, ℕ, [], ◌∷◌, Some, None, Option}
use Rattle.std.proofs.Props.{props}
use Rattle.channel.specs.declared.phase.Phase.{Phase}
use Rattle.channel.specs.declared.phase.Phase.TheVariants.{Run, Request, Stopped, Exit, Denied, Continue}
use Rattle.channel.specs.declared.end.QEnd.{QEnd}
use Rattle.channel.specs.Means.{Means}

-- the meaning of a leaf
abbrev pub alone : ℕ → QEnd → Means
alone t e = record { phase = e.phase; leaves = (record { tag = t; at = e.phase }) ∷ []; denier = e.denier }

-- the denier is the leaf's own tag, from its denial to the next accepted lower
abbrev pub ToldAt : Phase → ℕ → Option ℕ → Type 0
ToldAt Run t d = Unit {0}
ToldAt Request t d = d ≡ None
ToldAt Stopped t d = d ≡ None
ToldAt Exit t d = d ≡ None
ToldAt Denied t d = d ≡ Some t
ToldAt Continue t d = d ≡ Some t

pub ToldAt-prop : (p : Phase) (t : ℕ) (d : Option ℕ) → IsProp (ToldAt p t d)
ToldAt-prop Run t d = Prim.hlevel props
ToldAt-prop Request t d = Prim.hlevel props
ToldAt-prop Stopped t d = Prim.hlevel props
ToldAt-prop Exit t d = Prim.hlevel props
ToldAt-prop Denied t d = Prim.hlevel props
ToldAt-prop Continue t d = Prim.hlevel props
