-- What a Q device means: a phase, the leaves below it and a denier; and when these are in order.
use Rattle.std.specs.Prelude.{◌≡◌, ℕ, ◌⊎◌, List, [], ◌∷◌, Some, None, Option}
use Rattle.channel.specs.declared.phase.Phase.{Phase}
use Rattle.channel.specs.declared.phase.Phase.TheVariants.{Run, Request, Stopped, Exit, Denied, Continue}

-- a leaf of the list: its tag, and where its channel stands
pub record Leaf : Type 0 where
  pub tag : ℕ
  pub at : Phase

pub record Means : Type 0 where
  pub phase : Phase
  -- the leaves below, from left to right
  pub leaves : List Leaf
  -- the tag of the first leaf that denied the latest request, if one did
  pub denier : Option ℕ

-- each leaf's phase is as P says
abbrev pub Each : (Phase → Type 0) → List Leaf → Type 0
Each P [] = Unit {0}
Each P (l ∷ ls) = P l.at × Each P ls

abbrev pub tags : List Leaf → List ℕ
tags [] = []
tags (l ∷ ls) = l.tag ∷ tags ls

-- the tag of a leaf that stands at Denied, else what the leaves to its right give
abbrev pub tag_or : Phase → ℕ → Option ℕ → Option ℕ
tag_or Run t rest = rest
tag_or Request t rest = rest
tag_or Stopped t rest = rest
tag_or Exit t rest = rest
tag_or Denied t rest = Some t
tag_or Continue t rest = rest

-- the tag of the leftmost leaf that stands at Denied, if there is one
abbrev pub leftmost : List Leaf → Option ℕ
leftmost [] = None
leftmost (l ∷ ls) = tag_or l.at l.tag (leftmost ls)

-- there is a denier
abbrev pub Has : Option ℕ → Type 0
Has (Some t) = Unit {0}
Has None = ⊥

abbrev pub Lowering : Phase → Type 0
Lowering p = (p ≡ Run) ⊎ (p ≡ Request)

abbrev pub Waking : Phase → Type 0
Waking p = (p ≡ Stopped) ⊎ (p ≡ Exit) ⊎ (p ≡ Run)

abbrev pub Denying : Phase → Type 0
Denying p = (p ≡ Run) ⊎ (p ≡ Denied)

abbrev pub Continuing : Phase → Type 0
Continuing p = (p ≡ Run) ⊎ (p ≡ Continue)

-- what the leaves and the denier may be at each phase
abbrev pub Agrees : Phase → List Leaf → Option ℕ → Type 0
Agrees Run ls d = Each (λ p. p ≡ Run) ls
Agrees Request ls d = d ≡ None → leftmost ls ≡ None
Agrees Stopped ls d = Each (λ p. p ≡ Stopped) ls × (d ≡ None)
Agrees Exit ls d = Each Waking ls × (d ≡ None)
Agrees Denied ls d = Each Denying ls × Has d
Agrees Continue ls d = Each Continuing ls × Has d

-- phase, leaves and denier agree
abbrev pub Sound : Means → Type 0
Sound m = Agrees m.phase m.leaves m.denier
