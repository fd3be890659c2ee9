-- Edges followed one after the other, from the phases of all channels before to those after.
use Rattle.std.specs.Prelude.{◌≡◌, ℕ, true, cond, List, [], ◌∷◌, ◌==◌}
use Rattle.channel.specs.declared.phase.Phase.{Phase}
use Rattle.channel.specs.Phases.{allowed}
use Rattle.edges.specs.Edges.{Edge}

-- the phases after one edge
abbrev pub moved : (ℕ → Phase) → Edge → ℕ → Phase
moved f e i = cond (i == e.line) e.to (f i)

-- from the phases f the edges lead to g, and each is a change that its channel allows from where it then stands
unfoldable pub Leads : (ℕ → Phase) → List Edge → (ℕ → Phase) → Type 0
Leads f [] g = (i : ℕ) → f i ≡ g i
Leads f (e ∷ es) g = (allowed (f e.line) e.to ≡ true) × Leads (moved f e) es g
