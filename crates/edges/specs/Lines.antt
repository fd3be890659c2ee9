-- The lines of a trace that a step writes.
use Rattle.std.specs.Prelude.{ℕ, zero, suc, ◌-◌, Bool, true, false, cond, not, ◌&&◌, List, [], ◌∷◌, ◌++◌, Some, None, Option, ◌==◌}
use Rattle.channel.specs.declared.phase.Phase.{Phase}
use Rattle.channel.specs.declared.phase.Phase.TheVariants.{Run, Request, Stopped, Exit, Denied, Continue}
use Rattle.channel.specs.Phases.{number_of}
use Rattle.cells.specs.declared.cell.Cell.{Cell}
use Rattle.cells.specs.Bodies.{body_denier}
use Rattle.cells.specs.Flat.{body_at, stepped}
use Rattle.trace.specs.Texts.{edge_text, denied_text}
use Rattle.edges.specs.Edges.{Edge, phase_at, step_edges}
pub use Rattle.cells.specs.Edges.{name_at}

-- a line for each edge, the channels having these names
unfoldable pub edge_lines : List ℕ → (ℕ → List ℕ) → List Edge → List (List ℕ)
edge_lines tick names [] = []
edge_lines tick names (e ∷ es) = edge_text tick (names e.line) e.to ∷ edge_lines tick names es

-- what there is to write of a channel of this name that was at p and is at q
abbrev pub moved_lines : List ℕ → List ℕ → Phase → Phase → List (List ℕ)
moved_lines tick w p q = cond (number_of p == number_of q) [] (edge_text tick w q ∷ [])

abbrev pub is_denied : Phase → Bool
is_denied Run = false
is_denied Request = false
is_denied Stopped = false
is_denied Exit = false
is_denied Denied = true
is_denied Continue = false

-- the name of the denier's line; a tag is a line's number, counted from 1
abbrev pub leaf_name : List Cell → Option ℕ → List ℕ
leaf_name cs None = []
leaf_name cs (Some tag) = name_at cs (tag - 1)

-- the top went from p to Denied: who denied
abbrev pub denied_lines : List ℕ → Phase → ℕ → List Cell → List (List ℕ)
denied_lines tick p zero cs = []
denied_lines tick p (suc t) cs =
    cond (not (is_denied p) && is_denied (phase_at cs t)) (denied_text tick (name_at cs t) (leaf_name cs (body_denier (body_at cs t))) ∷ []) []

-- the phase of the last line; Run where there is none
abbrev pub last_phase : ℕ → List Cell → Phase
last_phase zero cs = Run
last_phase (suc t) cs = phase_at cs t

-- what a step of the first n lines writes
abbrev pub step_lines : List ℕ → ℕ → List Cell → List (List ℕ)
step_lines tick n cs = edge_lines tick (name_at cs) (step_edges n cs) ++ denied_lines tick (last_phase n cs) n (stepped n cs)
