-- What stands on a sheet of the edges that were seen.
use Rattle.std.specs.Prelude.{◌≡◌, ℕ, List}
use Rattle.trace.specs.Written.{Adds}
use Rattle.edges.specs.declared.passes.Tracing.{Tracing}
use Rattle.edges.specs.Edges.{Edge}
use Rattle.edges.specs.Lines.{edge_lines}

-- a line for each edge, the channels having these names, on the same sheet
pub record Traced (f : ℕ → List ℕ) (es : List Edge) (s t : Tracing) : Type 0 where
  pub sheet : t.sheet.ghost_name ≡ s.sheet.ghost_name
  pub lines : Adds s.sheet.now t.sheet.now (edge_lines s.sheet.now.tick.now f es)
