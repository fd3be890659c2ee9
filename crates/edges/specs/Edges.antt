-- Edges: the changes of phase that a step makes on the channels of the lines, in the order in which it makes them.
pub use Rattle.cells.specs.Edges.{Edge, phase_at, line_edge, drive_edges, answer_edges, step_edges}
unfoldable pub use Rattle.cells.specs.Edges.{change, drive_edges_by, drives_from, answers_to}
