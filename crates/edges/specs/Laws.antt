-- The laws of what is traced: nothing for no edges, and what is traced adds up.
use Rattle.std.specs.Prelude.{◌≡◌, ℕ, List, [], ◌∷◌, ◌++◌}
use Rattle.std.proofs.Common.{sym, refl, ap, ◌∙◌, subst}
use Rattle.trace.specs.Texts.{edge_text}
use Rattle.trace.specs.Written.{Adds}
use Rattle.trace.proofs.Lays.{adds_none, adds_then}
use Rattle.edges.specs.declared.passes.Tracing.{Tracing}
use Rattle.edges.specs.Edges.{Edge}
use Rattle.edges.specs.Lines.{edge_lines}
use Rattle.edges.specs.Traces.{Traced}

lines_more : (tick : List ℕ) (names : ℕ → List ℕ) (es fs : List Edge) → edge_lines tick names (es ++ fs) ≡ edge_lines tick names es ++ edge_lines tick names fs
unfolding edge_lines
lines_more tick names [] fs = refl
lines_more tick names (e ∷ es) fs = ap (λ ls. edge_text tick (names e.line) e.to ∷ ls) (lines_more tick names es fs)

pub traced_none : (f : ℕ → List ℕ) (s : Tracing) → Traced f [] s s
unfolding edge_lines
traced_none f s = record { sheet = refl; lines = adds_none s.sheet.now }

pub traced_more : (f : ℕ → List ℕ) (es fs : List Edge) (s t u : Tracing) → Traced f es s t → Traced f fs t u → Traced f (es ++ fs) s u
traced_more f es fs s t u a b = record {
  sheet = b.sheet ∙ a.sheet;
  lines =
      subst (Adds s.sheet.now u.sheet.now) (sym (lines_more s.sheet.now.tick.now f es fs))
      (adds_then s.sheet.now t.sheet.now u.sheet.now _ _ a.lines (subst (λ x. Adds t.sheet.now u.sheet.now (edge_lines x.now f fs)) a.lines.same.tick b.lines));
}
