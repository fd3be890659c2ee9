use Rattle.std.proofs.Common.{◌≡◌, ◌<◌, Some, length, refl, ◌∙◌, sym, subst, arith}
use Rattle.cells.specs.Flat.{Wired}
use Rattle.tree.specs.Ordered.{tree_order}
use Rattle.tree.specs.Trees.{lines_of}
use Rattle.tree.specs.Jobs.{line_named}
use Rattle.tree.proofs.Works.{named_below, job_put, job_told, job_cells_wired, trees_same}
use Rattle.tree.proofs.state.Tree.job.Goals as goal

pub invariant_of-self : goal.invariant_of-self
invariant_of-self c =
    let t = c.args.self.now in
    let w = c.args.name.now in
    let f : line_named t.count (lines_of t) w ≡ Some c.in_ok-line.line = sym c.line_called.ensures.line ∙ c.in_ok-line.ensures.ok_part in
    let h : c.in_ok-line.line < length (lines_of t) = omega (arith, named_below t.count (lines_of t) w c.in_ok-line.line f, t.wired.fits) in
    let e = job_put t.count (lines_of t) w c.args.n c.in_ok-line.line c.index-cells-line.result c.add_jobs.new.body h f c.add_jobs.ensures.body in
    let s = trees_same t.count t.count t.own t.own _ (lines_of t) w c.args.n t.wired refl refl e in
    record {
      wired = subst (Wired t.count) (sym e) (job_cells_wired t.count (lines_of t) w c.args.n t.wired);
      order = ∣ s.order (tree_order t) ∣₁;
    }

pub returns : goal.returns
returns c =
    let t = c.args.self.now in
    let w = c.args.name.now in
    let f : line_named t.count (lines_of t) w ≡ Some c.in_ok-line.line = sym c.line_called.ensures.line ∙ c.in_ok-line.ensures.ok_part in
    let h : c.in_ok-line.line < length (lines_of t) = omega (arith, named_below t.count (lines_of t) w c.in_ok-line.line f, t.wired.fits) in
    let e = job_put t.count (lines_of t) w c.args.n c.in_ok-line.line c.index-cells-line.result c.add_jobs.new.body h f c.add_jobs.ensures.body in
    let r = job_told t.count (lines_of t) w c.args.n c.in_ok-line.line c.index-cells-line.result c.add_jobs.result h f c.add_jobs.ensures.answer in
    let s = trees_same t.count t.count t.own t.own _ (lines_of t) w c.args.n t.wired refl refl e in
    record {
      exact = record { answer = r; cells = e; count = refl; own = refl; lent = refl };
      order = s.means;
      pace = s.timing;
      joins = s.joins;
    }
