-- A law of the two designs: while a change is under way some steps are left, never more than the bound.
use Rattle.std.specs.Prelude.{◌≡◌, ◌≤◌, true}
use Rattle.std.proofs.Common.{subst}
use Rattle.std.proofs.lemmas.Bool.{false≢true}
use Rattle.channel.specs.declared.phase.Phase.{Phase}
use Rattle.channel.specs.declared.phase.Phase.TheVariants as q
use Rattle.channel.specs.declared.pphase.PPhase.{PPhase}
use Rattle.channel.specs.declared.pphase.PPhase.TheVariants as p
use Rattle.channel.specs.Calls.{Open}
use Rattle.channel.specs.Device.{InOrder}
use Rattle.pile.specs.Views.{Power, p_end, Opened}
use Rattle.leaves.specs.Ordered.{timed_in_order, work_in_order}
use Rattle.leaves.specs.Told.{timed, work}
use Rattle.joins.specs.Told.{parallel, serial, joined}
use Rattle.joins.specs.Join.{join_means}
use Rattle.joins.specs.Ordered.{join_in_order}
use Rattle.joins.specs.Certain.{join_certain}
use Rattle.converter.specs.Shows.{converter_fits}
use Rattle.converter.specs.Certain.{converter_certain}
use Rattle.watch.specs.Phases.{open_test, p_open_test}
use Rattle.watch.specs.Watched.{Pending}
use Rattle.powerdown.specs.Design.{Top, PairOrder, pair_time, pair_changing, pair_left, Row, row, PowerTop, IslandOrder, island_time, island_changing, island_left}

opened : (x : Phase) → open_test x ≡ true → Open x
opened q.Run o = false≢true o
opened q.Request o = tt
opened q.Stopped o = false≢true o
opened q.Exit o = tt
opened q.Denied o = false≢true o
opened q.Continue o = tt

p_opened : (x : PPhase) (s : Power) → p_open_test x ≡ true → Opened (p_end x s)
p_opened p.Stable s o = false≢true o
p_opened p.Request s o = tt
p_opened p.Accept s o = false≢true o
p_opened p.Complete s o = tt
p_opened p.Denied s o = false≢true o
p_opened p.Continue s o = tt

pair_in_order : (d : Top) → PairOrder d → InOrder (join_means timed work) pair_time d
pair_in_order = join_in_order {r = parallel} {a = timed} {b = work} (λ x _. timed_in_order x) (λ y _. work_in_order y)

row_in_order : (d : Row) → row.ordered d → InOrder row.means row.timing d
row_in_order = join_in_order {r = serial} {a = joined parallel timed work} {b = timed} pair_in_order (λ y _. timed_in_order y)

-- leaves are in order by their types
pub pair_certain : (d : Top) → ∥ PairOrder d ∥₁ → PairOrder d
pair_certain = join_certain {r = parallel} {a = timed} {b = work} (λ x _. tt) (λ y _. tt)

pub island_certain : (c : PowerTop) → ∥ IslandOrder c ∥₁ → IslandOrder c
island_certain =
    converter_certain {d = row} (join_certain {r = serial} {a = joined parallel timed work} {b = timed} pair_certain (λ y _. tt))

pub pair_pending : (d : Top) → ∥ PairOrder d ∥₁ → (pair_time d).bound ≡ 6 → Pending (pair_changing d) (pair_left d) 6
pair_pending d w b =
    let t = (pair_in_order d (pair_certain d w)).timely in
    record {
      some_left = λ o. t.some_left (opened d.end.phase o);
      at_most = λ o. subst (λ n. pair_left d ≤ n) b (t.at_most (opened d.end.phase o));
    }

pub island_pending : (c : PowerTop) → ∥ IslandOrder c ∥₁ → (island_time c).bound ≡ 32 → Pending (island_changing c) (island_left c) 32
island_pending c w b =
    let t = (converter_fits {d = row} row_in_order c (island_certain c w)).in_time in
    record {
      some_left = λ o. t.some_left (p_opened c.phase _ o);
      at_most = λ o. subst (λ n. island_left c ≤ n) b (t.at_most (p_opened c.phase _ o));
    }
