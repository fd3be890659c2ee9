-- The promise at piles of named leaves, with every member filled in.
use Rattle.std.specs.Prelude.{List}
use Rattle.channel.specs.declared.device.Call.TheVariants.{Restart}
use Rattle.channel.specs.declared.device.QDevice as device
use Rattle.leaves.specs.declared.timed.Timed.{Timed}
use Rattle.leaves.specs.declared.work.Work.{Work}
use Rattle.leaves.specs.Told.{timed, work}
use Rattle.pile.specs.declared.own.QCall.{QCall}
use Rattle.pile.specs.OfQ.{q_view, q_kind, q_makes}
use Rattle.pile.specs.Runs.{Promised}
use Rattle.joins.specs.declared.rule.Rule as rule
use Rattle.joins.specs.declared.rule.Parallel.{Parallel}
use Rattle.joins.specs.declared.rule.Serial.{Serial}
use Rattle.joins.specs.declared.join.Join.{Join}
use Rattle.joins.specs.Join.{join_means, join_time, JoinOrder, join_makes}
use Rattle.joins.specs.Told.{parallel, serial, joined}
use Rattle.converter.specs.declared.converter.Converter.{Converter}
use Rattle.converter.specs.declared.stack.PCall.{PCall}
use Rattle.converter.specs.Converter.{view_of, time_of, ConverterOrder}
use Rattle.converter.specs.Stack.{p_kind, p_makes, p_resets}

-- the promise of a join whose leaves are a timed one and a work one
abbrev pub JoinPromised : {R : Type 0} → rule.Ghosts R → List QCall → Join R Timed Work → Join R Timed Work → Type 0
JoinPromised r =
    Promised (JoinOrder r timed work) (λ j. q_view (join_means timed work j)) (join_time r timed work)
    q_kind (q_makes (join_means timed work) (join_makes r timed work)) (join_makes r timed work Restart)

abbrev pub DistributorPromised : List QCall → Join Parallel Timed Work → Join Parallel Timed Work → Type 0
DistributorPromised = JoinPromised parallel

abbrev pub SequencerPromised : List QCall → Join Serial Timed Work → Join Serial Timed Work → Type 0
SequencerPromised = JoinPromised serial

-- such a sequencer
abbrev pub Row : Type 0
Row = Join Serial Timed Work

abbrev pub row : device.Ghosts Row
row = joined serial timed work

-- the promise of a converter over such a sequencer
abbrev pub ConverterPromised : List PCall → Converter Row → Converter Row → Type 0
ConverterPromised = Promised (ConverterOrder row) (view_of row) (time_of row) p_kind (p_makes row) (p_resets row)
