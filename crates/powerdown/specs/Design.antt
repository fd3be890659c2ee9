-- The two designs of this program: when they are in order, their times, the steps left, and what a step makes of them.
use Rattle.std.specs.Prelude.{ℕ, Bool}
use Rattle.channel.specs.declared.device.Call.TheVariants as call
use Rattle.channel.specs.declared.device.QDevice as device
use Rattle.channel.specs.Timing.{Timing}
use Rattle.leaves.specs.declared.timed.Timed.{Timed}
use Rattle.leaves.specs.declared.work.Work.{Work}
use Rattle.joins.specs.declared.rule.Parallel.{Parallel}
use Rattle.joins.specs.declared.rule.Serial.{Serial}
use Rattle.joins.specs.declared.join.Join.{Join}
use Rattle.leaves.specs.Told.{timed, work}
use Rattle.joins.specs.Join.{join_time, JoinOrder, join_makes}
use Rattle.joins.specs.Told.{parallel, serial, joined}
use Rattle.converter.specs.declared.converter.Converter.{Converter}
use Rattle.converter.specs.Converter.{time_of, ConverterOrder, StepMade}
use Rattle.watch.specs.Phases.{open_test, p_open_test}

-- a timed and a work leaf under a distributor
abbrev pub Top : Type 0
Top = Join Parallel Timed Work

abbrev pub PairOrder : Top → Type 0
PairOrder = JoinOrder parallel timed work

abbrev pub pair_time : Top → Timing
pair_time = join_time parallel timed work

abbrev pub pair_changing : Top → Bool
pair_changing d = open_test d.end.phase

abbrev pub pair_left : Top → ℕ
pair_left d = (pair_time d).left

-- a step of it, to the last field
abbrev pub pair_stepped : Top → Top → Type 0
pair_stepped = join_makes parallel timed work call.Step

-- such a pair before a timed leaf, under a sequencer
abbrev pub Row : Type 0
Row = Join Serial Top Timed

abbrev pub row : device.Ghosts Row
row = joined serial (joined parallel timed work) timed

-- and a converter over that
abbrev pub PowerTop : Type 0
PowerTop = Converter Row

abbrev pub IslandOrder : PowerTop → Type 0
IslandOrder = ConverterOrder row

abbrev pub island_time : PowerTop → Timing
island_time = time_of row

abbrev pub island_changing : PowerTop → Bool
island_changing c = p_open_test c.phase

abbrev pub island_left : PowerTop → ℕ
island_left c = (island_time c).left

abbrev pub island_stepped : PowerTop → PowerTop → Type 0
island_stepped = StepMade row
