-- The nested tree that cells stand for: leaves, and the library's joins over them.
use Rattle.std.specs.Prelude.{ℕ, [], is_some, None}
use Rattle.channel.specs.declared.phase.Phase.{Phase}
use Rattle.channel.specs.declared.phase.Phase.TheVariants.{Run, Request, Stopped, Exit, Denied, Continue}
use Rattle.channel.specs.declared.end.QEnd.{QEnd}
use Rattle.channel.specs.declared.device.Call.{Call}
use Rattle.channel.specs.declared.device.Call.TheVariants as call
use Rattle.channel.specs.Means.{Means}
use Rattle.channel.specs.Timing.{Timing}
use Rattle.channel.specs.Ends.{end_of, at_rest}
use Rattle.leaves.specs.declared.timed.Timed.{Timed}
use Rattle.leaves.specs.declared.work.Work.{Work}
use Rattle.leaves.specs.Timed as timed
use Rattle.leaves.specs.Work as work
use Rattle.joins.specs.declared.rules.Kind.{Kind}
use Rattle.joins.specs.declared.rules.Drive.{Drive}
use Rattle.joins.specs.declared.rules.Drive.TheVariants.{Nothing, Lower, Raise}
use Rattle.joins.specs.Rules.{first_drive, second_drive}
use Rattle.joins.specs.Turns.{driven}
use Rattle.joins.specs.Together.{joined, Together, InSequence}
use Rattle.joins.specs.Bounds.{join_timing}
use Rattle.cells.specs.Bodies.{driven_end, answered_end, drive_timed, drive_work}

-- a tree with no line, a leaf, or a join with its own end over two
pub data Nest : Type 0 where
  empty : Phase → Nest
  timed_leaf : Timed → Nest
  work_leaf : Work → Nest
  join : Kind → QEnd → Nest → Nest → Nest

abbrev pub nest_means : Nest → Means
nest_means (empty p) = record { phase = p; leaves = []; denier = None }
nest_means (timed_leaf t) = timed.timed_means t
nest_means (work_leaf w) = work.work_means w
nest_means (join k q a b) = joined q.phase q.denier (nest_means a) (nest_means b)

-- the empty tree answers and wakes at the first step
abbrev pub empty_left : Phase → ℕ
empty_left Run = 0
empty_left Request = 1
empty_left Stopped = 0
empty_left Exit = 1
empty_left Denied = 0
empty_left Continue = 1

abbrev pub nest_timing : Nest → Timing
nest_timing (empty p) = record { bound = 1; left = empty_left p }
nest_timing (timed_leaf t) = timed.timed_timing t
nest_timing (work_leaf w) = work.work_timing w
nest_timing (join k q a b) =
    join_timing k q.phase q.denier (nest_means a).phase (nest_timing a) (nest_means b).phase (nest_timing b)

-- the empty tree never denies
abbrev pub EmptyAt : Phase → Type 0
EmptyAt Run = Unit {0}
EmptyAt Request = Unit {0}
EmptyAt Stopped = Unit {0}
EmptyAt Exit = Unit {0}
EmptyAt Denied = ⊥
EmptyAt Continue = ⊥

-- a leaf is in order by its type
abbrev pub NestOrder : Nest → Type 0
NestOrder (empty p) = EmptyAt p
NestOrder (timed_leaf t) = Unit {0}
NestOrder (work_leaf w) = Unit {0}
NestOrder (join k q a b) =
    NestOrder a × NestOrder b × Together q.phase q.denier (nest_means a) (nest_means b) × InSequence k (nest_means a) (nest_means b)

abbrev pub empty_step : Phase → Phase
empty_step Run = Run
empty_step Request = Stopped
empty_step Stopped = Stopped
empty_step Exit = Run
empty_step Denied = Denied
empty_step Continue = Run

-- a drive acts on a device's own channel
abbrev pub drive_nest : Drive → Nest → Nest
drive_nest w (empty p) = empty (driven w p)
drive_nest w (timed_leaf t) = timed_leaf (drive_timed w t)
drive_nest w (work_leaf v) = work_leaf (drive_work w v)
drive_nest w (join k q a b) = join k (driven_end w q) a b

-- what a join wishes of its first and its second device, from their phases
abbrev pub wish_first : Kind → QEnd → Nest → Nest → Drive
wish_first k q a b = first_drive k q.phase (is_some q.denier) (nest_means a).phase (nest_means b).phase

abbrev pub wish_second : Kind → QEnd → Nest → Nest → Drive
wish_second k q a b = second_drive k q.phase (is_some q.denier) (nest_means a).phase (nest_means b).phase

-- a join notes and decides, its devices having stepped
abbrev pub settle : Kind → QEnd → Nest → Nest → Nest
settle k q x y = join k (answered_end q (end_of (nest_means x)) (end_of (nest_means y))) x y

-- one step of a device that is driven by w: a join drives its devices, lets the first step, then the second,
-- notes and decides
abbrev pub turn : Drive → Nest → Nest
turn w (empty p) = empty (empty_step (driven w p))
turn w (timed_leaf t) = timed_leaf (timed.after call.Step (drive_timed w t))
turn w (work_leaf v) = work_leaf (work.after call.Step (drive_work w v))
turn w (join k q a b) =
    settle k (driven_end w q) (turn (wish_first k (driven_end w q) a b) a) (turn (wish_second k (driven_end w q) a b) b)

abbrev pub reset_nest : Nest → Nest
reset_nest (empty p) = empty Stopped
reset_nest (timed_leaf t) = timed_leaf (timed.after call.Restart t)
reset_nest (work_leaf v) = work_leaf (work.after call.Restart v)
reset_nest (join k q a b) = join k at_rest (reset_nest a) (reset_nest b)

-- the calls on the top of a nested tree
abbrev pub nest_after : Call → Nest → Nest
nest_after call.Lower t = drive_nest Lower t
nest_after call.Raise t = drive_nest Raise t
nest_after call.Step t = turn Nothing t
nest_after call.Restart t = reset_nest t
