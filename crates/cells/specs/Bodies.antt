-- The device of a line: the lower end of its channel, and what a drive, an answer and a reset make of it.
use Rattle.std.specs.Prelude.{ℕ, Bool, false, ◌||◌, [], is_some, None, Option, ◌==◌}
use Rattle.channel.specs.declared.phase.Phase.{Phase}
use Rattle.channel.specs.declared.phase.Phase.TheVariants.{Run}
use Rattle.channel.specs.declared.end.QEnd.{QEnd}
use Rattle.channel.specs.declared.device.Call.TheVariants as call
use Rattle.channel.specs.Ends.{at_rest, end_lowered, end_raised}
use Rattle.leaves.specs.declared.timed.Timed.{Timed}
use Rattle.leaves.specs.declared.work.Work.{Work}
use Rattle.leaves.specs.Timed as timed
use Rattle.leaves.specs.Work as work
use Rattle.words.specs.Names.{name_of}
use Rattle.joins.specs.declared.rules.Drive.{Drive}
use Rattle.joins.specs.declared.rules.Drive.TheVariants.{Nothing, Lower, Raise}
use Rattle.joins.specs.Rules.{first_drive, second_drive, heard, noted_from, decided}
use Rattle.cells.specs.declared.cell.Body.{Body}
use Rattle.cells.specs.declared.cell.Body.TheVariants as body
use Rattle.cells.specs.declared.cell.Cell.{Cell}

-- no device stands at Run
abbrev pub body_end : Body → QEnd
body_end body.Blank = record { phase = Run; denier = None }
body_end (body.Timed t) = t.end
body_end (body.Work w) = w.end
body_end (body.Join k a b q) = q

abbrev pub body_phase : Body → Phase
body_phase b = (body_end b).phase

abbrev pub body_denier : Body → Option ℕ
body_denier b = (body_end b).denier

-- a drive of a join acts on its own end alone
abbrev pub driven_end : Drive → QEnd → QEnd
driven_end Nothing q = q
driven_end Lower q = end_lowered q
driven_end Raise q = end_raised q

-- the denier of a join over devices at x and y by then
abbrev pub noted : QEnd → QEnd → QEnd → Option ℕ
noted q x y = noted_from q.phase q.denier (heard x.phase x.denier) (heard y.phase y.denier)

-- a join notes and decides
abbrev pub answered_end : QEnd → QEnd → QEnd → QEnd
answered_end q x y = record {
  phase = decided q.phase (is_some (noted q x y)) x.phase y.phase;
  denier = noted q x y;
}

abbrev pub drive_timed : Drive → Timed → Timed
drive_timed Nothing t = t
drive_timed Lower t = timed.after call.Lower t
drive_timed Raise t = timed.after call.Raise t

abbrev pub drive_work : Drive → Work → Work
drive_work Nothing w = w
drive_work Lower w = work.after call.Lower w
drive_work Raise w = work.after call.Raise w

-- a line that is driven
abbrev pub driven_body : Drive → Body → Body
driven_body w body.Blank = body.Blank
driven_body w (body.Timed t) = body.Timed (drive_timed w t)
driven_body w (body.Work v) = body.Work (drive_work w v)
driven_body w (body.Join k a b q) = body.Join k a b (driven_end w q)

-- a line that answers, its devices being x and y by then: leaves step, joins note and decide
abbrev pub answered_body : Body → Body → Body → Body
answered_body body.Blank x y = body.Blank
answered_body (body.Timed t) x y = body.Timed (timed.after call.Step t)
answered_body (body.Work v) x y = body.Work (work.after call.Step v)
answered_body (body.Join k a b q) x y = body.Join k a b (answered_end q (body_end x) (body_end y))

-- a line that is reset
abbrev pub reset_body : Body → Body
reset_body body.Blank = body.Blank
reset_body (body.Timed t) = body.Timed (timed.after call.Restart t)
reset_body (body.Work v) = body.Work (work.after call.Restart v)
reset_body (body.Join k a b q) = body.Join k a b at_rest

-- the drives that a line gives its first and its second device, whose phases are x and y
abbrev pub to_first : Body → Phase → Phase → Drive
to_first body.Blank x y = Nothing
to_first (body.Timed t) x y = Nothing
to_first (body.Work v) x y = Nothing
to_first (body.Join k a b q) x y = first_drive k q.phase (is_some q.denier) x y

abbrev pub to_second : Body → Phase → Phase → Drive
to_second body.Blank x y = Nothing
to_second (body.Timed t) x y = Nothing
to_second (body.Work v) x y = Nothing
to_second (body.Join k a b q) x y = second_drive k q.phase (is_some q.denier) x y

-- whether a line joins line j
abbrev pub joins_line : ℕ → Body → Bool
joins_line j body.Blank = false
joins_line j (body.Timed t) = false
joins_line j (body.Work v) = false
joins_line j (body.Join k a b q) = a == j || b == j

-- whether a line joins one line twice
abbrev pub joins_twice : Body → Bool
joins_twice body.Blank = false
joins_twice (body.Timed t) = false
joins_twice (body.Work v) = false
joins_twice (body.Join k a b q) = a == b

-- a cell of which nothing is set: a name of no byte, 12 zeros, and no device
abbrev pub blank : Cell
blank = record { name = name_of []; body = body.Blank }
