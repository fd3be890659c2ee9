-- How long a join may take: its bound, and the steps left of its own phase.
use Rattle.std.specs.Prelude.{ℕ, ◌+◌, ◌*◌, max, Some, None, Option}
use Rattle.channel.specs.declared.phase.Phase.{Phase}
use Rattle.channel.specs.declared.phase.Phase.TheVariants.{Run, Request, Stopped, Exit, Denied, Continue}
use Rattle.channel.specs.Timing.{Timing}
use Rattle.joins.specs.declared.rules.Kind.{Kind}
use Rattle.joins.specs.declared.rules.Kind.TheVariants.{Distributor, Sequencer}

-- a distributor's devices go side by side, a sequencer's one after the other
abbrev pub combine : Kind → ℕ → ℕ → ℕ
combine Distributor m n = max m n
combine Sequencer m n = m + n

-- the most steps until a device has answered the request at hand, from its phase
abbrev pub answer_in : Phase → Timing → ℕ
answer_in Run t = t.bound
answer_in Request t = t.left
answer_in Stopped t = 0
answer_in Exit t = 0
answer_in Denied t = 0
answer_in Continue t = 0

-- the most steps until a device is back at Run
abbrev pub return_in : Phase → Timing → ℕ
return_in Run t = 0
return_in Request t = t.left + t.bound
return_in Stopped t = t.bound
return_in Exit t = t.left
return_in Denied t = t.bound
return_in Continue t = t.left

-- at Request: all may answer, and then all may have to return; with a denier only the return is left
abbrev pub request_left : Kind → Option ℕ → Phase → Timing → Phase → Timing → ℕ
request_left k None x t y u = combine k (answer_in x t) (answer_in y u) + combine k t.bound u.bound
request_left k (Some d) x t y u = combine k (return_in x t) (return_in y u)

-- the steps left of a join at its own phase, with its denier, over devices at phases x and y
abbrev pub join_left : Kind → Phase → Option ℕ → Phase → Timing → Phase → Timing → ℕ
join_left k Run d x t y u = 0
join_left k Request d x t y u = request_left k d x t y u
join_left k Stopped d x t y u = 0
join_left k Exit d x t y u = combine k (return_in x t) (return_in y u)
join_left k Denied d x t y u = 0
join_left k Continue d x t y u = 1

-- a join's bound is twice its devices' greater one, or twice their sum
abbrev pub join_timing : Kind → Phase → Option ℕ → Phase → Timing → Phase → Timing → Timing
join_timing k p d x t y u = record {
  bound = 2 * combine k t.bound u.bound;
  left = join_left k p d x t y u;
}
