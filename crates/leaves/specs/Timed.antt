-- The timed leaf, call by call and to the last field.
use Rattle.std.specs.Prelude.{◌≡◌, ℕ, ◌+◌, max, Bool, cond, ◌&&◌, refl, ◌==◌, nat_lt}
use Rattle.channel.specs.declared.phase.Phase.{Phase}
use Rattle.channel.specs.declared.phase.Phase.TheVariants.{Run, Request, Stopped, Exit, Denied, Continue}
use Rattle.channel.specs.declared.end.QEnd.{QEnd}
use Rattle.channel.specs.declared.device.Call.{Call}
use Rattle.channel.specs.declared.device.Call.TheVariants.{Lower, Raise, Step, Restart}
use Rattle.channel.specs.Means.{Means}
use Rattle.channel.specs.Timing.{Timing}
use Rattle.channel.specs.Ends.{at_rest, end_lowered, end_raised}
use Rattle.leaves.specs.Alone.{alone, ToldAt}
use Rattle.leaves.specs.Left.{LeftAt, left_lowered, left_raised, left_stepped, end_stepped}
use Rattle.leaves.specs.Keeps.{lower_left, raise_left, step_left, lower_told, raise_told, step_told}
use Rattle.leaves.specs.declared.delays.Delays.{Delays}
use Rattle.leaves.specs.declared.timed.Timed.{Timed}

-- a timed leaf lists itself alone; its bound is the greater of its delays
abbrev pub timed_means : Timed → Means
timed_means t = alone t.tag t.end

abbrev pub timed_timing : Timed → Timing
timed_timing t = record { bound = max t.delays.answer t.delays.wake; left = t.left }

-- a leaf just made
abbrev pub made : ℕ → Delays → ℕ → Timed
made tag d k = record {
  tag = tag;
  delays = d;
  every = k;
  count = 0;
  end = at_rest;
  left = 0;
  in_time = refl;
  told = refl;
}

-- the same leaf with another count, end and steps left, which go together
abbrev pub turned : (t : Timed) → ℕ → (e : QEnd) (n : ℕ) → LeftAt e.phase t.delays n → ToldAt e.phase t.tag e.denier → Timed
turned t c e n h k = record {
  tag = t.tag;
  delays = t.delays;
  every = t.every;
  count = c;
  end = e;
  left = n;
  in_time = h;
  told = k;
}

-- one accepted lower more, modulo K
abbrev pub counted : Phase → Timed → ℕ
counted Run t = cond (nat_lt (t.count + 1) t.every) (t.count + 1) 0
counted Request t = t.count
counted Stopped t = t.count
counted Exit t = t.count
counted Denied t = t.count
counted Continue t = t.count

abbrev pub after_lower : Timed → Timed
after_lower t =
    turned t (counted t.end.phase t) (end_lowered t.end) (left_lowered t.end.phase t.delays t.left)
    (lower_left t.end.phase t.end.denier t.delays t.left t.in_time) (lower_told t.end.phase t.end.denier t.tag t.told)

abbrev pub after_raise : Timed → Timed
after_raise t =
    turned t t.count (end_raised t.end) (left_raised t.end.phase t.delays t.left)
    (raise_left t.end.phase t.end.denier t.delays t.left t.in_time) (raise_told t.end.phase t.end.denier t.tag t.told)

-- whether the request that is open is one to deny
abbrev pub denies : Timed → Bool
denies t = nat_lt 0 t.every && t.count == 0

abbrev pub after_step : Timed → Timed
after_step t =
    turned t t.count (end_stepped (denies t) t.tag t.left t.end) (left_stepped t.end.phase t.left)
    (step_left t.end.phase t.end.denier (denies t) t.tag t.delays t.left t.in_time)
    (step_told t.end.phase t.end.denier (denies t) t.tag t.left t.told)

-- reset leaves the leaf as it was made
abbrev pub after_reset : Timed → Timed
after_reset t = made t.tag t.delays t.every

abbrev pub after : Call → Timed → Timed
after Lower t = after_lower t
after Raise t = after_raise t
after Step t = after_step t
after Restart t = after_reset t

abbrev pub timed_makes : Call → Timed → Timed → Type 0
timed_makes c t u = u ≡ after c t
