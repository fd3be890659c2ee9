-- The work leaf, call by call and to the last field.
use Rattle.std.specs.Prelude.{◌≡◌, ℕ, ◌+◌, ◌-◌, cond, refl, ◌==◌, nat_lt}
use Rattle.channel.specs.declared.phase.Phase.{Phase}
use Rattle.channel.specs.declared.phase.Phase.TheVariants.{Run, Request, Stopped, Exit, Denied, Continue}
use Rattle.channel.specs.declared.end.QEnd.{QEnd}
use Rattle.channel.specs.declared.device.Call.{Call}
use Rattle.channel.specs.declared.device.Call.TheVariants.{Lower, Raise, Step, Restart}
use Rattle.channel.specs.Means.{Means}
use Rattle.channel.specs.Timing.{Timing}
use Rattle.channel.specs.Ends.{at_rest, end_lowered, end_raised}
use Rattle.leaves.specs.Alone.{alone, ToldAt}
use Rattle.leaves.specs.Keeps.{lower_told, raise_told, pressed_told}
use Rattle.leaves.specs.Pressed.{end_pressed}
use Rattle.leaves.specs.declared.work.Work.{Work}

abbrev pub work_means : Work → Means
work_means w = alone w.tag w.end

-- the jobs that patience still allows, and the answer; Exit and Continue end at once
abbrev pub left_at : Phase → Work → ℕ
left_at Run w = 0
left_at Request w = (w.patience - w.done) + 1
left_at Stopped w = 0
left_at Exit w = 1
left_at Denied w = 0
left_at Continue w = 1

abbrev pub work_timing : Work → Timing
work_timing w = record { bound = w.patience + 1; left = left_at w.end.phase w }

-- a leaf just made
abbrev pub made : ℕ → ℕ → Work
made tag p = record {
  tag = tag;
  patience = p;
  jobs = 0;
  done = 0;
  end = at_rest;
  told = refl;
}

-- the same leaf with other jobs that wait, other jobs done in this request, and another end
abbrev pub turned : (w : Work) → ℕ → ℕ → (e : QEnd) → ToldAt e.phase w.tag e.denier → Work
turned w j n e k = record {
  tag = w.tag;
  patience = w.patience;
  jobs = j;
  done = n;
  end = e;
  told = k;
}

-- a new request has no job done
abbrev pub done_lowered : Phase → ℕ → ℕ
done_lowered Run n = 0
done_lowered Request n = n
done_lowered Stopped n = n
done_lowered Exit n = n
done_lowered Denied n = n
done_lowered Continue n = n

-- a step at Run does a job; at Request too, where patience allows
abbrev pub jobs_stepped : Phase → Work → ℕ
jobs_stepped Run w = w.jobs - 1
jobs_stepped Request w = cond (nat_lt w.done w.patience) (w.jobs - 1) w.jobs
jobs_stepped Stopped w = w.jobs
jobs_stepped Exit w = w.jobs
jobs_stepped Denied w = w.jobs
jobs_stepped Continue w = w.jobs

-- a job done at Request counts
abbrev pub done_stepped : Phase → Work → ℕ
done_stepped Run w = w.done
done_stepped Request w = cond (w.jobs == 0) w.done (cond (nat_lt w.done w.patience) (w.done + 1) w.done)
done_stepped Stopped w = w.done
done_stepped Exit w = w.done
done_stepped Denied w = w.done
done_stepped Continue w = w.done

-- reset leaves the leaf as it was made, with no job
abbrev pub after : Call → Work → Work
after Lower w =
    turned w w.jobs (done_lowered w.end.phase w.done) (end_lowered w.end) (lower_told w.end.phase w.end.denier w.tag w.told)
after Raise w = turned w w.jobs w.done (end_raised w.end) (raise_told w.end.phase w.end.denier w.tag w.told)
after Step w =
    turned w (jobs_stepped w.end.phase w) (done_stepped w.end.phase w)
    (end_pressed (w.jobs == 0) (nat_lt w.done w.patience) w.tag w.end)
    (pressed_told w.end.phase w.end.denier (w.jobs == 0) (nat_lt w.done w.patience) w.tag w.told)
after Restart w = made w.tag w.patience

abbrev pub work_makes : Call → Work → Work → Type 0
work_makes c w v = v ≡ after c w
