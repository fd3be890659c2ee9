-- The counts of a power-down, event by event.
use Rattle.std.specs.Prelude.{ℕ, zero, suc, ◌+◌, min, max, None}
use Rattle.watch.specs.declared.tally.Ending.{Ending}
use Rattle.watch.specs.declared.tally.Ending.TheVariants.{Accepted, Denied, Unanswered}
use Rattle.watch.specs.declared.tally.Tally.{Tally}

-- one more, up to the greatest 32-bit number
abbrev pub more : ℕ → ℕ
more n = min (n + 1) 4294967295

abbrev pub none_yet : Tally
none_yet = record { requests = 0; accepted = 0; denied = 0; denier = None; steps = 0; longest = 0 }

abbrev pub with_step : Tally → Tally
with_step t = record t { steps = more t.steps }

-- so many of them
unfoldable pub with_steps : ℕ → Tally → Tally
with_steps zero t = t
with_steps (suc n) t = with_step (with_steps n t)

abbrev pub with_change : ℕ → Tally → Tally
with_change n t = record t { longest = max t.longest n }

abbrev pub with_request : Tally → Tally
with_request t = record t { requests = more t.requests }

abbrev pub with_answer : Ending → Tally → Tally
with_answer Accepted t = record t { accepted = more t.accepted }
with_answer (Denied d) t = record t { denied = more t.denied; denier = d }
with_answer Unanswered t = t
