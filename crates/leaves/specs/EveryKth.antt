-- A timed leaf denies every K-th accepted lower since its making or reset: a law over runs of calls.
use Rattle.std.specs.Prelude.{◌≡◌, ℕ, ◌+◌, ◌%◌, ◌<◌, List, [], ◌∷◌}
use Rattle.channel.specs.declared.phase.Phase.{Phase}
use Rattle.channel.specs.declared.phase.Phase.TheVariants.{Run, Request, Stopped, Exit, Denied, Continue}
use Rattle.channel.specs.declared.device.Call.{Call}
use Rattle.channel.specs.declared.device.Call.TheVariants.{Lower, Raise, Step, Restart}
use Rattle.leaves.specs.declared.timed.Timed.{Timed}
use Rattle.leaves.specs.Timed.{after, after_step}

-- the leaf after a run of calls
abbrev pub after_run : Timed → List Call → Timed
after_run t [] = t
after_run t (c ∷ cs) = after_run (after c t) cs

-- a lower is accepted at Run
abbrev pub one_more : Phase → ℕ → ℕ
one_more Run n = n + 1
one_more Request n = n
one_more Stopped n = n
one_more Exit n = n
one_more Denied n = n
one_more Continue n = n

-- accepted lowers since the making or the latest reset, where there were n before the call
abbrev pub tally : Call → Timed → ℕ → ℕ
tally Lower t n = one_more t.end.phase n
tally Raise t n = n
tally Step t n = n
tally Restart t n = 0

abbrev pub lowers : ℕ → Timed → List Call → ℕ
lowers n t [] = n
lowers n t (c ∷ cs) = lowers (tally c t n) (after c t) cs

-- n is a multiple of K, which is not 0
abbrev pub Multiple : ℕ → ℕ → Type 0
Multiple k n = (0 < k) × (n % k ≡ 0)

-- a step that answers the n-th request denies it just where n is a multiple of K
pub record AnswersNth (k n : ℕ) (t : Timed) : Type 0 where
  pub denied : t.end.phase ≡ Request → (after_step t).end.phase ≡ Denied → Multiple k n
  pub accepted : t.end.phase ≡ Request → (after_step t).end.phase ≡ Stopped → Multiple k n → ⊥

-- from here on, whatever calls come
abbrev pub DeniesEvery : ℕ → Timed → Type 0
DeniesEvery k t = (calls : List Call) → AnswersNth k (lowers 0 t calls) (after_run t calls)
