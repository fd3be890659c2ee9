-- Steps taken and steps left of the two designs, from what their steps promise.
use Rattle.std.proofs.Common.{◌≡◌, ◌<◌, Bool, true, arith}
use Rattle.channel.specs.declared.phase.Phase.{Phase}
use Rattle.channel.specs.declared.pphase.PPhase.{PPhase}
use Rattle.channel.specs.declared.pphase.PPhase.TheVariants as p
use Rattle.channel.specs.Calls.{StepTo}
use Rattle.channel.specs.Timing.{Timing, Ticked}
use Rattle.pile.specs.Views.{Power, p_end}
use Rattle.pile.specs.Calls.{Runs}
use Rattle.converter.specs.declared.rules.Task.{Task}
use Rattle.converter.specs.Rules.{answered, next_phase}
use Rattle.watch.specs.Phases.{open_test, p_open_test}

pub q_fewer : (p q : Phase) (t u : Timing) → StepTo p q → Ticked p q t u
    → open_test p ≡ true → open_test q ≡ true → u.left < t.left
q_fewer p q t u to k a b = grind arith

-- a request that is still open is at Request
still_asked : (k : Task) (n : Bool) (x : Phase) → p_open_test (answered k n x) ≡ true → answered k n x ≡ p.Request
still_asked k n x o = grind arith

pub p_fewer : (q r : PPhase) (s z : Power) (k : Task) (n : Bool) (x : Phase) (t u : Timing) → r ≡ next_phase q k n x
    → Runs (p_end q s) (p_end r z) t u → p_open_test q ≡ true → p_open_test r ≡ true → u.left < t.left
p_fewer p.Stable r s z k n x t u e h a b = grind arith
p_fewer p.Request r s z k n x t u e h a b = let i = still_asked k n x in h.fewer tt (grind arith)
p_fewer p.Accept r s z k n x t u e h a b = grind arith
p_fewer p.Complete r s z k n x t u e h a b = grind arith
p_fewer p.Denied r s z k n x t u e h a b = grind arith
p_fewer p.Continue r s z k n x t u e h a b = grind arith
