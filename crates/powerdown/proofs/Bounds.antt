-- No change that was counted took longer than the bound.
use Rattle.std.proofs.Common.{◌≡◌, ℕ, max, Ok, Err, Result, refl, ap, arith}
use Rattle.watch.specs.declared.tally.Ending.{Ending}
use Rattle.watch.specs.declared.tally.Ending.TheVariants.{Accepted, Denied, Unanswered}
use Rattle.watch.specs.declared.tally.Tally.{Tally}
use Rattle.watch.specs.Tally.{with_steps, with_request, with_answer}
use Rattle.watch.proofs.Walks.{steps_longest}
use Rattle.powerdown.specs.Rounds.{Seen, Asked, Unless, Within}

answer_longest : (e : Ending) (t : Tally) → (with_answer e t).longest ≡ t.longest
answer_longest Accepted t = refl
answer_longest (Denied d) t = refl
answer_longest Unanswered t = refl

pub seen_within : (m : ℕ) (t u : Tally) → Seen m t u → Within m t u
seen_within m t u s = λ h.
    let n = s.steps in
    let e : u.longest ≡ max (with_steps n t).longest n = ap (λ x. x.longest) s.counted in
    let f : (with_steps n t).longest ≡ t.longest = steps_longest n t in
    omega (arith, e, f, s.few, h)

pub asked_within : (m : ℕ) (e : Ending) (t u : Tally) → Asked m e t u → Within m t u
asked_within m e t u a = λ h.
    let i = seen_within m (with_request t) a.mid a.seen h in
    let f : u.longest ≡ (with_answer e a.mid).longest = ap (λ x. x.longest) a.answered in
    let g = answer_longest e a.mid in
    omega (arith, i, f, g)

pub unless_within : {E : Type 0} (m : ℕ) (r : Result Unit E) (t u : Tally) (M : Type 0) → (M → Within m t u) → Unless r t u M → Within m t u
unless_within m (Ok x) t u M f o = f o
unless_within m (Err x) t u M f o = λ h. let e : u.longest ≡ t.longest = ap (λ y. y.longest) o in omega (arith, e, h)
