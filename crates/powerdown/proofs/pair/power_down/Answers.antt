use Rattle.std.proofs.Common.{◌≡◌, ◌≤◌, ap, arith}
use Rattle.watch.specs.declared.tally.Tally.{Tally}
use Rattle.powerdown.specs.Laws.{pair_certain}
use Rattle.powerdown.proofs.Bounds.{seen_within, asked_within, unless_within}
use Rattle.powerdown.proofs.pair.power_down.Goals as goal

pub returns : goal.returns
returns g c =
    let none : c.new-tally.result.longest ≡ 0 = ap (λ (t : Tally). t.longest) c.new-tally.ensures in
    let woken : c.raise.new.tally.longest ≤ 6 = unless_within 6 _ _ _ _ (seen_within 6 _ _) c.in_ok-raise.ensures (omega (arith, none)) in
    let denied : c.ask_stop.new.tally.longest ≤ 6 = unless_within 6 _ _ _ _ (asked_within 6 _ _ _) c.in_ok-ask_stop.ensures woken in
    let withdrawn : c.raise-2.new.tally.longest ≤ 6 = unless_within 6 _ _ _ _ (seen_within 6 _ _) c.in_ok-raise-2.ensures denied in
    let drained : c.drain.new.tally.longest ≤ 6 = omega (arith, c.in_ok-drain.ensures, withdrawn) in
    unless_within 6 _ _ _ _ (asked_within 6 _ _ _) c.in_ok-ask_stop-2.ensures drained

pub invariant_of-pair-clause-ordered : goal.invariant_of-pair-clause-ordered
invariant_of-pair-clause-ordered g c = ∣ c.job_for.ensures.kept (pair_certain _ c.raise.new.self.ordered) ∣₁
