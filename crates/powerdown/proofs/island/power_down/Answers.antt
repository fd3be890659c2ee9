use Rattle.powerdown.proofs.Bounds.{seen_within, asked_within, unless_within}
use Rattle.powerdown.proofs.island.power_down.Goals as goal

pub loop-state-preserved : goal.loop-state-preserved
loop-state-preserved g c =
    unless_within 32 _ _ _ _ (seen_within 32 _ _) c.in_ok-take_back.ensures
    (unless_within 32 _ _ _ _ (asked_within 32 _ _ _) c.in_ok-ask.ensures c.loop-state.invariant)
