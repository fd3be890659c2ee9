-- A Q device in order: phase, leaves and denier agree, and steps are left.
use Rattle.channel.specs.Means.{Means, Sound}
use Rattle.channel.specs.Timing.{Timing, Timely}

pub record InOrder {S : Type 0} (means : S → Means) (timing : S → Timing) (x : S) : Type 0 where
  pub sound : Sound (means x)
  pub timely : Timely (means x).phase (timing x)
