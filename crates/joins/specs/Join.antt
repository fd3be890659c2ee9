-- A join over any two devices: what it means, when it is in order, and what its calls make of it.
use Rattle.std.specs.Prelude.{◌≡◌, ◌*◌, ◌++◌, is_some}
use Rattle.channel.specs.declared.device.Call.{Call}
use Rattle.channel.specs.declared.device.Call.TheVariants as call
use Rattle.channel.specs.declared.device.QDevice as device
use Rattle.channel.specs.Means.{Means, tags}
use Rattle.channel.specs.Timing.{Timing}
use Rattle.channel.specs.Ends.{at_rest, end_lowered, end_raised}
use Rattle.joins.specs.declared.rule.Rule as rule
use Rattle.joins.specs.declared.join.Join.{Join}
use Rattle.joins.specs.Rules.{first_drive, second_drive, DriveMakes}
use Rattle.joins.specs.Together.{joined, Together, InSequence, denier_after, phase_after}
use Rattle.joins.specs.Bounds.{combine, join_timing}

module _ {R A B : Type 0} where
  -- lower and raise act on the join's own channel alone
  pub record Apart (i j : Join R A B) : Type 0 where
    pub same_first : j.first ≡ i.first
    pub same_second : j.second ≡ i.second

  pub record LowerMade (i j : Join R A B) : Type 0 where
    pub lowered : j.end ≡ end_lowered i.end
    pub apart : Apart i j

  pub record RaiseMade (i j : Join R A B) : Type 0 where
    pub raised : j.end ≡ end_raised i.end
    pub apart : Apart i j

module _ {R A B : Type 0} (a : device.Ghosts A) (b : device.Ghosts B) where
  -- the join's own phase and denier over its devices' meanings
  abbrev pub join_means : Join R A B → Means
  join_means j = joined j.end.phase j.end.denier (a.means j.first) (b.means j.second)

  -- reset resets both devices, whatever the join was
  pub record ResetMade (i j : Join R A B) : Type 0 where
    pub first_reset : a.makes call.Restart i.first j.first
    pub second_reset : b.makes call.Restart i.second j.second
    pub rests : j.end ≡ at_rest

  -- a join just made of two devices: both are reset
  pub record Made (x : A) (y : B) (j : Join R A B) : Type 0 where
    pub first_reset : a.makes call.Restart x j.first
    pub second_reset : b.makes call.Restart y j.second
    pub rests : j.end ≡ at_rest

module _ {R A B : Type 0} (r : rule.Ghosts R) (a : device.Ghosts A) (b : device.Ghosts B) where
  abbrev pub join_time : Join R A B → Timing
  join_time j =
      join_timing r.KIND j.end.phase j.end.denier (a.means j.first).phase (a.timing j.first) (b.means j.second).phase (b.timing j.second)

  -- both devices are in order, and go with the join's own phase and denier
  pub record JoinOrder (j : Join R A B) : Type 0 where
    pub first : a.ordered j.first
    pub second : b.ordered j.second
    pub together : Together j.end.phase j.end.denier (a.means j.first) (b.means j.second)
    pub sequence : InSequence r.KIND (a.means j.first) (b.means j.second)

  -- a step drives both devices by the phases before it, steps the first, then the second, notes and decides
  pub record StepMade (i j : Join R A B) : Type 0 where
    pub first_mid : A
    pub second_mid : B
    pub first_driven :
        DriveMakes a.makes (first_drive r.KIND i.end.phase (is_some i.end.denier) (a.means i.first).phase (b.means i.second).phase) i.first first_mid
    pub second_driven :
        DriveMakes b.makes (second_drive r.KIND i.end.phase (is_some i.end.denier) (a.means i.first).phase (b.means i.second).phase) i.second second_mid
    pub first_stepped : a.makes call.Step first_mid j.first
    pub second_stepped : b.makes call.Step second_mid j.second
    pub notes : j.end.denier ≡ denier_after i.end.phase i.end.denier (a.means j.first) (b.means j.second)
    pub decides : j.end.phase ≡ phase_after i.end.phase i.end.denier (a.means j.first) (b.means j.second)

  -- the leaves of both, the first's before the second's, and the bound, as they were before the making
  pub record Holds (x : A) (y : B) (j : Join R A B) : Type 0 where
    pub leaves : tags (join_means a b j).leaves ≡ tags (a.means x).leaves ++ tags (b.means y).leaves
    pub bound : (join_time j).bound ≡ 2 * combine r.KIND (a.timing x).bound (b.timing y).bound

  abbrev pub join_makes : Call → Join R A B → Join R A B → Type 0
  join_makes call.Lower i j = LowerMade i j
  join_makes call.Raise i j = RaiseMade i j
  join_makes call.Step i j = StepMade i j
  join_makes call.Restart i j = ResetMade a b i j
