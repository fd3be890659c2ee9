-- Types that hold stacks over any devices: when what they hold is in order, and what a step makes of it.
use Rattle.channel.specs.declared.device.Call.TheVariants as call
use Rattle.channel.specs.declared.device.QDevice as device
use Rattle.joins.specs.declared.rule.Rule as rule
use Rattle.joins.specs.declared.rule.Parallel.{Parallel}
use Rattle.joins.specs.declared.rule.Serial.{Serial}
use Rattle.joins.specs.declared.join.Join.{Join}
use Rattle.joins.specs.Join.{JoinOrder, Made, join_makes}
use Rattle.joins.specs.Told.{parallel, serial, joined}
use Rattle.converter.specs.Converter.{ConverterOrder, StepMade}
use Rattle.plays.specs.declared.held.Cage.{Cage}
use Rattle.plays.specs.declared.held.Cage.TheVariants.{Row, Power}

module _ {A B C : Type 0} (a : device.Ghosts A) (b : device.Ghosts B) (c : device.Ghosts C) where
  abbrev pub RigOrder : Join Serial (Join Parallel A B) C → Type 0
  RigOrder = JoinOrder serial (joined parallel a b) c

  -- a distributor just made of the first two, and a sequencer just made of it and the third
  pub record RigMade (x : A) (y : B) (z : C) (j : Join Serial (Join Parallel A B) C) : Type 0 where
    pub pair : Join Parallel A B
    pub pair_made : Made a b x y pair
    pub row_made : Made (joined parallel a b) c pair z j

  abbrev pub RigStep : Join Serial (Join Parallel A B) C → Join Serial (Join Parallel A B) C → Type 0
  RigStep = join_makes serial (joined parallel a b) c call.Step

module _ {R A B C : Type 0} (r : rule.Ghosts R) (a : device.Ghosts A) (b : device.Ghosts B) (c : device.Ghosts C) where
  abbrev pub CageOrder : Cage R A B C → Type 0
  CageOrder (Row j) = JoinOrder r (joined parallel a b) c j
  CageOrder (Power p) = ConverterOrder (joined r a b) p

  -- it holds what it held, stepped
  abbrev pub CageStep : Cage R A B C → Cage R A B C → Type 0
  CageStep (Row i) (Row j) = join_makes r (joined parallel a b) c call.Step i j
  CageStep (Power p) (Power q) = StepMade (joined r a b) p q
  CageStep (Row i) (Power q) = ⊥
  CageStep (Power p) (Row j) = ⊥
