-- The own calls of a converter, as a pile has them.
use Rattle.std.specs.Prelude.{◌≡◌, Bool, true, is_ok, Ok, Result}
use Rattle.channel.specs.declared.device.QDevice as device
use Rattle.pile.specs.Calls.{Kind, stop, back, tick}
use Rattle.converter.specs.declared.converter.Converter.{Converter}
use Rattle.converter.specs.declared.refusal.PRefusal.{PRefusal}
use Rattle.converter.specs.declared.stack.PCall.{PCall}
use Rattle.converter.specs.declared.stack.PCall.TheVariants.{Ask, Drop, Step}
use Rattle.converter.specs.Converter.{ask_answer, drop_answer, AskMade, DropMade, StepMade, StartMade}

-- every ask is a stop request in the sense of the promise: it ends at Accept or Denied
abbrev pub p_kind : PCall → Kind
p_kind (Ask n) = stop
p_kind Drop = back
p_kind Step = tick

-- a call's answer, by the converter before it: no step is refused
abbrev pub p_answer : {D : Type 0} → PCall → Converter D → Result Unit PRefusal
p_answer (Ask n) x = ask_answer x.phase n
p_answer Drop x = drop_answer x.phase
p_answer Step x = Ok tt

module _ {D : Type 0} (d : device.Ghosts D) where
  abbrev pub p_makes : PCall → Bool → Converter D → Converter D → Type 0
  p_makes (Ask n) b x y = (b ≡ is_ok (ask_answer x.phase n)) × AskMade n x y
  p_makes Drop b x y = (b ≡ is_ok (drop_answer x.phase)) × DropMade x y
  p_makes Step b x y = (b ≡ true) × StepMade d x y

  abbrev pub p_resets : Converter D → Converter D → Type 0
  p_resets x y = StartMade d x.device y
