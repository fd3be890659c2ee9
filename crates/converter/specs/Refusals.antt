-- A converter's refusals, by number.
use Rattle.std.specs.Prelude.{ℕ}
use Rattle.converter.specs.declared.refusal.PRefusal.{PRefusal}
use Rattle.converter.specs.declared.refusal.PRefusal.TheVariants.{AskNotAtStable, StateUnused, DropNotAnswered}

abbrev pub p_refusal_number : PRefusal → ℕ
p_refusal_number AskNotAtStable = 40
p_refusal_number StateUnused = 41
p_refusal_number DropNotAnswered = 42
