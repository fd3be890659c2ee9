-- Converters of the same fields are the same, so a refused call leaves a converter as it is.
use Rattle.std.specs.Prelude.{◌≡◌, ℕ, Err}
use Rattle.std.proofs.Common.{refl, ◌∙◌, arith}
use Rattle.channel.specs.declared.pphase.PPhase.{PPhase}
use Rattle.converter.specs.declared.converter.Converter.{Converter}
use Rattle.converter.specs.declared.refusal.PRefusal.{PRefusal}
use Rattle.converter.specs.Converter.{ask_answer, drop_answer, dropped, AskMade, DropMade}

drop_same : (p : PPhase) (w : PRefusal) → drop_answer p ≡ Err w → dropped p ≡ p
drop_same p w r = grind arith

module _ {D : Type 0} where
  pub same_converter : (b c : Converter D) → c.device ≡ b.device → c.phase ≡ b.phase → c.state ≡ b.state → c.asked ≡ b.asked → c.denier ≡ b.denier → c ≡ b
  same_converter b c v p s a n = λ k. record { device = v k; phase = p k; state = s k; asked = a k; denier = n k }

  pub ask_refused : (n : ℕ) (b c : Converter D) (w : PRefusal) → ask_answer b.phase n ≡ Err w → AskMade n b c → c ≡ b
  ask_refused n b c w e m =
      same_converter b c m.same_device (m.phase_is ∙ rw e refl) m.same_state (m.asked_is ∙ rw e refl) (m.denier_is ∙ rw e refl)

  pub drop_refused : (b c : Converter D) (w : PRefusal) → drop_answer b.phase ≡ Err w → DropMade b c → c ≡ b
  drop_refused b c w e m =
      same_converter b c m.same_device (m.phase_is ∙ drop_same b.phase w e) m.same_state m.same_asked m.same_denier
