use Rattle.std.proofs.Common.{◌≡◌, [], ◌∷◌, refl, inl, inr, arith}
use Rattle.channel.specs.declared.phase.Phase.TheVariants.{Run, Stopped}
use Rattle.pile.proofs.forbids.forbidden_runs.Goals as goal

pub returns : goal.returns
returns c = record {
  stopped_early = λ k. let z : Run ≡ Stopped = ((k.shown [] [] refl).stops refl).0 in grind arith;
  running_early = λ k. let z = ((k.shown [] [] refl).runs refl).0 in grind arith;
  denied_early = λ k. let z = ((k.shown [] [] refl).denies refl).0 in grind arith;
  continued_early = λ k. let z = ((k.shown [] [] refl).denies refl).0 in grind arith;
  second_runs = λ k. let z = ((k.shown [] [] refl).stops refl).1.0 in grind arith;
  state_early = λ k. let z = ((k.shown [] [] refl).stops refl).0 in grind arith;
  accept_early = λ k. let z = ((k.shown [] [] refl).runs refl).0 in grind arith;
  complete_early = λ k. let z = ((k.shown [] [] refl).stops refl).0 in grind arith;
  ask_denied_early = λ k. let z = ((k.shown [] [] refl).denies refl).0 in grind arith;
  later_stopped = λ k. let z = ((k.shown (_ ∷ _ ∷ []) [] refl).stops refl).1.0 in grind arith;
  no_denier = λ k. let z = (k.answered [] _ [] _ [] refl refl refl tt (λ e. grind arith)).denied_then refl in grind arith;
  unheard = λ k. let z = (k.answered [] _ (_ ∷ []) _ [] refl refl refl (refl, tt) (λ e. grind arith)).then_denied (inr (inl (inl refl))) in grind arith;
  later_told = λ k. let z = (k.answered [] _ (_ ∷ []) _ [] refl refl refl (refl, tt) (λ e. grind arith)).told refl in grind arith;
  right_told = λ k. let z = (k.answered [] _ (_ ∷ []) _ [] refl refl refl (refl, tt) (λ e. grind arith)).told refl in grind arith;
  none_told = λ k. let z = (k.answered [] _ (_ ∷ []) _ [] refl refl refl (refl, tt) (λ e. grind arith)).told refl in grind arith;
  stop_too_long = λ k. let z = k.bounded [] _ (_ ∷ _ ∷ []) [] refl tt refl (refl, (refl, tt)) in omega arith;
  exit_too_long = λ k. let z = k.bounded [] _ (_ ∷ _ ∷ []) [] refl tt refl (refl, (refl, tt)) in omega arith;
  continue_too_long = λ k. let z = k.bounded [] _ (_ ∷ _ ∷ []) [] refl tt refl (refl, (refl, tt)) in omega arith;
}
