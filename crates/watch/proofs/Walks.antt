-- Steps taken one by one, and their counts.
use Rattle.std.proofs.Common.{◌≡◌, ℕ, zero, suc, ◌+◌, Bool, true, sym, refl, ap, ◌∙◌, subst, add-one}
use Rattle.watch.specs.declared.tally.Tally.{Tally}
use Rattle.watch.specs.Tally.{with_step, with_steps}
use Rattle.watch.specs.Watched.{Walked}

pub steps_none : (t : Tally) → t ≡ with_steps 0 t
unfolding with_steps
steps_none t = refl

pub steps_more : (n : ℕ) (t u v : Tally) → u ≡ with_steps n t → v ≡ with_step u → v ≡ with_steps (n + 1) t
unfolding with_steps
steps_more n t u v e f = f ∙ (ap with_step e ∙ sym (ap (λ k. with_steps k t) (add-one n)))

pub steps_longest : (n : ℕ) (t : Tally) → (with_steps n t).longest ≡ t.longest
unfolding with_steps
steps_longest zero t = refl
steps_longest (suc n) t = steps_longest n t

module _ {S : Type 0} (changing : S → Bool) (stepped : S → S → Type 0) where
  pub walked_none : (x : S) → Walked changing stepped 0 x x
  unfolding Walked
  walked_none x = refl

  pub walked_more : (n : ℕ) (x y z : S) → Walked changing stepped n x y → changing y ≡ true → stepped y z
      → Walked changing stepped (n + 1) x z
  unfolding Walked
  walked_more n x y z w g s =
      let more : Walked changing stepped (suc n) x z = record { from = y; so_far = w; going = g; moved = s } in
      subst (λ k. Walked changing stepped k x z) (sym (add-one n)) more
