use Rattle.std.proofs.Common.{◌≡◌, ℕ, ◌-◌, min, List, ◌++◌, length, take, drop, replicate, ap, ◌∙◌, arith}
use Rattle.std.proofs.lemmas.List.{take_min, drop-replicate}
use Rattle.words.specs.declared.short.Short.{Short}
use Rattle.words.specs.Shorts.{room, short_of}
use Rattle.words.proofs.short.Short.new.Goals as goal

front : (w ys : List ℕ) (k m : ℕ) → m ≡ min (length w) k → ys ≡ take m w → ys ≡ take k w
front w ys k m e p = let s : m ≡ min k (length w) = omega arith in p ∙ ap (λ j. take j w) s ∙ take_min k w

stored : (n : ℕ) (w ys : List ℕ) (m : ℕ) → m ≡ min (length w) (room n) → ys ≡ take m w → ◌≡◌ {A = Short n} (record { bytes = ys ++ drop {A = ℕ} m (replicate n 0); len = m }) (short_of n w)
unfolding short_of
stored n w ys m e p = λ i. record { bytes = front w ys (room n) m e p i ++ (drop-replicate {X = ℕ} m n 0 ∙ ap (λ j. replicate {A = ℕ} (n - j) 0) e) i; len = e i }

pub returns : goal.returns
returns g c = stored g.row.N c.args.text.now c.copy_from_slice.new.self c.min-len.result (c.min-len.ensures ∙ ap (min (length c.args.text.now)) c.min.ensures) c.copy_from_slice.ensures.after
