-- A timed leaf's count is the number of accepted lowers modulo K, so it denies every K-th.
use Rattle.std.proofs.Common.{◌≡◌, ℕ, ◌+◌, ◌%◌, ◌<◌, ◌≤◌, cond, ltb, ◌⊎◌, List, [], ◌∷◌, sym, ap, ◌∙◌, inl, inr, mod-lt, mod-eq_of_lt, arith}
use native.Mathlib.Nat.{mod_self, mod-add-mod, zero-mod}
use Rattle.std.proofs.lemmas.Bool.Decides.{nat_tests}
use Rattle.std.proofs.lemmas.Bool.{cases_lt, lt-ltb, le-ltb, cond-true, cond-false}
use Rattle.channel.specs.declared.phase.Phase.{Phase}
use Rattle.channel.specs.declared.phase.Phase.TheVariants.{Run, Request, Stopped, Exit, Denied, Continue}
use Rattle.channel.specs.declared.device.Call.{Call}
use Rattle.channel.specs.declared.device.Call.TheVariants.{Lower, Raise, Step, Restart}
use Rattle.leaves.specs.declared.timed.Timed.{Timed}
use Rattle.leaves.specs.Timed.{after, counted}
use Rattle.leaves.specs.EveryKth.{after_run, lowers, tally, one_more, AnswersNth, DeniesEvery}

-- counting up by one, modulo k
count_more : (n k : ℕ) → 0 < k → cond (ltb (n % k + 1) k) (n % k + 1) 0 ≡ (n + 1) % k
count_more n k pos = by (cases_lt (n % k + 1) k)
  where
    low : n % k < k
    low = mod-lt n pos

    by : (n % k + 1 < k) ⊎ (k ≤ n % k + 1) → cond (ltb (n % k + 1) k) (n % k + 1) 0 ≡ (n + 1) % k
    by (inl h) = cond-true _ _ _ (lt-ltb _ _ h) ∙ (sym (mod-eq_of_lt h) ∙ mod-add-mod n k 1)
    by (inr h) =
        let e : n % k + 1 ≡ k = omega arith in
        cond-false _ _ _ (le-ltb _ _ h) ∙ (sym (mod_self k) ∙ (ap (λ m. m % k) (sym e) ∙ mod-add-mod n k 1))

-- the count is kept modulo K
record Counts (k n : ℕ) (t : Timed) : Type 0 where
  every_is : t.every ≡ k
  count_is : 0 < k → t.count ≡ n % k

counts_lower : (k n : ℕ) (p : Phase) (t : Timed) → Counts k n t → 0 < k → counted p t ≡ one_more p n % k
counts_lower k n Run t h pos = rw (h.count_is pos, h.every_is) (count_more n k pos)
counts_lower k n Request t h pos = h.count_is pos
counts_lower k n Stopped t h pos = h.count_is pos
counts_lower k n Exit t h pos = h.count_is pos
counts_lower k n Denied t h pos = h.count_is pos
counts_lower k n Continue t h pos = h.count_is pos

counts_call : (k n : ℕ) (c : Call) (t : Timed) → Counts k n t → Counts k (tally c t n) (after c t)
counts_call k n Lower t h = record { every_is = h.every_is; count_is = counts_lower k n t.end.phase t h }
counts_call k n Raise t h = record { every_is = h.every_is; count_is = h.count_is }
counts_call k n Step t h = record { every_is = h.every_is; count_is = h.count_is }
counts_call k n Restart t h = record { every_is = h.every_is; count_is = λ pos. sym (zero-mod k) }

counts_run : (k n : ℕ) (t : Timed) (cs : List Call) → Counts k n t → Counts k (lowers n t cs) (after_run t cs)
counts_run k n t [] h = h
counts_run k n t (c ∷ cs) h = counts_run k (tally c t n) (after c t) cs (counts_call k n c t h)

-- with the count right, the answer is
answers : (k n : ℕ) (t : Timed) → Counts k n t → AnswersNth k n t
answers k n t h = record { denied = λ at to. grind (arith, nat_tests); accepted = λ at to mult. grind (arith, nat_tests) }

pub denies_every : (k : ℕ) (t : Timed) → t.every ≡ k → t.count ≡ 0 → DeniesEvery k t
denies_every k t e z calls =
    answers k _ _ (counts_run k 0 t calls (record { every_is = e; count_is = λ pos. z ∙ sym (zero-mod k) }))
