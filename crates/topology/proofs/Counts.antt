-- Counting the lines that nothing joins. Assumes nothing.
use Rattle.std.proofs.Common.{◌≡◌, ℕ, zero, suc, ◌+◌, ◌<◌, Bool, false, cond, ◌||◌, eqb, sym, refl, ap, ◌∙◌, ⊎_elim, arith}
use Rattle.std.proofs.lemmas.Bool.{cases_eq, eq-eqb, ne_eqb}

-- how many of the first m numbers fail a test
pub fails : ℕ → (ℕ → Bool) → ℕ
fails zero f = 0
fails (suc m) f = cond (f m) 0 1 + fails m f

pub fails_same : (m : ℕ) (f g : ℕ → Bool) → ((k : ℕ) → k < m → f k ≡ g k) → fails m f ≡ fails m g
unfolding fails
fails_same zero f g e = refl
fails_same (suc m) f g e = λ i. cond (e m (omega arith) i) 0 1 + fails_same m f g (λ k h. e k (omega arith)) i

pub fails_none : (f : ℕ → Bool) → fails 0 f ≡ 0
unfolding fails
fails_none f = refl

pub fails_more : (m : ℕ) (f : ℕ → Bool) → f m ≡ false → fails (m + 1) f ≡ fails m f + 1
unfolding fails
fails_more m f e = let s : m + 1 ≡ suc m = omega arith in ap (λ n. fails n f) s ∙ ap (λ b. cond b 0 1 + fails m f) e ∙ omega arith

-- one number more that passes
pub fails_less : (m a : ℕ) (f : ℕ → Bool) → a < m → f a ≡ false → fails m f ≡ suc (fails m (λ k. eqb a k || f k))
unfolding fails
fails_less zero a f lt e = absurd (omega arith)
fails_less (suc m) a f lt e =
    ⊎_elim
    (λ (p : a ≡ m).
    let here : f m ≡ false = ap f (sym p) ∙ e in
    let rest = fails_same m f (λ k. eqb a k || f k) (λ k h. ap (λ b. b || f k) (sym (ne_eqb a k (λ q. let z : k < k = omega arith in omega arith)))) in
    let one : ◌≡◌ {A = ℕ} (cond (f m) 0 1) 1 = ap (λ b. cond {A = ℕ} b 0 1) here in
    let none : ◌≡◌ {A = ℕ} (cond (eqb a m || f m) 0 1) 0 = ap (λ b. cond {A = ℕ} (b || f m) 0 1) (eq-eqb a m p) in
    omega arith)
    (λ (p : a ≡ m → ⊥).
    let l : a < m = omega arith in
    let ih = fails_less m a f l e in
    let same : ◌≡◌ {A = ℕ} (cond (eqb a m || f m) 0 1) (cond (f m) 0 1) = ap (λ b. cond {A = ℕ} (b || f m) 0 1) (ne_eqb a m p) in
    omega arith)
    (cases_eq a m)
