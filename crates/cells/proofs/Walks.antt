-- The code's walks over the cells are those of the definitions.
use Rattle.std.proofs.Common.{◌≡◌, ℕ, zero, suc, ◌+◌, ◌-◌, ◌<◌, ◌≤◌, ◌⊎◌, inl, inr, List, ◌++◌, length, take, drop, set, get_or, min, sym, refl, ap, ◌∙◌, add-one, arith}
use Rattle.std.proofs.Math.Nat.{zero-min, min-eq_left}
use Rattle.std.proofs.lemmas.Bool.{cases_lt}
use Rattle.std.proofs.lemmas.List.{take-append-drop, set-append_left, get_or_append_left, get_or_default, set_past}
use Rattle.cells.specs.declared.cell.Body.{Body}
use Rattle.cells.specs.declared.cell.Cell.{Cell}
use Rattle.cells.specs.Bodies.{reset_body}
use Rattle.cells.specs.Flat.{absent, at, with_body, put, drive_line, drive_from, answer_line, answer_to, reset_to}
use Rattle.cells.proofs.Passes.{length_put}

pub drive_down : (i : ℕ) (cs ds : List Cell) → 0 < i → ds ≡ drive_line (i - 1) cs → drive_from (i - 1) ds ≡ drive_from i cs
unfolding drive_from
drive_down zero cs ds h e = let z : ⊥ = omega arith in elim z [ ]
drive_down (suc i) cs ds h e =
    let m : suc i - 1 ≡ i = omega arith in
    ap (λ k. drive_from k ds) m ∙ ap (drive_from i) (e ∙ ap (λ k. drive_line k cs) m)

pub answer_up : (k : ℕ) (cs ms ds : List Cell) → ms ≡ answer_to k cs → ds ≡ answer_line k ms → ds ≡ answer_to (k + 1) cs
unfolding answer_to
answer_up k cs ms ds e f = f ∙ (ap (answer_line k) e ∙ sym (ap (λ j. answer_to j cs) (add-one k)))

pub drive_start : (n : ℕ) (cs ds : List Cell) → drive_from 0 ds ≡ drive_from n cs → ds ≡ drive_from n cs
unfolding drive_from
drive_start n cs ds e = e

pub answer_start : (cs : List Cell) → cs ≡ answer_to 0 cs
unfolding answer_to
answer_start cs = refl

length_reset : (n : ℕ) (cs : List Cell) → length (reset_to n cs) ≡ length cs
unfolding reset_to
length_reset zero cs = refl
length_reset (suc n) cs = length_put (reset_to n cs) n _ ∙ length_reset n cs

-- a reset of lines that are not there resets those that are
pub reset_past : (n : ℕ) (cs : List Cell) → reset_to (min n (length cs)) cs ≡ reset_to n cs
unfolding reset_to put
reset_past zero cs = ap (λ k. reset_to k cs) (zero-min (length cs))
reset_past (suc n) cs = by (cases_lt n (length cs)) (reset_past n cs)
  where
    by : (n < length cs) ⊎ (length cs ≤ n) → reset_to (min n (length cs)) cs ≡ reset_to n cs
        → reset_to (min (suc n) (length cs)) cs ≡ reset_to (suc n) cs
    by (inl h) e = ap (λ k. reset_to k cs) (min-eq_left h)
    by (inr h) e =
        let m : min (suc n) (length cs) ≡ min n (length cs) = omega arith in
        ap (λ k. reset_to k cs) m ∙ (e ∙ sym (set_past (reset_to n cs) n _ (omega (arith, length_reset n cs))))

-- no line is reset yet
pub reset_none : (n : ℕ) (cs : List Cell) → take n cs ++ drop n cs ≡ reset_to 0 cs
unfolding reset_to
reset_none n cs = take-append-drop n cs

-- one line more is reset
pub reset_more : (k : ℕ) (cs xs ys : List Cell) (x : Cell) (b : Body) → k < length xs → xs ++ ys ≡ reset_to k cs → b ≡ reset_body (get_or xs k x).body
    → set xs k (with_body (get_or xs k x) b) ++ ys ≡ reset_to (k + 1) cs
unfolding reset_to put
reset_more k cs xs ys x b h e eb =
    let at_k : at (reset_to k cs) k ≡ get_or xs k x = ap (λ l. at l k) (sym e) ∙ (get_or_append_left xs ys absent k h ∙ get_or_default xs k absent x h) in
    sym (set-append_left xs ys k _ h) ∙ (ap (λ l. set l k (with_body (get_or xs k x) b)) e ∙ rw (add-one, at_k, eb, ap (λ c. c.body) at_k) refl)
